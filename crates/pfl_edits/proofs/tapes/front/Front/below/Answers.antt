use Rattle.std.proofs.Common.{List, ◌≤◌, ◌∙◌, ap, length, subst, sym}
use Rattle.pfl_edits.specs.Tapes.{below}
use Rattle.pfl_edits.proofs.Fronts.{turns_below, larger_turns_below, large_below, turns_front, edits_front}
use Rattle.pfl_edits.proofs.tapes.front.Front.below.Goals as goal

pub slice_bounds-turns-end : goal.slice_bounds-turns-end
slice_bounds-turns-end g c =
    let f = c.self.inside in
    let within = subst (λ (es : List _). c.args.mark ≤ length es) (sym c.self.view_is) c.requires.within in
    turns_below g.E.Packed.whole_small g.E.Packed.whole_middle f.turns.now f.small.now f.larger_turns.now f.middle.now f.large.now
    c.self.invariant.0 c.self.invariant.1 c.args.mark within

pub slice_bounds-larger_turns-length : goal.slice_bounds-larger_turns-length
slice_bounds-larger_turns-length g c =
    let f = c.self.inside in
    let within = subst (λ (es : List _). c.args.mark ≤ length es) (sym c.self.view_is) c.requires.within in
    larger_turns_below g.E.Packed.whole_small g.E.Packed.whole_middle f.turns.now f.small.now f.larger_turns.now f.middle.now f.large.now
    c.self.invariant.0 c.self.invariant.1 c.args.mark within c.count_marked-small.result c.count_marked-small.ensures.count

pub slice_bounds-result-end-3 : goal.slice_bounds-result-end-3
slice_bounds-result-end-3 g c =
    let f = c.self.inside in
    let within = subst (λ (es : List _). c.args.mark ≤ length es) (sym c.self.view_is) c.requires.within in
    large_below g.E.Packed.whole_small g.E.Packed.whole_middle f.turns.now f.small.now f.larger_turns.now f.middle.now f.large.now
    c.self.invariant.0 c.self.invariant.1 c.args.mark within c.count_marked-small.result c.count_marked-small.ensures.count
    c.count_marked-middle.result c.count_marked-middle.ensures.count

pub invariant_of-result : goal.invariant_of-result
invariant_of-result g c =
    let f = c.self.inside in
    let within = subst (λ (es : List _). c.args.mark ≤ length es) (sym c.self.view_is) c.requires.within in
    turns_front g.E.Packed.whole_small g.E.Packed.whole_middle f.turns.now f.small.now f.larger_turns.now f.middle.now f.large.now
    c.self.invariant.0 c.self.invariant.1 c.args.mark within c.count_marked-small.result c.count_marked-small.ensures.count
    c.count_marked-middle.result c.count_marked-middle.ensures.count

pub returns : goal.returns
returns g c =
    let f = c.self.inside in
    let within = subst (λ (es : List _). c.args.mark ≤ length es) (sym c.self.view_is) c.requires.within in
    record {
      edits = edits_front g.E.Packed.whole_small g.E.Packed.whole_middle f.turns.now f.small.now f.larger_turns.now f.middle.now
          f.large.now c.self.invariant.0 c.self.invariant.1 c.args.mark within c.count_marked-small.result c.count_marked-small.ensures.count
          c.count_marked-middle.result c.count_marked-middle.ensures.count ∙ ap (below c.args.mark) c.self.view_is;
    }
