use Rattle.std.proofs.Common.{rules, ◌∙◌, ap, sym}
use Rattle.pfl_edits.specs.Tapes.{Taped}
use Rattle.pfl_edits.specs.inner.Tapes.{all_edits}
use Rattle.pfl_edits.proofs.Turns.{less_small}
use Rattle.pfl_edits.proofs.Levels.{turns_less_middle, edits_less_middle, turns_less_large, edits_less_large}
use Rattle.pfl_edits.proofs.tapes.Tape.pop.Goals as goal

pub invariant_of-self-then-unwrap : goal.invariant_of-self-then-unwrap
invariant_of-self-then-unwrap g c =
    let larger = rw c.unwrap-else-is_small.ensures at c.pop-else-is_small.ensures.items in
    let middle = rw c.unwrap-then-unwrap.ensures at c.pop-then-unwrap.ensures.items in
    let less = turns_less_middle g.E.Packed.whole_small g.E.Packed.whole_middle _ _ _ _ _ c.self.invariant.0 c.self.invariant.1 _ _
    c.in_ok-is_small.ensures.items c.if-is_small.false _ _ larger c.if-unwrap.true _ _ middle in (
      less.0,
      less.1,
      search rules,
      search rules,
      search rules,
      search rules,
      search rules,
    )

pub invariant_of-self-else-unwrap : goal.invariant_of-self-else-unwrap
invariant_of-self-else-unwrap g c =
    let larger = rw c.unwrap-else-is_small.ensures at c.pop-else-is_small.ensures.items in
    let large = rw c.unwrap-else-unwrap.ensures at c.pop-else-unwrap.ensures.items in
    let less = turns_less_large g.E.Packed.whole_small g.E.Packed.whole_middle _ _ _ _ _ c.self.invariant.0 c.self.invariant.1 _ _
    c.in_ok-is_small.ensures.items c.if-is_small.false _ _ larger c.if-unwrap.false _ _ large in (
      less.0,
      less.1,
      search rules,
      search rules,
      search rules,
      search rules,
      search rules,
    )

pub returns-then-is_small-clause-edit : goal.returns-then-is_small-clause-edit
returns-then-is_small-clause-edit g c =
    let t = c.self.inside in
    let larger = all_edits g.E.Packed.whole_middle t.larger_turns.items t.middle.items t.large.items in
    let less = less_small g.E.Packed.whole_small _ _ _ _ _ _ _ larger c.self.invariant.0 c.in_ok-is_small.ensures.items c.if-is_small.true
    c.pop-then-is_small.ensures.items c.unwrap.ensures in
    rw c.unpack_small.ensures.whole (sym (ap (λ (t : Taped _). t.list) c.self.view_is) ∙ less)

pub returns-then-unwrap-clause-edit : goal.returns-then-unwrap-clause-edit
returns-then-unwrap-clause-edit g c =
    let larger = rw c.unwrap-else-is_small.ensures at c.pop-else-is_small.ensures.items in
    let middle = rw c.unwrap-then-unwrap.ensures at c.pop-then-unwrap.ensures.items in
    let less = edits_less_middle g.E.Packed.whole_small g.E.Packed.whole_middle _ _ _ _ _ c.self.invariant.0 c.self.invariant.1 _ _
    c.in_ok-is_small.ensures.items c.if-is_small.false _ _ larger c.if-unwrap.true _ _ middle in
    rw c.unpack_middle.ensures.whole (sym (ap (λ (t : Taped _). t.list) c.self.view_is) ∙ less)

pub returns-else-unwrap-clause-edit : goal.returns-else-unwrap-clause-edit
returns-else-unwrap-clause-edit g c =
    let larger = rw c.unwrap-else-is_small.ensures at c.pop-else-is_small.ensures.items in
    let large = rw c.unwrap-else-unwrap.ensures at c.pop-else-unwrap.ensures.items in
    let less = edits_less_large g.E.Packed.whole_small g.E.Packed.whole_middle _ _ _ _ _ c.self.invariant.0 c.self.invariant.1 _ _
    c.in_ok-is_small.ensures.items c.if-is_small.false _ _ larger c.if-unwrap.false _ _ large in
    sym (ap (λ (t : Taped _). t.list) c.self.view_is) ∙ less
