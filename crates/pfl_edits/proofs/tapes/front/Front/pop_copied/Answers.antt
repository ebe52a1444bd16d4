use Rattle.std.proofs.Common.{Some, refl, ◌∙◌, sym}
use Rattle.pfl_edits.specs.inner.Tapes.{all_edits}
use Rattle.pfl_edits.proofs.Turns.{less_small}
use Rattle.pfl_edits.proofs.Levels.{turns_less_middle, edits_less_middle, turns_less_large, edits_less_large}
use Rattle.pfl_edits.proofs.tapes.front.Front.pop_copied.Goals as goal

pub returns-then-is_small : goal.returns-then-is_small
returns-then-is_small g c =
    let f = c.self.inside in
    let turns = rw c.unwrap.ensures at c.split_last.ensures.cases in
    let small = rw c.unwrap-then-is_small.ensures at c.split_last-then-is_small.ensures.cases in
    let larger = all_edits g.E.Packed.whole_middle f.larger_turns.now f.middle.now f.large.now in
    let less = less_small g.E.Packed.whole_small f.turns.now c.unwrap.result.1.now c.unwrap.result.0.now f.small.now c.unwrap-then-is_small.result.1.now
    (Some c.unwrap-then-is_small.result.0.now) c.unwrap-then-is_small.result.0.now larger c.self.invariant.0 turns.0 c.if-is_small.true small.0 refl in
    record { edit = rw c.unpack_small.ensures.whole (sym c.self.view_is ∙ less); stays = tt }

pub invariant_of-self-then-is_middle : goal.invariant_of-self-then-is_middle
invariant_of-self-then-is_middle g c =
    let f = c.self.inside in
    let turns = rw c.unwrap.ensures at c.split_last.ensures.cases in
    let larger = rw c.unwrap-2.ensures at c.split_last-2.ensures.cases in
    let middle = rw c.unwrap-then-is_middle.ensures at c.split_last-then-is_middle.ensures.cases in
    turns_less_middle g.E.Packed.whole_small g.E.Packed.whole_middle f.turns.now f.small.now f.larger_turns.now f.middle.now f.large.now
    c.self.invariant.0 c.self.invariant.1 c.unwrap.result.1.now c.unwrap.result.0.now turns.0 c.if-is_small.false
    c.unwrap-2.result.1.now c.unwrap-2.result.0.now larger.0 c.if-is_middle.true c.unwrap-then-is_middle.result.1.now
    c.unwrap-then-is_middle.result.0.now middle.0

pub returns-then-is_middle : goal.returns-then-is_middle
returns-then-is_middle g c =
    let f = c.self.inside in
    let turns = rw c.unwrap.ensures at c.split_last.ensures.cases in
    let larger = rw c.unwrap-2.ensures at c.split_last-2.ensures.cases in
    let middle = rw c.unwrap-then-is_middle.ensures at c.split_last-then-is_middle.ensures.cases in
    record {
      edit = rw c.unpack_middle.ensures.whole (sym c.self.view_is
          ∙ edits_less_middle g.E.Packed.whole_small g.E.Packed.whole_middle f.turns.now f.small.now f.larger_turns.now f.middle.now
          f.large.now c.self.invariant.0 c.self.invariant.1 c.unwrap.result.1.now c.unwrap.result.0.now turns.0 c.if-is_small.false
          c.unwrap-2.result.1.now c.unwrap-2.result.0.now larger.0 c.if-is_middle.true c.unwrap-then-is_middle.result.1.now
          c.unwrap-then-is_middle.result.0.now middle.0);
      stays = tt;
    }

pub invariant_of-self-2 : goal.invariant_of-self-2
invariant_of-self-2 g c =
    let f = c.self.inside in
    let turns = rw c.unwrap.ensures at c.split_last.ensures.cases in
    let larger = rw c.unwrap-2.ensures at c.split_last-2.ensures.cases in
    let large = rw c.unwrap-3.ensures at c.split_last-3.ensures.cases in
    turns_less_large g.E.Packed.whole_small g.E.Packed.whole_middle f.turns.now f.small.now f.larger_turns.now f.middle.now f.large.now
    c.self.invariant.0 c.self.invariant.1 c.unwrap.result.1.now c.unwrap.result.0.now turns.0 c.if-is_small.false
    c.unwrap-2.result.1.now c.unwrap-2.result.0.now larger.0 c.if-is_middle.false c.unwrap-3.result.1.now c.unwrap-3.result.0.now large.0

pub returns : goal.returns
returns g c =
    let f = c.self.inside in
    let turns = rw c.unwrap.ensures at c.split_last.ensures.cases in
    let larger = rw c.unwrap-2.ensures at c.split_last-2.ensures.cases in
    let large = rw c.unwrap-3.ensures at c.split_last-3.ensures.cases in
    record {
      edit = rw c.in_ok-edit.ensures.same (sym c.self.view_is
          ∙ edits_less_large g.E.Packed.whole_small g.E.Packed.whole_middle f.turns.now f.small.now f.larger_turns.now f.middle.now
          f.large.now c.self.invariant.0 c.self.invariant.1 c.unwrap.result.1.now c.unwrap.result.0.now turns.0 c.if-is_small.false
          c.unwrap-2.result.1.now c.unwrap-2.result.0.now larger.0 c.if-is_middle.false c.unwrap-3.result.1.now c.unwrap-3.result.0.now large.0);
      stays = tt;
    }
