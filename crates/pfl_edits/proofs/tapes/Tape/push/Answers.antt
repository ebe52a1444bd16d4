use Rattle.std.proofs.Common.{rules}
use Rattle.pfl_edits.specs.inner.Tapes.{all_edits}
use Rattle.pfl_edits.proofs.Turns.{all_edits-small, all_edits-large, HaveTurns-small, HaveTurns-large}
use Rattle.pfl_edits.proofs.Levels.{all_edits-larger, HaveTurns-larger}
use Rattle.pfl_edits.proofs.tapes.Tape.push.Goals as goal

pub invariant_of-self-in-Middle : goal.invariant_of-self-in-Middle
invariant_of-self-in-Middle g c =
    let t = c.self.inside in
    let whole = g.E.Packed.whole_middle in
    let newest = all_edits-small whole t.larger_turns.items t.middle.items t.large.items c.self.invariant.1 c.in-Middle.middle in
    let turns = rw c.unwrap-in-Middle.ensures at c.push-in-Middle.ensures.items in
    let larger = rw c.unwrap-in-Middle-2.ensures at c.push-in-Middle-2.ensures.items in
    let middle = rw c.unwrap-in-Middle-3.ensures at c.push-in-Middle-3.ensures.items in (
      rw (turns, larger, middle) (HaveTurns-larger g.E.Packed.whole_small t.turns.items t.small.items _ _ c.self.invariant.0 _ newest),
      rw (larger, middle) (HaveTurns-small whole t.larger_turns.items t.middle.items t.large.items c.self.invariant.1 c.in-Middle.middle),
      search rules,
      search rules,
      search rules,
      search rules,
      search rules,
    )

pub invariant_of-self-in-Large : goal.invariant_of-self-in-Large
invariant_of-self-in-Large g c =
    let t = c.self.inside in
    let whole = g.E.Packed.whole_middle in
    let newest = all_edits-large whole t.larger_turns.items t.middle.items t.large.items c.self.invariant.1 c.in-Large.large in
    let turns = rw c.unwrap-in-Large.ensures at c.push-in-Large.ensures.items in
    let larger = rw c.unwrap-in-Large-2.ensures at c.push-in-Large-2.ensures.items in
    let large = rw c.unwrap-in-Large-3.ensures at c.push-in-Large-3.ensures.items in (
      rw (turns, larger, large) (HaveTurns-larger g.E.Packed.whole_small t.turns.items t.small.items _ _ c.self.invariant.0 _ newest),
      rw (larger, large) (HaveTurns-large whole t.larger_turns.items t.middle.items t.large.items c.self.invariant.1 c.in-Large.large),
      search rules,
      search rules,
      search rules,
      search rules,
      search rules,
    )

pub returns-in-Small-clause-list : goal.returns-in-Small-clause-list
returns-in-Small-clause-list g c =
    let t = c.self.inside in
    let larger = all_edits g.E.Packed.whole_middle t.larger_turns.items t.middle.items t.large.items in
    let more = all_edits-small g.E.Packed.whole_small t.turns.items t.small.items larger c.self.invariant.0 c.in-Small.small in
    let turns = rw c.unwrap.ensures at c.push.ensures.items in
    let small = rw c.unwrap-in-Small.ensures at c.push-in-Small.ensures.items in
    rw (turns, small, ← c.in-Small.ensures.packed, ← c.self.view_is) more

pub returns-in-Middle-clause-list : goal.returns-in-Middle-clause-list
returns-in-Middle-clause-list g c =
    let t = c.self.inside in
    let newest = all_edits-small g.E.Packed.whole_middle t.larger_turns.items t.middle.items t.large.items c.self.invariant.1 c.in-Middle.middle in
    let more = all_edits-larger g.E.Packed.whole_small t.turns.items t.small.items _ _ c.self.invariant.0 _ newest in
    let turns = rw c.unwrap-in-Middle.ensures at c.push-in-Middle.ensures.items in
    let larger = rw c.unwrap-in-Middle-2.ensures at c.push-in-Middle-2.ensures.items in
    let middle = rw c.unwrap-in-Middle-3.ensures at c.push-in-Middle-3.ensures.items in
    rw (turns, larger, middle, ← c.in-Middle.ensures.packed, ← c.self.view_is) more

pub returns-in-Large-clause-list : goal.returns-in-Large-clause-list
returns-in-Large-clause-list g c =
    let t = c.self.inside in
    let newest = all_edits-large g.E.Packed.whole_middle t.larger_turns.items t.middle.items t.large.items c.self.invariant.1 c.in-Large.large in
    let more = all_edits-larger g.E.Packed.whole_small t.turns.items t.small.items _ _ c.self.invariant.0 _ newest in
    let turns = rw c.unwrap-in-Large.ensures at c.push-in-Large.ensures.items in
    let larger = rw c.unwrap-in-Large-2.ensures at c.push-in-Large-2.ensures.items in
    let large = rw c.unwrap-in-Large-3.ensures at c.push-in-Large-3.ensures.items in
    rw (turns, larger, large, ← c.in-Large.ensures.packed, ← c.self.view_is) more
