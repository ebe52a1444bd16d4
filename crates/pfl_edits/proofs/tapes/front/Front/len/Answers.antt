use Rattle.std.proofs.Common.{sym}
use Rattle.pfl_edits.specs.inner.Tapes.{all_edits}
use Rattle.pfl_edits.proofs.Turns.{length-all_edits}
use Rattle.pfl_edits.proofs.tapes.front.Front.len.Goals as goal

pub returns : goal.returns
returns g c =
    let f = c.self.inside in
    let larger = all_edits g.E.Packed.whole_middle f.larger_turns.now f.middle.now f.large.now in
    record { length = rw (← c.self.view_is) (sym (length-all_edits g.E.Packed.whole_small f.turns.now f.small.now larger c.self.invariant.0)) }
