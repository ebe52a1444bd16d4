use Rattle.std.proofs.Common.{arith}
use Rattle.pfl_edits.specs.inner.Tapes.{all_edits}
use Rattle.pfl_edits.proofs.Turns.{length-all_edits}
use Rattle.pfl_edits.proofs.tapes.Tape.len.Goals as goal

pub returns : goal.returns
returns g c =
    let larger = all_edits g.E.Packed.whole_middle c.self.inside.larger_turns.items c.self.inside.middle.items c.self.inside.large.items in
    let all = length-all_edits g.E.Packed.whole_small c.self.inside.turns.items c.self.inside.small.items larger c.self.invariant.0 in
    record { length = rw (← c.self.view_is) (omega (arith, all, c.len.ensures, c.self.inside.turns.ok.0)) }
