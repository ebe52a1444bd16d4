use Rattle.std.specs.Prelude.{length}
use Rattle.std.proofs.Common.{ap, arith, length-take-le}
use Rattle.pfl_timeline.specs.Histories.{History}
use Rattle.pfl_timeline.proofs.history.History.first.Goals as goal

pub redo-requires : goal.redo-requires
redo-requires g c =
    let cursor = ap (λ (r : History). r.cursor) c.in_ok-first.ensures.history in
    let events = ap (λ (r : History). length r.events) c.in_ok-first.ensures.history in
    record { within = omega (arith, cursor, events, length-take-le c.args.count c.args.self.now.events c.requires.within, c.min-standing.ensures) }
