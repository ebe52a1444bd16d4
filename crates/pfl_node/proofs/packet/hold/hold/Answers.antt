use Rattle.std.proofs.Common.{refl}
use Rattle.pfl_receive.specs.defer.Deferring.{with_held}
use Rattle.pfl_receive.proofs.ForCallers.desk.{writes-then, held-may}
use Rattle.pfl_node.proofs.Holding.{waits-is}
use Rattle.pfl_node.proofs.packet.hold.hold.Goals as goal

pub keep-requires-clause-given : goal.keep-requires-clause-given
keep-requires-clause-given g c = rw c.name-name.ensures c.requires.known.is.given

pub keep-requires-clause-fresh : goal.keep-requires-clause-fresh
keep-requires-clause-fresh g c = rw c.name-name.ensures c.requires.fresh

pub replace_state-requires-clause-may : goal.replace_state-requires-clause-may
replace_state-requires-clause-may g c =
    let n = c.args.desk.now.node in
    let d = with_held n.held c.name-name.result c.args.packet.now n.clock in
    rw c.keep.ensures.node (held-may n c.args.waiting d c.requires.known)

pub returns-clause-step : goal.returns-clause-step
returns-clause-step g c =
    rw (c.push_if.ensures.node, c.replace_state.ensures.node, c.keep.ensures.node, c.name-name.ensures) (rw (waits-is c.args.waiting c.requires.waits) refl)

pub returns-clause-writes : goal.returns-clause-writes
returns-clause-writes g c =
    writes-then 2 1 _ _ _
    (writes-then 1 1 _ _ _ c.keep.ensures.writes c.replace_state.ensures.writes) c.push_if.ensures.writes
