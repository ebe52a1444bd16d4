use Rattle.pfl_desk.proofs.Recording.{writes-then}
use Rattle.std.proofs.Common.{arith}
use Rattle.pfl_desk.proofs.Telling.{updates-may}
use Rattle.pfl_desk.proofs.desk.Desk.count_update.Goals as goal

pub replace_state-requires-clause-may : goal.replace_state-requires-clause-may
replace_state-requires-clause-may g c =
    let updates = c.saturating_add-updates.ensures in
    rw c.with_updates.ensures (updates-may c.args.self.now.node c.args.state c.saturating_add-updates.result (omega (arith, updates)) c.requires.known)

pub replace_state-requires-in-Udp : goal.replace_state-requires-in-Udp
replace_state-requires-in-Udp g c = record { room = omega (arith, c.requires.room); may = c.requires.known }

pub returns-in-Tcp-clause-writes : goal.returns-in-Tcp-clause-writes
returns-in-Tcp-clause-writes g c = writes-then 1 1 _ _ _ c.replace_state.ensures.writes c.push_if.ensures.writes
