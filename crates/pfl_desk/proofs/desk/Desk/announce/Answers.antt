use Rattle.pfl_base.proofs.ForCallers.{names_total, names_exact}
use Rattle.pfl_desk.proofs.Recording.{writes-then}
use Rattle.std.proofs.Common.{Some, arith}
use Rattle.pfl_edits.proofs.ForCallers.{get-set_at_same}
use Rattle.pfl_queue.specs.declared.Kind.TheVariants.{UpdateShort}
use Rattle.pfl_desk.specs.Changes as to
use Rattle.pfl_desk.proofs.Putting.{told-may}
use Rattle.pfl_desk.proofs.Telling.{updates-may}
use Rattle.pfl_desk.proofs.desk.Desk.announce.Goals as goal

pub replace_state-requires-clause-may : goal.replace_state-requires-clause-may
replace_state-requires-clause-may g c = rw c.with_updates.ensures (updates-may c.args.self.now.node c.args.state 0 (omega arith) c.requires.known)

pub mark-requires-clause-may : goal.mark-requires-clause-may
mark-requires-clause-may g c =
    let t = record c.args.state { updates = 0 } in
    let n = to.put_state c.args.self.now.node t in
    let stands = get-set_at_same names_total names_exact c.args.self.now.node.states t.name (Some t) in
    rw c.name-name.ensures (rw c.replace_state.ensures.node
    (rw c.with_updates.ensures (told-may n t.name UpdateShort t stands c.requires.told c.requires.known.is.given (λ e. cc))))

pub returns-then-is_unannounced-clause-writes : goal.returns-then-is_unannounced-clause-writes
returns-then-is_unannounced-clause-writes g c = writes-then 1 1 _ _ _ c.replace_state.ensures.writes c.mark.ensures.writes
