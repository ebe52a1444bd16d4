use Rattle.std.proofs.Common.{◌≡◌, true, rules}
use Rattle.pfl_desk.specs.Changes as to
use Rattle.pfl_desk.proofs.Deletions.{kept-out, unmarked-out}
use Rattle.pfl_desk.proofs.desk.Desk.take_out.Goals as goal
use Rattle.pfl_desk.proofs.desk.Desk.take_out.Goals.{then-not-keeps_deletion, else-not-keeps_deletion}

pub take_state-requires-clause-parts : goal.take_state-requires-clause-parts
take_state-requires-clause-parts g c =
    let n = c.args.self.now.node in
    elim c.if-not-keeps_deletion.branch [
      | then-not-keeps_deletion w ↦ rw (w.self-is, w.unmark.ensures.node) (unmarked-out n c.args.name c.known.ensures.parts)
      | else-not-keeps_deletion w ↦
          let keeps : to.keeps_deletion n c.args.name ≡ true = search rules in
          rw w.self-is (kept-out n c.args.name c.known.ensures.parts keeps)
    ]
