use Rattle.std.proofs.Common.{◌≡◌, true, ◌∙◌, ap, sym, subst}
use Rattle.std.specs.Prelude.{OnOk, OnErr}
use Rattle.pfl_desk.specs.Changes as to
use Rattle.pfl_desk.specs.Nodes.{Node, is_overfull}
use Rattle.pfl_desk.proofs.Deletions.{deleted-is, lost-stands}
use Rattle.pfl_desk.proofs.Recording.{writes-then}
use Rattle.pfl_desk.proofs.desk.Desk.delete.Goals as goal

pub announce_deletion-requires-clause-stands : goal.announce_deletion-requires-clause-stands
announce_deletion-requires-clause-stands g c =
    rw c.drop_held.ensures.node (rw c.name.ensures (lost-stands c.args.self.now.node c.args.state.now c.requires.stands))

pub returns-clause-full : goal.returns-clause-full
returns-clause-full g c =
    let s = c.args.state.now in
    let lost = c.drop_held.ensures.node ∙ ap (to.lost c.args.self.now.node) c.name.ensures in
    let same = ap (λ n. to.deletion_announced (to.without_state n s.name) s) lost ∙ sym (deleted-is c.args.self.now.node s) in
    subst (λ (m : Node). OnErr c.announce_deletion.result (is_overfull m ≡ true)) same c.announce_deletion.ensures.full

pub returns-clause-node : goal.returns-clause-node
returns-clause-node g c =
    let s = c.args.state.now in
    let lost = c.drop_held.ensures.node ∙ ap (to.lost c.args.self.now.node) c.name.ensures in
    let same = ap (λ n. to.deletion_announced (to.without_state n s.name) s) lost ∙ sym (deleted-is c.args.self.now.node s) in
    subst (λ (m : Node). OnOk c.announce_deletion.result (c.announce_deletion.new.self.node ≡ m)) same c.announce_deletion.ensures.node

pub returns-clause-writes : goal.returns-clause-writes
returns-clause-writes g c = writes-then 2 3 _ _ _ c.drop_held.ensures.writes c.announce_deletion.ensures.writes
