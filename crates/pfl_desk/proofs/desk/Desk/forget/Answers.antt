use Rattle.std.proofs.Common.{◌∙◌, ap, sym}
use Rattle.pfl_desk.specs.Changes as to
use Rattle.pfl_desk.specs.Nodes.{Node}
use Rattle.pfl_desk.proofs.Deletions.{forgotten-is}
use Rattle.pfl_desk.proofs.Recording.{writes-then}
use Rattle.pfl_desk.proofs.desk.Desk.forget.Goals as goal

pub returns-clause-node : goal.returns-clause-node
returns-clause-node g c =
    c.take_out.ensures.node ∙ (ap (λ (n : Node). to.withdraw (to.without_state n c.args.name) c.args.name) c.drop_held.ensures.node
    ∙ sym (forgotten-is c.args.self.now.node c.args.name))

pub returns-clause-writes : goal.returns-clause-writes
returns-clause-writes g c = writes-then 2 2 _ _ _ c.drop_held.ensures.writes c.take_out.ensures.writes
