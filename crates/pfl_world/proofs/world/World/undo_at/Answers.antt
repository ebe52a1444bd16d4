use Rattle.std.proofs.Common.{◌∙◌, ap}
use Rattle.pfl_node.specs.desk.Nodes.{Node}
use Rattle.pfl_world.proofs.Leads.{back_limits, agrees_with}
use Rattle.pfl_world.proofs.world.World.undo_at.Goals as goal

pub invariant_of-self : goal.invariant_of-self
invariant_of-self g c =
    agrees_with _ c.self.invariant c.args.node c.undo_all.new.value
    (ap (λ (n : Node). n.limits) c.undo_all.ensures.value ∙ back_limits c.args.change.list c.at_mut.result.now
    ∙ ap (λ (n : Node). n.limits) c.at_mut.ensures.node)
