use Rattle.pfl_containers.proofs.order.changes.+inserted.Given as goal

abbrev pub decreases-inserted : goal.decreases-inserted
decreases-inserted g l = l.steps
