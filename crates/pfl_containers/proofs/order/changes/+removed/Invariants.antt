use Rattle.pfl_containers.proofs.order.changes.+removed.Given as goal

abbrev pub decreases-removed : goal.decreases-removed
decreases-removed g l = l.steps
