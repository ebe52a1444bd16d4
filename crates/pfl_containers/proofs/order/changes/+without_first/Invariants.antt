use Rattle.pfl_containers.proofs.order.changes.+without_first.Given as goal

abbrev pub decreases-without_first : goal.decreases-without_first
decreases-without_first g l = l.steps
