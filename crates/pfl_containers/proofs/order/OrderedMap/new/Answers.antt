use Rattle.pfl_containers.proofs.Mapping.{listed_is, stores_listed}
use Rattle.pfl_containers.proofs.order.OrderedMap.new.Goals as goal

pub invariant_of-result : goal.invariant_of-result
invariant_of-result g c = stores_listed c.in_ok-arena.ensures.stores

pub returns-clause-empty : goal.returns-clause-empty
returns-clause-empty g c = listed_is c.in_ok-arena.ensures.stores
