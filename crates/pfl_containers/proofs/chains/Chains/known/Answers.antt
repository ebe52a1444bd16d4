use Rattle.pfl_containers.proofs.Views.{lists-known}
use Rattle.pfl_containers.proofs.chains.Chains.known.Goals as goal

pub returns : goal.returns
returns g c = record { lists = lists-known _ _ _ _ _ c.self.invariant.0 _ c.self.view_is }
