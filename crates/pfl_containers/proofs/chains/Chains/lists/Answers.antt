use Rattle.std.proofs.Common.{sym}
use Rattle.pfl_containers.proofs.Views.{lists-counted}
use Rattle.pfl_containers.proofs.chains.Chains.lists.Goals as goal

pub returns : goal.returns
returns g c = record { lists = sym (lists-counted _ _ _ _ _ c.self.invariant.0 _ c.self.view_is) }
