use Rattle.std.proofs.Common.{◌≡◌, length}
use Rattle.pfl_containers.proofs.RingNodes.{HeadsAlone}
use Rattle.pfl_containers.proofs.chains.rings.Rings.new.Given as goal

abbrev pub invariant-loop-ring : goal.invariant-loop-ring
invariant-loop-ring g l = record {
  count : length l.heads.items ≡ l.ring;
  alone : HeadsAlone l.limit l.heads.items;
}
