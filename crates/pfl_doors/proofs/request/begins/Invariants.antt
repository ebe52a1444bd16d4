use Rattle.std.proofs.Common.{◌≡◌, drop}
use Rattle.pfl_doors.specs.Requests.{begins}
use Rattle.pfl_doors.proofs.request.begins.Given as goal

-- what is left of both decides
abbrev pub invariant-loop-index : goal.invariant-loop-index
invariant-loop-index l = begins l.text l.bytes ≡ begins (drop l.index l.text) (drop l.index l.bytes)
