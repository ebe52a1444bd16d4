use Rattle.std.specs.Io.KnownBytes.{Keeps}
use Rattle.pfl_base.proofs.std_device.write_again.Given as goal

-- the interrupted calls took nothing
abbrev pub invariant-loop : goal.invariant-loop
invariant-loop g l = Keeps (g.D.Write.contents l.fn.device) (g.D.Write.contents l.device)
