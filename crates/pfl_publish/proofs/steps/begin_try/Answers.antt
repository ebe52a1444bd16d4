use Rattle.std.proofs.Common.{true, arith}
use Rattle.pfl_publish.proofs.Keeps.{looks}
use Rattle.pfl_publish.proofs.steps.begin_try.Goals as goal

pub load-requires : goal.load-requires
load-requires g c = let wide = c.requires.table.1 in (c.requires.table.0, omega arith, looks _ _ c.args.seat.now.me true c.requires.part)
