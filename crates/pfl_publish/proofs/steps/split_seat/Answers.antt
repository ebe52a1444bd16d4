use Rattle.std.proofs.Common.{arith}
use Rattle.pfl_publish.proofs.Keeps.{splits}
use Rattle.pfl_publish.proofs.steps.split_seat.Goals as goal

pub split_seat-requires : goal.split_seat-requires
split_seat-requires g c = let wide = c.requires.table.1 in (c.requires.table.0, omega arith, splits _ _)
