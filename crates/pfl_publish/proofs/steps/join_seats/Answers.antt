use Rattle.std.proofs.Common.{arith}
use Rattle.pfl_publish.proofs.Keeps.{joins}
use Rattle.pfl_publish.proofs.steps.join_seats.Goals as goal

pub join_seat-requires : goal.join_seat-requires
join_seat-requires g c =
    let wide = c.requires.table.1 in let other = c.requires.other in (c.requires.table.0, other.0, other.1, omega arith, joins _ _ _ _)
