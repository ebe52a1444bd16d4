use Rattle.std.proofs.Common.{false, arith}
use Rattle.pfl_publish.proofs.Keeps.{looks_all}
use Rattle.pfl_publish.proofs.steps.first_look.Goals as goal

pub load-requires : goal.load-requires
load-requires g c =
    let wide = c.requires.table.1 in let part = c.requires.part in (c.requires.table.0, omega arith, looks_all _ _ c.args.seat.now.me false part.0 part.1)
