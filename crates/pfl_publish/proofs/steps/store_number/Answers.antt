use Rattle.std.proofs.Common.{arith}
use Rattle.pfl_publish.proofs.Keeps.{publishes_next}
use Rattle.pfl_publish.proofs.steps.store_number.Goals as goal

pub store-requires : goal.store-requires
store-requires g c =
    let wide = c.requires.table.1 in let part = c.requires.part in
    (c.requires.table.0, omega arith, publishes_next _ _ c.args.seat.now.me c.args.number _ _ part.0 part.1 c.requires.stored c.requires.named)
