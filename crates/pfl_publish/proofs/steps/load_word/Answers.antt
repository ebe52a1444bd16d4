use Rattle.std.proofs.Common.{arith}
use Rattle.pfl_publish.proofs.Keeps.{loads_next}
use Rattle.pfl_publish.proofs.steps.load_word.Goals as goal

pub load-requires : goal.load-requires
load-requires g c =
    let wide = c.requires.table.1 in let near = c.word_index.ensures.within in let part = c.requires.part in
    (c.requires.table.0, omega arith, loads_next _ _ c.args.seat.now.me c.args.number c.args.i c.word_index.result part.0 part.1 part.2 c.word_index.ensures.is)
