use Rattle.std.proofs.Common.{rules, tests}
use Rattle.std.specs.Prelude.{bytes_eq}
use Rattle.std.proofs.lemmas.Iterator.{YieldsList-from_slice}
use Rattle.std.proofs.lemmas.Iterator.Search.{any_from_yields_List}
use Rattle.pfl_lines.proofs.event_words.is_event_word.Goals as goal

pub returns : goal.returns
returns c =
    let yields = YieldsList-from_slice {s = c.iter.result} _ c.iter.ensures.rest in
    any_from_yields_List (λ event. bytes_eq c.args.word.now event.now) _ _ c.any.result c.any.ensures.ran yields (λ x b q k. search (rules, tests))
