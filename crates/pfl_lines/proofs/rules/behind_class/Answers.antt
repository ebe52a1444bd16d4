use Rattle.std.proofs.Common.{ap, sym, ◌∙◌, List, ℕ}
use Rattle.std.specs.Option.{option_map}
use Rattle.pfl_lines.specs.Words.{words}
use Rattle.pfl_lines.specs.Rules.{behind_word}
use Rattle.pfl_lines.proofs.Timeouts.{class_behind}
use Rattle.pfl_lines.proofs.rules.behind_class.Goals as goal

pub returns-in-Some : goal.returns-in-Some
returns-in-Some c =
    c.behind_word-in-Some.ensures
    ∙ (ap (λ (name : List ℕ). behind_word name (words c.in-Some.rest.now)) c.word.ensures.word
    ∙ sym (class_behind c.args.class (words c.args.line.now) (words c.in-Some.rest.now) (sym c.behind_word.ensures
    ∙ ap (option_map (λ x. words x.now)) c.in-Some.is)))
