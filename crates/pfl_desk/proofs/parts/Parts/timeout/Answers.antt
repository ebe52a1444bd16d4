-- What is scaled is no longer than what the rules say.
use Rattle.std.proofs.Common.{ap, ◌∙◌, arith}
use Rattle.pfl_rules.specs.Rules.{Rules, timeout as rule_timeout}
use Rattle.pfl_desk.proofs.Shrinking.{scaled-less}
use Rattle.pfl_desk.proofs.parts.Parts.timeout.Goals as goal

pub returns-clause-shrinks : goal.returns-clause-shrinks
returns-clause-shrinks g c =
    let said = c.timeout-seconds.ensures ∙ ap (λ (r : Rules). rule_timeout r c.args.rule c.args.class) c.rules.ensures.rules in
    let less = scaled-less c.timeout-seconds.result c.adaptive.result c.len.result in
    omega (arith, said, less, c.scaled.ensures)
