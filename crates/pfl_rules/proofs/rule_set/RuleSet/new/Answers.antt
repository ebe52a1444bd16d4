use Rattle.std.proofs.Common.{ap, ◌∙◌}
use Rattle.md5.specs.Md5.{md5}
use Rattle.pfl_rules.specs.Rules.{no_timeouts, rule_set, Rules}
use Rattle.pfl_rules.specs.Texts.{canonical_text}
use Rattle.pfl_rules.proofs.rule_set.RuleSet.new.Goals as goal

pub returns-in_ok-text-in-None-clause-set : goal.returns-in_ok-text-in-None-clause-set
unfolding rule_set
returns-in_ok-text-in-None-clause-set g c =
    ap (λ print. let set : Rules = record { list = c.args.rules.items; timeouts = no_timeouts; print = print } in set)
    (c.digest-print.ensures ∙ ap md5 (c.as_bytes.ensures.value ∙ c.in_ok-text-in-None.ensures ∙ ap canonical_text c.deref-in-None.ensures.value))
