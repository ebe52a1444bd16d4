use Rattle.std.proofs.Common.{refl, ap}
use Rattle.std.specs.List.{flat_map}
use Rattle.std.proofs.Output.{has_written_append, has_written_of_eq}
use Rattle.std.proofs.lemmas.List.{take_all}
use Rattle.pfl_rules.specs.Texts.{canonical_text, rule_text}
use Rattle.pfl_rules.proofs.Lines.{text_more}
use Rattle.pfl_rules.proofs.text.CanonicalDisplay.fmt.Goals as goal

pub loop-rule-preserved : goal.loop-rule-preserved
loop-rule-preserved g c plain =
    let so_far = c.loop-rule.invariant plain in
    has_written_of_eq _ _ _ _ _ (text_more rule_text _ _ _ _ c.rule-item.is c.loop-rule-test.true)
    (has_written_append _ _ _ _ _ _ so_far (c.in_ok-writeln.ensures.writes so_far.plain refl))

pub returns-clause-writes : goal.returns-clause-writes
unfolding canonical_text
returns-clause-writes g c plain done =
    has_written_of_eq _ _ _ _ _ (ap (flat_map rule_text) (take_all _ _ c.loop-rule-test.false)) (c.loop-rule.invariant plain)
