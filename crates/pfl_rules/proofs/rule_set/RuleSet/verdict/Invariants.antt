use Rattle.std.proofs.Common.{◌≡◌, ◌≤◌, length, drop}
use Rattle.pfl_rules.specs.Rules.{verdict as verdict_of}
use Rattle.pfl_rules.proofs.Verdicts.{rest}
use Rattle.pfl_rules.proofs.rule_set.RuleSet.verdict.Given as goal

abbrev pub invariant-loop-number : goal.invariant-loop-number
invariant-loop-number g l = record {
  items : l.rule-items ≡ l.self.list;
  few : length l.rule-items ≤ 256;
  whole : rest l.packet l.dir l.verdict l.number (drop l.number l.rule-items) ≡ verdict_of l.self.list l.packet l.dir;
}
