-- A rule for worked cases.
use Rattle.std.specs.Prelude.{false, None, replicate}
use Rattle.pfl_rules.specs.declared.action.Action.{Action}
use Rattle.pfl_rules.specs.declared.rule.Rule.{Rule}
use Rattle.pfl_rules.specs.declared.rule_dir.RuleDir.{RuleDir}

-- the rule with nothing but an action and a direction
abbrev pub plain_rule : Action → RuleDir → Rule
plain_rule action direction = record {
  action = action;
  direction = direction;
  quick = false;
  proto = None;
  from = None;
  from_port = None;
  to = None;
  to_port = None;
  any_flags = false;
  no_sync = false;
  max = None;
  nat = None;
  rdr = None;
  timeouts = replicate 14 None;
}
