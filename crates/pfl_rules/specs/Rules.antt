-- Rule sets: their verdicts, timeouts and faults (pf.conf(5)).
use Rattle.std.specs.Prelude.{◌≡◌, ℕ, Bool, true, false, not, ◌&&◌, ◌==◌, nat_lt, Option, Some, None, is_some, List, length, filter, replicate}
use Rattle.std.specs.Prelude.{slice_get, if◌then◌else◌, unwrap_or}
use Rattle.std.specs.List.{enumerate_from, list_any}
use Rattle.std.specs.Option.{option_and_then, option_map_or}
use Rattle.pfl_base.specs.declared.direction.Dir.{Dir}
use Rattle.pfl_base.specs.declared.packet.Packet.{Packet}
use Rattle.pfl_base.specs.declared.class.Class.{Class}
use Rattle.pfl_base.specs.Classes.{class_number, default_timeout}
use Rattle.pfl_base.specs.Lists.{up_to_first, last_of}
use Rattle.md5.specs.Md5.{md5}
use Rattle.pfl_rules.specs.declared.rule.Rule.{Rule}
use Rattle.pfl_rules.specs.declared.rule_dir.RuleDir.{RuleDir}
use Rattle.pfl_rules.specs.declared.rule_dir.RuleDir.TheVariants.{In, Out}
use Rattle.pfl_rules.specs.declared.fault.RuleFault.{RuleFault}
use Rattle.pfl_rules.specs.declared.fault.RuleFault.TheVariants.{TooMany, NatNotOut, ZeroMax, RdrNotIn}
use Rattle.pfl_rules.specs.declared.verdict.Verdict.{Verdict}
use Rattle.pfl_rules.specs.Matching.{matches, is_pass}
use Rattle.pfl_rules.specs.Texts.{canonical_text}

-- what contracts see of a rule set: its rules, the seconds that it sets for classes, and its checksum
pub record Rules : Type 0 where
  pub list : List Rule
  pub timeouts : List (Option ℕ)
  pub print : List ℕ

-- nothing is said of any class
abbrev pub no_timeouts : List (Option ℕ)
no_timeouts = replicate 14 None

-- the rule set of these rules; it sets no timeouts, and its checksum is the MD5 of its text (RFC 1321)
unfoldable pub rule_set : List Rule → Rules
rule_set rules = record { list = rules; timeouts = no_timeouts; print = md5 (canonical_text rules) }

-- the rule set with these timeouts, in the order of the classes' numbers (pf.conf(5), `set timeout`); its text and checksum do not
-- know of them
abbrev pub timed : List (Option ℕ) → Rules → Rules
timed timeouts rules = record rules { timeouts = timeouts }

-- the rules that are looked at: up to and with the first quick one that matches
abbrev pub looked_at : List Rule → Packet → Dir → List (ℕ × Rule)
looked_at rules p dir = up_to_first (λ r. r.1.quick && matches r.1 p dir) (enumerate_from 0 rules)

-- the last of them that matches decides (pf.conf(5))
abbrev pub deciding : List Rule → Packet → Dir → Option (ℕ × Rule)
deciding rules p dir = last_of (filter (λ r. matches r.1 p dir) (looked_at rules p dir))

-- the verdict of the deciding rule
abbrev pub verdict_by : Option (ℕ × Rule) → Verdict
verdict_by None = record { rule = None; pass = true }
verdict_by (Some r) = record { rule = Some r.0; pass = is_pass r.1.action }

-- the verdict; a packet that no rule matches is passed by none
abbrev pub verdict : List Rule → Packet → Dir → Verdict
verdict rules p dir = verdict_by (deciding rules p dir)

-- the rule with the number, if there is one
abbrev pub rule_at : List Rule → Option ℕ → Option Rule
rule_at rules rule = option_and_then (slice_get rules) rule

-- what timeouts, in the order of the classes' numbers, say of the class
abbrev pub said_timeout : List (Option ℕ) → Class → Option ℕ
said_timeout timeouts class = option_and_then (λ t. t) (slice_get timeouts (class_number class))

-- what the rule says of the class; a block rule says nothing
abbrev pub own_timeout : Rule → Class → Option ℕ
own_timeout r class = if is_pass r.action then said_timeout r.timeouts class else None

-- seconds: the rule's for the class, else the set's, else the default (pf.conf(5), `set timeout`)
abbrev pub timeout : Rules → Option ℕ → Class → ℕ
timeout rules rule class =
    unwrap_or (option_and_then (λ r. own_timeout r class) (rule_at rules.list rule)) (unwrap_or (said_timeout rules.timeouts class) (default_timeout class))

-- the rule is for the way out alone
abbrev pub is_out : RuleDir → Bool
is_out Out = true
is_out _ = false

-- the rule is for the way in alone
abbrev pub is_in : RuleDir → Bool
is_in In = true
is_in _ = false

-- why these rules are no rule set: the first reason that holds of any of them
abbrev pub rule_fault : List Rule → Option RuleFault
rule_fault rules =
    if nat_lt 256 (length rules) then Some TooMany else
    if list_any (λ r. is_some r.nat && not (is_out r.direction)) rules then Some NatNotOut else
    if list_any (λ r. option_map_or (λ n. n == 0) r.max false) rules then Some ZeroMax else
    if list_any (λ r. is_some r.rdr && not (is_in r.direction)) rules then Some RdrNotIn else None

-- what each rule set keeps: no fault, and the checksum of its own text
pub record AreRules (r : Rules) : Type 0 where
  pub faultless : rule_fault r.list ≡ None
  pub print : r.print ≡ md5 (canonical_text r.list)
