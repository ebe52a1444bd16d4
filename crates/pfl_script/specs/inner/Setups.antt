-- What the parts of a setup stop at.
use Rattle.std.specs.Prelude.{◌≡◌, ◌<◌, ◌≤◌, Bool, true, false, List, ◌++◌, length, Option, Some, Result, Ok, ℕ, Err, None}
use Rattle.pfl_rules.specs.declared.fault.RuleFault.{RuleFault}
use Rattle.pfl_rules.specs.Rules.{rule_fault}
use Rattle.pfl_lines.specs.declared.fault.LineFault.{LineFault}
use Rattle.pfl_lines.specs.declared.setup.SetupLine.{SetupLine}
use Rattle.pfl_lines.specs.declared.setup.SetupLine.TheVariants as setup
use Rattle.pfl_script.specs.declared.setup_fault.SetupFault.{SetupFault}
use Rattle.pfl_script.specs.declared.setup_fault.SetupFault.TheVariants as fault
use Rattle.pfl_script.specs.declared.setup_text.SetupText.{SetupText}
use Rattle.pfl_script.specs.declared.setup_text.SetupText.TheVariants as setup_text
use Rattle.pfl_script.specs.Setups.{Draft, set_by_said, goes_on, longest_text, says_rule, first_rule_fault}

-- what a line was taken for: `opened` says that it is `open`
abbrev pub Takes : Bool → Option (Result SetupLine LineFault) → Draft → Draft → Type 0
Takes true s d e = (s ≡ Some (Ok setup.Open)) × (e ≡ d)
Takes false s d e = (goes_on s ≡ true) × (e ≡ set_by_said d s)

-- why line n was not taken
abbrev pub IsTakeFault : SetupFault → ℕ → Option (Result SetupLine LineFault) → Type 0
IsTakeFault (fault.Line m why) n s = (m ≡ n) × (s ≡ Some (Err why))
IsTakeFault fault.NoMemory n s = says_rule s ≡ true
IsTakeFault _ n s = ⊥

-- why one node's rules of line n's setup are no rule set, where this is their first fault
abbrev pub IsRuleStop : SetupFault → ℕ → Option RuleFault → Type 0
IsRuleStop (fault.Rule m why) n first = (m ≡ n) × (first ≡ Some why)
IsRuleStop fault.NoMemory n first = first ≡ None
IsRuleStop _ n first = ⊥

-- why line n's setup is none: the first fault of its rules, or no memory where node a's have none
abbrev pub IsFinishStop : SetupFault → ℕ → Draft → Type 0
IsFinishStop (fault.Rule m why) n d = (m ≡ n) × (first_rule_fault d ≡ Some why)
IsFinishStop fault.NoMemory n d = rule_fault d.a ≡ None
IsFinishStop _ n d = ⊥

-- a text with this more at its end, unless it is too long already, or there is no memory for it
abbrev pub Grows : {M : Type 0} → SetupText M → SetupText M → List ℕ → Type 0
Grows old setup_text.NoMemory more = Unit {0}
Grows (setup_text.Kept before) (setup_text.Kept bytes) more = (length before.items ≤ longest_text) × (bytes.items ≡ before.items ++ more)
Grows (setup_text.Kept before) setup_text.TooLong more = longest_text < length before.items
Grows setup_text.TooLong (setup_text.Kept bytes) more = ⊥
Grows setup_text.TooLong setup_text.TooLong more = Unit {0}
Grows setup_text.NoMemory (setup_text.Kept bytes) more = ⊥
Grows setup_text.NoMemory setup_text.TooLong more = ⊥
