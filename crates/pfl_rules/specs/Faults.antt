-- The numbers and the words of the faults of rules.
use Rattle.std.specs.Prelude.{ℕ, List, codes}
use Rattle.pfl_rules.specs.declared.fault.RuleFault.{RuleFault}
use Rattle.pfl_rules.specs.declared.fault.RuleFault.TheVariants.{TooMany, NatNotOut, ZeroMax, NoMemory, RdrNotIn}

-- the number by which a program names the fault; the first that applies is reported, `RdrNotIn` before `NoMemory` (this project's profile)
abbrev pub fault_number : RuleFault → ℕ
fault_number TooMany = 1
fault_number NatNotOut = 2
fault_number ZeroMax = 3
fault_number NoMemory = 4
fault_number RdrNotIn = 5

-- the fault in words (this project's profile)
abbrev pub fault_text : RuleFault → List ℕ
fault_text TooMany = codes "more than 256 rules"
fault_text NatNotOut = codes "a translation on a rule that is not out"
fault_text ZeroMax = codes "a limit of no states"
fault_text NoMemory = codes "no memory"
fault_text RdrNotIn = codes "a redirection on a rule that is not in"
