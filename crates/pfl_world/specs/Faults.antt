-- The numbers and the words of the faults of limits.
use Rattle.std.specs.Prelude.{ℕ, List, codes}
use Rattle.pfl_world.specs.declared.fault.WorldFault.{WorldFault}
use Rattle.pfl_world.specs.declared.fault.WorldFault.TheVariants.{TooSmall, TooLarge, NoMemory}

-- the number by which a program names the fault; the lowest that applies is reported (this project's profile)
abbrev pub fault_number : WorldFault → ℕ
fault_number TooSmall = 1
fault_number TooLarge = 2
fault_number NoMemory = 3

-- the fault in words (this project's profile)
abbrev pub fault_text : WorldFault → List ℕ
fault_text TooSmall = codes "a limit below its range"
fault_text TooLarge = codes "a limit above its range"
fault_text NoMemory = codes "no memory"
