-- The numbers of the faults of lines (this project's profile).
use Rattle.std.specs.Prelude.{ℕ}
use Rattle.pfl_lines.specs.declared.fault.LineFault.{LineFault}
use Rattle.pfl_lines.specs.declared.fault.LineFault.TheVariants.{Long, NotAscii, Unknown, Missing, Number, Extra, Packet}

-- the number by which the fault is reported; of a line with several, Long and NotAscii are looked for first, and then the words are read
-- from the left
abbrev pub fault_number : LineFault → ℕ
fault_number Long = 1
fault_number NotAscii = 2
fault_number Unknown = 3
fault_number Missing = 4
fault_number Number = 5
fault_number Extra = 6
fault_number (Packet why) = 7
