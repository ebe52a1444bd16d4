-- What runs of lines say of their reader, and why they stop.
use Rattle.std.specs.Prelude.{◌≡◌, ◌+◌, ◌-◌, ℕ, ◌^◌, min, Bool, true}
use Rattle.pfl_reader.specs.declared.fault.ReadFault.{ReadFault}
use Rattle.pfl_reader.specs.declared.fault.ReadFault.TheVariants as read
use Rattle.pfl_reader.specs.Readers.{Source}
use Rattle.pfl_script.specs.declared.fault.EngineFault.{EngineFault}
use Rattle.pfl_script.specs.declared.fault.EngineFault.TheVariants.{Read, Write, TooManyTurns, NoMemory}
use Rattle.pfl_script.specs.declared.setup_fault.SetupFault.{SetupFault}
use Rattle.pfl_script.specs.declared.setup_fault.SetupFault.TheVariants as setup

-- a count that stops at the greatest number of 64 bits, after this many more
abbrev pub counted_on : ℕ → ℕ → ℕ
counted_on n more = min (n + more) (2 ^ 64 - 1)

-- a run stops where its reader gives no line
abbrev pub of_read : ReadFault → EngineFault
of_read read.Read = Read
of_read read.TooManyTurns = TooManyTurns

-- a setup stops where its reader gives no line
abbrev pub setup_of_read : ReadFault → SetupFault
setup_of_read read.Read = setup.Read
setup_of_read read.TooManyTurns = setup.TooManyTurns

-- why a reply is not written
abbrev pub IsWriteFault : EngineFault → Bool → Type 0
IsWriteFault Write failed = failed ≡ true
IsWriteFault NoMemory failed = Unit {0}
IsWriteFault Read failed = ⊥
IsWriteFault TooManyTurns failed = ⊥

-- why a run stops before the end: reader and writer have failed where it says so
abbrev pub IsRunFault : EngineFault → Source → Bool → Type 0
IsRunFault Read s failed = s.failed ≡ true
IsRunFault Write s failed = failed ≡ true
IsRunFault TooManyTurns s failed = s.turns ≡ 16777216
IsRunFault NoMemory s failed = Unit {0}
