-- A reader of lines.
use Rattle.std.specs.Prelude.{◌≡◌, ◌≤◌, ◌+◌, ◌-◌, ◌*◌, ℕ, ◌^◌, min, Bool, true, false, List, Option, length}
use Rattle.std.specs.Io.KnownBytes.{prepend_known}
use Rattle.pfl_base.specs.Counts.{Calls, Counts}
use Rattle.pfl_reader.specs.Scans.{Kept}
use Rattle.pfl_reader.specs.declared.fault.ReadFault.{ReadFault}
use Rattle.pfl_reader.specs.declared.fault.ReadFault.TheVariants.{Read, TooManyTurns}

-- what is left to read, where that is known; the lines read; the line that was read last; the calls of read in this run, and those of
-- the device itself; the bytes that were read and not yet taken; whether a call has failed
pub record Source : Type 0 where
  pub left : Option (List ℕ)
  pub lines : ℕ
  pub line : Kept
  pub turns : ℕ
  pub reads : Calls
  pub waiting : ℕ
  pub failed : Bool

-- how many bytes can be taken at most in this run
abbrev pub room : Source → ℕ
room s = (16777216 - s.turns) * 65536 + s.waiting

-- what a reader of lines had left is what its device has left, after bytes that it gave and that no line took: those of one block at most
abbrev pub Releases : Option (List ℕ) → Option (List ℕ) → Type 0
Releases left device = (lost : List ℕ) × (length lost ≤ 65536) × (left ≡ prepend_known lost device)

-- in a run the turns grew as the calls of the device did
pub record CountsTurns (old new : Source) : Type 0 where
  pub more : old.turns ≤ new.turns
  pub reads : Counts old.reads new.reads (new.turns - old.turns)

-- why no byte came
abbrev pub IsReadFault : ReadFault → Source → Type 0
IsReadFault Read s = s.failed ≡ true
IsReadFault TooManyTurns s = s.turns ≡ 16777216

-- a count that stops at the greatest number of 64 bits
abbrev pub one_more : ℕ → ℕ
one_more n = min (n + 1) (2 ^ 64 - 1)

-- the count after a line, or none
abbrev pub lines_after : Bool → ℕ → ℕ
lines_after false n = n
lines_after true n = one_more n
