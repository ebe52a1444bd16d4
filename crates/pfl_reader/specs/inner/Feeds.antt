-- The bytes of a device, read in blocks.
use Rattle.std.specs.Prelude.{◌==◌, ◌<◌, ℕ, Bool, List, [], ◌∷◌, slice_range, Option, if◌then◌else◌}
use Rattle.pfl_base.specs.Counts.{Calls}
use Rattle.pfl_reader.specs.declared.head.Head.{Head}
use Rattle.pfl_reader.specs.Scans.{Kept, TakesLine}
use Rattle.pfl_reader.specs.Readers.{Source}
use Rattle.pfl_reader.specs.inner.Scans.{Carried, kept, nothing}

-- the block that was read last; what is left to read, with what of the block waits; how many bytes of it wait; the calls of read
-- in this run, and those of the device itself; whether a call has failed
pub record Fed : Type 0 where
  pub block : List ℕ
  pub left : Option (List ℕ)
  pub waiting : ℕ
  pub turns : ℕ
  pub reads : Calls
  pub failed : Bool

-- a reader that has this to read, has read this many lines, and this one last
abbrev pub source : Fed → ℕ → Kept → Source
source f lines line = record { left = f.left; lines = lines; line = line; turns = f.turns; reads = f.reads; waiting = f.waiting; failed = f.failed }

-- a reader that has this to read and has read no line
abbrev pub idle : Fed → Source
idle f = source f 0 (kept nothing)

-- the line that was read last: it was carried over, or lies in the block
abbrev pub line_read : Bool → Carried → Fed → ℕ → ℕ → Bool → Head → Kept
line_read carried carry f from to long head =
    if carried then kept carry else record { bytes = slice_range f.block from to; long = long; head = head }

-- the bytes before a LF without one CR that stands last
abbrev pub cut : List ℕ → List ℕ
cut [] = []
cut (b ∷ []) = if b == 13 then [] else b ∷ []
cut (b ∷ c ∷ bytes) = b ∷ cut (c ∷ bytes)

-- a line that lay whole in the block was taken: its bytes stand from one place up to another
pub record TakesWhole (old new : Fed) (from to : ℕ) : Type 0 where
  pub line : TakesLine old.left new.left (slice_range new.block from to)
  pub less : new.waiting < old.waiting
