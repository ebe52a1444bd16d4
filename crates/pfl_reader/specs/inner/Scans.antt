-- A line that is read byte by byte.
use Rattle.std.specs.Prelude.{◌≡◌, ℕ, Bool, true, false, ◌==◌, nat_lt, List, [], ◌∷◌, ◌++◌, length, Option, Some, None, ⊤, if◌then◌else◌}
use Rattle.pfl_reader.specs.declared.head.Head.{Head}
use Rattle.pfl_reader.specs.declared.head.Head.TheVariants.{Blank}
use Rattle.pfl_reader.specs.Scans.{IsOver, Kept, head_after}

-- What is kept of a line so far: its first 512 bytes, whether it is longer, its head, and whether a CR came last that is not
-- counted yet.
pub record Carried : Type 0 where
  pub bytes : List ℕ
  pub long : Bool
  pub head : Head
  pub carriage : Bool

-- what is kept of the line once it has ended
abbrev pub kept : Carried → Kept
kept k = record { bytes = k.bytes; long = k.long; head = k.head }

-- nothing of a line
abbrev pub nothing : Carried
nothing = record { bytes = []; long = false; head = Blank; carriage = false }

-- what is kept after one more byte of the line
abbrev pub pushed : Carried → ℕ → Carried
pushed k b = record {
  bytes = if nat_lt (length k.bytes) 512 then k.bytes ++ (b ∷ []) else k.bytes;
  long = if nat_lt (length k.bytes) 512 then k.long else true;
  head = head_after k.head b;
  carriage = k.carriage;
}

-- the CR before this byte was one of the line
abbrev pub counted : Carried → Carried
counted k = record { bytes = (pushed k 13).bytes; long = (pushed k 13).long; head = (pushed k 13).head; carriage = false }

-- what is kept once a CR that came last is counted
abbrev pub settled : Carried → Carried
settled k = if k.carriage then counted k else k

-- what is kept after a byte that ends no line
abbrev pub added : Carried → ℕ → Carried
added k b =
    if b == 13
    then record { bytes = (settled k).bytes; long = (settled k).long; head = (settled k).head; carriage = true }
    else pushed (settled k) b

-- one byte of known bytes was taken, or there was none
abbrev pub TakesByte : Option (List ℕ) → Option (List ℕ) → Option ℕ → Type 0
TakesByte old new None = IsOver old new
TakesByte None new (Some b) = ⊤
TakesByte (Some xs) None (Some b) = ⊥
TakesByte (Some xs) (Some ys) (Some b) = xs ≡ b ∷ ys
