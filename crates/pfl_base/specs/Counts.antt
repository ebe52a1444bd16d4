-- Counts of calls.
use Rattle.std.specs.Prelude.{◌≡◌, ℕ, ◌+◌, ◌<◌, ◌≤◌, ◌^◌, List, [], ◌∷◌, Option, None, Some, ⊤}

-- how many calls of a device there were, where it reports that; and the references that they go through, the outermost first: none where
-- the device is held itself
pub record Calls : Type 0 where
  pub made : Option ℕ
  pub through : List ℕ

-- the calls of a device that is held itself
abbrev pub own_calls : Option ℕ → Calls
own_calls made = record { made = made; through = [] }

-- the calls of a device through a reference with this ghost name
abbrev pub lent_calls : ℕ → Calls → Calls
lent_calls name calls = record { made = calls.made; through = name ∷ calls.through }

-- a known count grows by n, as far as 64 bits hold it
abbrev pub Grows : Option ℕ → Option ℕ → ℕ → Type 0
Grows None new n = ⊤
Grows (Some a) None n = ⊥
Grows (Some a) (Some b) n = a + n < 2 ^ 64 → b ≡ a + n

-- n calls more, of the same device
pub record Counts (old new : Calls) (n : ℕ) : Type 0 where
  pub made : Grows old.made new.made n
  pub same : new.through ≡ old.through

-- from least to most calls more, of the same device
pub record CountsWithin (least most : ℕ) (old new : Calls) : Type 0 where
  pub calls : ℕ
  pub enough : least ≤ calls
  pub few : calls ≤ most
  pub counted : Counts old new calls
