-- The words of an index of slots, each free or with an entry: a slot and its tag. An entry stands at the home of its tag, or after it
-- with no free word between.
use Rattle.std.specs.Prelude.{◌≡◌, ◌≢◌, ◌≤◌, ◌<◌, ◌+◌, ◌-◌, ◌*◌, ◌/◌, ◌^◌, ◌==◌, ℕ, List, [], length, map, Option, Some, None}
use Rattle.std.specs.Ordering.{nat_cmp}
use Rattle.std.proofs.Common.{cond}
use Rattle.pfl_edits.specs.Maps as maps
use Rattle.pfl_edits.specs.Maps.{Map}
use Rattle.pfl_containers.specs.declared.slots.words.Word.{Word}
use Rattle.pfl_containers.specs.inner.Entries.{slot, slot_map, Distinct, NoGap}

-- no slot has this number: it marks a free word
abbrev pub no_slot : ℕ
no_slot = 2 ^ 32 - 1

-- the entry of a word
abbrev pub entry_in : Word → Option (ℕ × ℕ)
entry_in word = cond (word.slot == no_slot) None (Some (word.slot, word.tag))

-- the entries of words
abbrev pub entries_in : List Word → List (Option (ℕ × ℕ))
entries_in words = map entry_in words

-- the entry at a place, and past the end none
abbrev pub entry_at : List Word → ℕ → Option (ℕ × ℕ)
entry_at words place = slot (entries_in words) place

-- the tags of the words by their slots
abbrev pub tag_map : List Word → Map nat_cmp ℕ
tag_map words = slot_map nat_cmp (entries_in words)

-- the home of a tag: as a part of the whole, taken of the buckets
abbrev pub home_in : ℕ → ℕ → ℕ
home_in buckets tag = tag * buckets / 2 ^ 32

-- each entry stands at its home or after it, and each free place between the two is a gap
pub record AreHoused {K V : Type 0} (home : K × V → ℕ) (entries : List (Option (K × V))) (IsGap : ℕ → Type 0) : Type 0 where
  pub after : (place : ℕ) (e : K × V) → slot entries place ≡ Some e → home e ≤ place
  pub between : (place i : ℕ) (e : K × V) → slot entries place ≡ Some e → home e ≤ i → i < place → slot entries i ≡ None → IsGap i

-- entries of slots that differ, each of which is found from its home, but for gaps
pub record AreTagged (buckets : ℕ) (entries : List (Option (ℕ × ℕ))) (IsGap : ℕ → Type 0) : Type 0 where
  pub distinct : Distinct nat_cmp entries
  pub housed : AreHoused (λ e. home_in buckets e.1) entries IsGap

-- words of such entries
abbrev pub AreWords : ℕ → List Word → (ℕ → Type 0) → Type 0
AreWords buckets words = AreTagged buckets (entries_in words)

-- an entry of the tag stands at the place
abbrev pub StandsAt : List Word → ℕ → ℕ → ℕ → Type 0
StandsAt words tag slot place = entry_at words place ≡ Some (slot, tag)

-- from one place up to another no entry of the tag is the one that is looked for
abbrev pub ArePassed : (ℕ → Type 0) → List Word → ℕ → ℕ → ℕ → Type 0
ArePassed IsNot words tag from to = (place slot : ℕ) → from ≤ place → place < to → StandsAt words tag slot place → IsNot slot

-- the search for an entry of the tag ends at a place with none
pub record EndsAt (IsNot : ℕ → Type 0) (words : List Word) (tag from place : ℕ) : Type 0 where
  pub order : from ≤ place
  pub free : entry_at words place ≡ None
  pub passed : ArePassed IsNot words tag from place

-- what a search gives: a slot of which the answer is yes, or the answer is no of each entry that it passed
abbrev pub SearchGives : (ℕ → Type 0) → (ℕ → Type 0) → List Word → ℕ → ℕ → Option ℕ → Type 0
SearchGives Is IsNot words tag from None = (place : ℕ) × EndsAt IsNot words tag from place
SearchGives Is IsNot words tag from (Some slot) = (place : ℕ) × StandsAt words tag slot place × Is slot

-- the first free place, if any is left
pub record IsFree (words : List Word) (from place : ℕ) : Type 0 where
  pub order : from ≤ place
  pub free : entry_at words place ≡ None
  pub taken : (i : ℕ) → from ≤ i → i < place → entry_at words i ≢ None

-- the fields of an index: the capacity is that of its words. There are the most buckets that it ever has, or no more than its limit.
pub record AreFields (limit len buckets : ℕ) (words : List Word) (capacity : ℕ) : Type 0 where
  pub sound : AreWords buckets words NoGap
  pub count : len ≡ maps.len (tag_map words)
  pub below : len ≤ limit
  pub few : len ≤ buckets / 2
  pub some : 0 < buckets
  pub most : buckets ≤ 2 * limit + 1
  pub small : limit ≤ 2 ^ 30
  pub long : length words ≡ buckets + buckets / 2
  pub sparse : buckets < 2 * limit + 1 → buckets ≤ limit
  pub room : 3 * limit + 1 ≤ capacity

-- spare words, to which those of an index are copied while its buckets grow: none, with room for as many as it has then
pub record AreSpare (limit : ℕ) (spare : List Word) (capacity : ℕ) : Type 0 where
  pub empty : spare ≡ []
  pub room : limit + limit / 2 ≤ capacity
