-- What contracts see of an index of slots: the tag of each slot that it has. A tag is the upper half of a hash. This project's profile.
use Rattle.std.specs.Prelude.{◌≡◌, ◌≤◌, ◌/◌, ◌^◌, ℕ, Bool, true, false, Option, Some, None, refl}
use Rattle.std.specs.Ordering.{nat_cmp}
use Rattle.std.specs.Coded.{Coded, code_by, coded×, coded_ℕ}
use Rattle.pfl_edits.specs.Maps as maps
use Rattle.pfl_edits.specs.Maps.{Map}

-- the slots of an index, each with its tag, and how many it has room for
pub record Tags : Type 0 where
  pub tags : Map nat_cmp ℕ
  pub limit : ℕ

-- as a pair of a map and a number
abbrev pub coded_tags : Coded Tags
coded_tags = code_by (Map nat_cmp ℕ × ℕ) (coded× (maps.code coded_ℕ coded_ℕ) coded_ℕ) (λ t. (t.tags, t.limit))
    (λ p. record { tags = p.0; limit = p.1 }) (λ _. refl)

-- there are at most as many slots as there is room for
pub record AreTags (index : Tags) : Type 0 where
  pub few : maps.len index.tags ≤ index.limit

-- the tag of a hash: its upper half
abbrev pub tag_in : ℕ → ℕ
tag_in hash = hash / 2 ^ 32

-- the slot has this tag
abbrev pub HasTag : Map nat_cmp ℕ → ℕ → ℕ → Type 0
HasTag tags tag slot = maps.get tags slot ≡ Some tag

-- What a search among the slots of a tag finds, where it is asked of a slot whether it is the one, and `answer` says what may be
-- returned: a slot of which the answer was yes, or none, and then the answer was no of each slot with the tag.
abbrev pub FindsBy : (ℕ → Bool → Type 0) → Map nat_cmp ℕ → ℕ → Option ℕ → Type 0
FindsBy answer tags tag None = (slot : ℕ) → HasTag tags tag slot → answer slot false
FindsBy answer tags tag (Some slot) = HasTag tags tag slot × answer slot true
