-- The first row of each timeout, in the order in which rows expire.
use Rattle.std.specs.Prelude.{◌≡◌, ℕ, ◌==◌, not, Bool, true, false, List, [], ◌∷◌, Option, Some, None, if◌then◌else◌}
use Rattle.std.specs.Ordering.{eq_by_cmp, is_lt, nat_cmp}
use Rattle.pfl_edits.specs.Ordered.{RowList}
use Rattle.pfl_edits.specs.Maps as maps
use Rattle.pfl_edits.specs.Maps.{Map}
use Rattle.pfl_edits.specs.Rows.{map_of}
use Rattle.pfl_table.specs.declared.heads.Head.{Head}
use Rattle.pfl_table.specs.declared.keys.Expiry.{Expiry}
use Rattle.pfl_table.specs.inner.Ordering.{expiry_cmp}

abbrev pub timeout_of : Head → ℕ
timeout_of h = h.key.timeout

-- an entry of the order as the first one of its timeout
abbrev pub head_of : Expiry × ℕ → Head
head_of e = record { key = e.0; slot = e.1 }

-- as an entry
abbrev pub entry_of : Head → Expiry × ℕ
entry_of h = (h.key, h.slot)

-- the first entry of each timeout: from the last one on each takes the place of those after it
abbrev pub heads_of : List (Expiry × ℕ) → Map nat_cmp Head
heads_of [] = maps.empty
heads_of (e ∷ es) = maps.insert (heads_of es) e.0.timeout (head_of e)

-- the heads by their timeouts
abbrev pub by_timeout : List Head → Map nat_cmp Head
by_timeout heads = map_of nat_cmp timeout_of heads

-- ---- an entry comes

-- it stands before the one that is first of its timeout, or that has none
abbrev pub comes_first : Option Head → Expiry → Bool
comes_first None key = true
comes_first (Some first) key = not (is_lt (expiry_cmp first.key key))

-- the first of each timeout with it
abbrev pub heads_with : Map nat_cmp Head → Head → Map nat_cmp Head
heads_with m h = if comes_first (maps.get m h.key.timeout) h.key then maps.insert m h.key.timeout h else m

-- ---- an entry goes

-- it is the first one of its timeout
abbrev pub is_head : Option Head → Expiry → Bool
is_head None key = false
is_head (Some first) key = eq_by_cmp expiry_cmp key first.key

-- the entry after it as the first one of the timeout, if it has that timeout
abbrev pub head_after : ℕ → Option (Expiry × ℕ) → Option Head
head_after timeout None = None
head_after timeout (Some e) = if e.0.timeout == timeout then Some (head_of e) else None

-- the first of each timeout without the entry, after which this one comes
abbrev pub heads_without : Map nat_cmp Head → Expiry → Option (Expiry × ℕ) → Map nat_cmp Head
heads_without m key next = if is_head (maps.get m key.timeout) key then maps.set_at m key.timeout (head_after key.timeout next) else m

-- ---- what is kept

-- the heads are the first entry of each timeout, and there is room for as many
pub record AreHeads (list : List (Expiry × ℕ)) (limit : ℕ) (heads : RowList Head) : Type 0 where
  pub first : by_timeout heads.list ≡ heads_of list
  pub room : heads.limit ≡ limit
