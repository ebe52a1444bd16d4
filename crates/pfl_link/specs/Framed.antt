-- The frames of a link with their tickets, as a map from tickets to frames (this project's profile).
use Rattle.std.specs.Prelude.{◌≡◌, ℕ, ◌&&◌, List, [], ◌∷◌, map, refl}
use Rattle.std.specs.Ordering.{nat_cmp, is_lt}
use Rattle.std.specs.declared.cmp.Ordering.{Ordering}
use Rattle.std.specs.FinMap.Entries.{below_all, is_sorted}
use Rattle.std.proofs.Common.{T, ◌∙◌, ap, sym, subst}
use Rattle.pfl_edits.specs.Maps.{Map, entries, entries_sorted}
use Rattle.pfl_edits.specs.Rows.{map_of}
use Rattle.pfl_edits.specs.Ordered.{RowList}
use Rattle.std.specs.Coded.{Coded, code_by, coded×, coded_ℕ}
use Rattle.pfl_link.specs.Links.{InFlight, Link, IsLink, coded_in_flight}

-- a frame and its ticket
pub record Ticketed : Type 0 where
  pub ticket : ℕ
  pub frame : InFlight

module _ {K X Y : Type 0} (R : K → K → Ordering) (f : X → Y) where
  below_all-valued : (k : K) (es : List (K × X)) → below_all R k (map (λ e. (e.0, f e.1)) es) ≡ below_all R k es
  below_all-valued k [] = refl
  below_all-valued k (e ∷ es) = ap (λ b. is_lt (R k e.0) && b) (below_all-valued k es)

  -- other values under the same keys stand in the same order
  pub is_sorted-valued : (es : List (K × X)) → is_sorted R (map (λ e. (e.0, f e.1)) es) ≡ is_sorted R es
  is_sorted-valued [] = refl
  is_sorted-valued (e ∷ es) = ap (λ b. b && is_sorted R (map (λ x. (x.0, f x.1)) es)) (below_all-valued e.0 es)
      ∙ ap (λ b. below_all R e.0 es && b) (is_sorted-valued es)

-- the map with another value at each key
unfoldable pub map_values : {K X Y : Type 0} {R : K → K → Ordering} → (X → Y) → Map R X → Map R Y
map_values {R = R} f m = record { list = map (λ e. (e.0, f e.1)) (entries m); sorted = subst T (sym (is_sorted-valued R f (entries m))) (entries_sorted m) }

-- the ticket of a frame
abbrev pub ticket_of : Ticketed → ℕ
ticket_of r = r.ticket

-- the frames by their tickets
abbrev pub frames_of : List Ticketed → Map nat_cmp InFlight
frames_of rows = map_values (λ r. r.frame) (map_of nat_cmp ticket_of rows)

-- a frame and its ticket as an entry of the map
abbrev pub entry_of : Ticketed → ℕ × InFlight
entry_of r = (r.ticket, r.frame)

-- the frames of a list in order of tickets, as a link
abbrev pub link_of : ℕ → ℕ → ℕ → RowList Ticketed → Link
link_of limit mtu next rows = record { limit = limit; mtu = mtu; next = next; frames = frames_of rows.list }

-- what a link keeps: it is one, and there is room for as many frames as its limit says
pub record IsKept (limit mtu next : ℕ) (rows : RowList Ticketed) : Type 0 where
  pub link : IsLink (link_of limit mtu next rows)
  pub room : rows.limit ≡ limit

-- a frame with its ticket is stored as the pair of them
abbrev pub coded_ticketed : Coded Ticketed
coded_ticketed = code_by (ℕ × InFlight) (coded× coded_ℕ coded_in_flight) (λ r. (r.ticket, r.frame)) (λ p. record { ticket = p.0; frame = p.1 }) (λ _. refl)
