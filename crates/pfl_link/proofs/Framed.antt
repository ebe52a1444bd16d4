-- The frames of a link as a map from tickets to frames.
use Rattle.std.specs.Prelude.{◌≡◌, Bool, true, false, Option, Some, refl, List, [], ◌∷◌, map, suc, length, ℕ}
use Rattle.std.specs.Cmp.{IsTotalOrder}
use Rattle.std.specs.FinMap.{IsAntisymmetric}
use Rattle.std.specs.FinMap.Entries.{find}
use Rattle.std.specs.Option.{option_map}
use Rattle.std.specs.Ordering.{eq_by_cmp, nat_cmp}
use Rattle.std.specs.declared.cmp.Ordering.{Ordering}
use Rattle.std.proofs.Common.{cond, ap, ◌∙◌, sym}
use Rattle.std.proofs.lemmas.Cmp.{nat_cmp_total}
use Rattle.pfl_edits.specs.Maps.{Map, entries, get, len, set_at}
use Rattle.pfl_edits.specs.Rows.{map_of}
use Rattle.pfl_edits.specs.Ordered.{IsRising}
use Rattle.pfl_edits.specs.Maps as maps
use Rattle.pfl_edits.proofs.ForCallers.{same_map, len-empty, empty_of_len, get-set_at, filed, entries-map_of}
use Rattle.pfl_link.specs.Framed.{map_values, Ticketed, ticket_of, frames_of, entry_of}
use Rattle.pfl_link.specs.Links.{InFlight}

module _ {K X Y : Type 0} (R : K → K → Ordering) (f : X → Y) where
  picked : (b : Bool) (x : X) (z : Option X) (w : Option Y) → w ≡ option_map f z → cond b (Some (f x)) w ≡ option_map f (cond b (Some x) z)
  picked true x z w e = refl
  picked false x z w e = e

  find-valued : (q : K) (es : List (K × X)) → find R q (map (λ e. (e.0, f e.1)) es) ≡ option_map f (find R q es)
  find-valued q [] = refl
  find-valued q (e ∷ es) = picked (eq_by_cmp R q e.0) e.1 (find R q es) _ (find-valued q es)

length-valued : {A B : Type 0} (f : A → B) (xs : List A) → length (map f xs) ≡ length xs
length-valued f [] = refl
length-valued f (x ∷ xs) = ap (λ n. suc n) (length-valued f xs)

module _ {K X Y : Type 0} {R : K → K → Ordering} (f : X → Y) where
  -- what is found there
  pub get-map_values : (m : Map R X) (q : K) → get (map_values f m) q ≡ option_map f (get m q)
  unfolding map_values get entries
  get-map_values m q = find-valued R f q m.list

  -- its entries
  pub entries-map_values : (m : Map R X) → entries (map_values f m) ≡ map (λ e. (e.0, f e.1)) (entries m)
  unfolding map_values entries
  entries-map_values m = refl

  -- there are as many
  pub len-map_values : (m : Map R X) → len (map_values f m) ≡ len m
  unfolding map_values len entries
  len-map_values m = length-valued (λ e. (e.0, f e.1)) m.list

  -- what is set is set under its value
  pub map_values-set_at : IsTotalOrder R → IsAntisymmetric R → (m : Map R X) (k : K) (at : Option X)
      → map_values f (set_at m k at) ≡ set_at (map_values f m) k (option_map f at)
  map_values-set_at o exact m k at = same_map o exact _ _ (λ q.
      get-map_values (set_at m k at) q ∙ (ap (option_map f) (get-set_at o exact m k at q)
      ∙ (through (eq_by_cmp R q k) (get m q) ∙ (ap (cond (eq_by_cmp R q k) (option_map f at)) (sym (get-map_values m q))
      ∙ sym (get-set_at o exact (map_values f m) k (option_map f at) q)))))
    where
      through : (b : Bool) (z : Option X) → option_map f (cond b at z) ≡ cond b (option_map f at) (option_map f z)
      through true z = refl
      through false z = refl

-- no frames
pub frames_of-none : frames_of [] ≡ maps.empty
frames_of-none = empty_of_len (frames_of []) (len-map_values (λ r. r.frame) (map_of nat_cmp ticket_of []) ∙ len-empty nat_cmp Ticketed)

entries_valued : (rows : List Ticketed) → map {B = ℕ × InFlight} (λ (e : ℕ × Ticketed). (e.0, (e.1).frame)) (map (filed ticket_of) rows) ≡ map entry_of rows
entries_valued [] = refl
entries_valued (r ∷ rows) = ap (λ (es : List (ℕ × InFlight)). entry_of r ∷ es) (entries_valued rows)

-- frames in the order of their tickets are the entries of their map
pub entries-frames_of : (rows : List Ticketed) → IsRising nat_cmp ticket_of rows → maps.entries (frames_of rows) ≡ map entry_of rows
entries-frames_of rows rising =
    entries-map_values (λ r. r.frame) (map_of nat_cmp ticket_of rows)
    ∙ (ap (map {B = ℕ × InFlight} (λ (e : ℕ × Ticketed). (e.0, (e.1).frame))) (entries-map_of nat_cmp_total ticket_of rows rising)
    ∙ entries_valued rows)
