-- Rows that are set one after another.
use Rattle.std.proofs.Common.{◌≡◌, ◌≤◌, ◌<◌, ◌+◌, ℕ, Bool, true, false, cond, List, [], ◌∷◌, ◌++◌, length, take, drop, get_or, Option, Some, None}
use Rattle.std.proofs.Common.{sym, ◌∙◌, ap, subst, refl, arith, add-one, length-take}
use Rattle.std.proofs.lemmas.List.{take-append-drop}
use Rattle.std.proofs.Math.Seq.{take-suc}
use Rattle.std.specs.Ordering.{nat_cmp, eq_by_cmp}
use Rattle.std.proofs.lemmas.Cmp.{nat_cmp_total}
use Rattle.std.proofs.lemmas.Map.Lookups.{exact_unsigned}
use Rattle.pfl_edits.specs.Maps as maps
use Rattle.pfl_edits.specs.Maps.{Map, set_at}
use Rattle.pfl_edits.proofs.ForCallers.{row_at, Distinct, Distinct-without, map_more, len-map_of, some_is_none, Distinct-rising}
use Rattle.pfl_edits.specs.Ordered.{RowList, AreRows}
use Rattle.pfl_link.specs.Links.{IsLink}
use Rattle.pfl_link.specs.Framed.{Ticketed, ticket_of, link_of, IsKept, map_values}
use Rattle.pfl_link.proofs.Setting.{by_ticket}

abbrev Apart : List Ticketed → Type 0
Apart rows = Distinct nat_cmp ticket_of rows

none_in_front : (front rest : List Ticketed) (q : ℕ) → row_at nat_cmp ticket_of (front ++ rest) q ≡ None → row_at nat_cmp ticket_of front q ≡ None
none_in_front [] rest q none = refl
none_in_front (x ∷ front) rest q none = through (eq_by_cmp nat_cmp q (ticket_of x)) x _ _ (none_in_front front rest q) none
  where
    through : (b : Bool) (y : Ticketed) (all some : Option Ticketed) → (all ≡ None → some ≡ None) → cond b (Some y) all ≡ None → cond b (Some y) some ≡ None
    through true y all some h e = absurd (some_is_none y e)
    through false y all some h e = h e

apart_in_front : (front rest : List Ticketed) → Apart (front ++ rest) → Apart front
apart_in_front [] rest d = tt
apart_in_front (x ∷ front) rest d = (none_in_front front rest (ticket_of x) d.0, apart_in_front front rest d.1)

-- The rows up to place i were set, and the row x stands there.
module _ (rows : RowList Ticketed) (are : AreRows nat_cmp ticket_of rows) (i : ℕ) (within : i < length rows.list) (x : Ticketed)
    (is : x ≡ get_or rows.list i x) where
  front_apart : (n : ℕ) → Apart (take n rows.list)
  front_apart n = apart_in_front (take n rows.list) (drop n rows.list)
      (subst Apart (sym (take-append-drop n rows.list)) (Distinct-rising nat_cmp ticket_of rows.list are.rising))

  one_more : take (i + 1) rows.list ≡ take i rows.list ++ x ∷ []
  one_more = rw add-one (take-suc rows.list i x within ∙ ap (λ (y : Ticketed). take i rows.list ++ y ∷ []) (sym is))

  -- the next row
  pub row_more : by_ticket (take (i + 1) rows.list) ≡ set_at (by_ticket (take i rows.list)) x.ticket (Some x)
  row_more =
      let apart : Apart (take i rows.list ++ x ∷ []) = subst Apart one_more (front_apart (i + 1)) in
      let none : row_at nat_cmp ticket_of (take i rows.list) x.ticket ≡ None =
      none_in_front (take i rows.list) [] x.ticket (Distinct-without nat_cmp_total exact_unsigned ticket_of (take i rows.list) x [] apart).0 in
      ap by_ticket one_more ∙ map_more nat_cmp_total exact_unsigned ticket_of (take i rows.list) x.ticket none x refl (front_apart i)

  -- there is room for it
  pub room_more : maps.len (set_at (by_ticket (take i rows.list)) x.ticket (Some x)) ≤ rows.limit
  room_more = rw (
    ← row_more,
    len-map_of nat_cmp_total exact_unsigned ticket_of (take (i + 1) rows.list)
        (front_apart (i + 1)),
    length-take,
  ) (omega (arith, are.few))

-- links of the same map are one
module _ (limit mtu next : ℕ) (rows new : RowList Ticketed) (same : by_ticket new.list ≡ by_ticket rows.list) where
  pub same_link : link_of limit mtu next new ≡ link_of limit mtu next rows
  same_link = ap (λ (m : Map nat_cmp Ticketed). record { limit = limit; mtu = mtu; next = next; frames = map_values (λ r. r.frame) m }) same

  pub same_kept : new.limit ≡ limit → IsKept limit mtu next rows → IsKept limit mtu next new
  same_kept room kept = record { link = subst IsLink (sym same_link) kept.link; room = room }
