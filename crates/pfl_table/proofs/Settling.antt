-- A stale row is filed anew.
use Rattle.std.specs.Prelude.{◌≡◌, ◌<◌, ◌≤◌, ℕ, nat_lt, Bool, true, false, List, ◌∷◌, ◌++◌, get_or, Option, Some, None, IfNone, IfSome, refl}
use Rattle.std.proofs.Common.{◌∙◌, ap, sym, subst, arith}
use Rattle.std.proofs.lemmas.Bool.Decides.{nat_tests}
use Rattle.pfl_base.specs.Names.{name_cmp}
use Rattle.pfl_base.proofs.ForCallers.{names_total, names_exact}
use Rattle.pfl_edits.specs.Ordered.{IsRising}
use Rattle.pfl_edits.proofs.ForCallers.{Distinct, Distinct-rising}
use Rattle.pfl_containers.specs.Lists.{Link, link, Lists, AreLists, Distinct as Apart, links_of}
use Rattle.pfl_containers.specs.SlotIndexes.{key_of}
use Rattle.pfl_containers.proofs.ForCallers.{others-none}
use Rattle.pfl_table.specs.declared.row.Row.{Row}
use Rattle.pfl_table.specs.inner.Dues.{Dues, AreDues, IsStale, MayMove, Moves, timed}
use Rattle.pfl_table.specs.inner.Filed.{name_of}
use Rattle.pfl_table.proofs.Dues.{lacks-others, lag, lag-less}

-- a row was used since it was filed, or it was not
pub is_used : (b : Bool) (filed last : ℕ) → b ≡ nat_lt filed last → b ≡ true → filed < last
is_used b filed last test e = is (sym test ∙ e)
  where
    is : nat_lt filed last ≡ true → filed < last
    is less = grind (arith, nat_tests)

pub not_used : (b : Bool) (filed last : ℕ) → b ≡ nat_lt filed last → b ≡ false → last ≤ filed
not_used b filed last test e = is (sym test ∙ e)
  where
    is : nat_lt filed last ≡ false → last ≤ filed
    is less = grind (arith, nat_tests)

-- what holds of a slot holds where it is the one
pub if_some : (o : Option ℕ) (slot : ℕ) (P : ℕ → Type 0) → Some slot ≡ o → P slot → IfSome o P
if_some o slot P is p = subst (λ (q : Option ℕ). IfSome q P) is p

-- what holds, holds where there is none
pub if_none : {X : Type 0} (o : Option X) (P : Type 0) → P → IfNone o P
if_none None P p = p
if_none (Some x) P p = tt

module _ (rows : Lists Row) (rising : IsRising name_cmp (key_of name_of) (links_of rows 0)) (lists : AreLists rows) (old : Dues)
    (dues : AreDues rows.limit (links_of rows 0) old)
    (slot : ℕ) (stale : IsStale rows old slot) (r : Row) (is : r ≡ stale.at.value) where
  abbrev front : List (Link Row)
  front = stale.at.front

  abbrev back : List (Link Row)
  back = stale.at.back

  split : links_of rows 0 ≡ front ++ link slot r ∷ back
  split = sym (ap (links_of rows) stale.here) ∙ (stale.at.split ∙ ap (λ v. front ++ link slot v ∷ back) (sym is))

  parted : AreDues rows.limit (front ++ link slot r ∷ back) old
  parted = subst (λ (ls : List (Link Row)). AreDues rows.limit ls old) split dues

  below : slot < rows.limit
  below = lists.below slot stale.at

  pub may-move : MayMove old slot r
  may-move = record { limit = rows.limit; front = front; back = back; are = parted; below = below }

  module _ (new : Dues) where
    pub settled : Moves old new slot r r → AreDues rows.limit (links_of rows 0) new
    settled moves =
        let names = subst (Distinct name_cmp (key_of name_of)) split (Distinct-rising name_cmp (key_of name_of) (links_of rows 0) rising) in
        let lacks = lacks-others front (link slot stale.at.value) back
        (subst (λ (ls : List (Link Row)). Apart ls) stale.at.split (lists.distinct stale.at.list stale.at.within)) in
        subst (λ (ls : List (Link Row)). AreDues rows.limit ls new) (sym split)
        (moves rows.limit front back parted below lacks refl (others-none names_total names_exact name_of front (link slot r) back names))

    pub less-stale : new.filed ≡ timed old.filed slot r.state.last → lag new.filed (links_of rows 0) < lag old.filed (links_of rows 0)
    less-stale filed =
        let lacks = lacks-others front (link slot stale.at.value) back
        (subst (λ (ls : List (Link Row)). Apart ls) stale.at.split (lists.distinct stale.at.list stale.at.within)) in
        let used = subst (λ (q : Row). get_or old.filed slot 0 < q.state.last) (sym is) stale.used in
        let less = lag-less old.filed front slot r back lacks used in
        subst (λ (ls : List (Link Row)). lag new.filed ls < lag old.filed ls) (sym split)
        (subst (λ (ts : List ℕ). lag ts (front ++ link slot r ∷ back) < lag old.filed (front ++ link slot r ∷ back)) (sym filed) less)
