-- Which entry of the index of expiries is due first, and which row: the first of some, when one more is looked at.
use Rattle.std.specs.Prelude.{◌≡◌, ℕ, ◌+◌, ◌*◌, ◌≤◌, ◌&&◌, ◌||◌, ◌==◌, nat_lt, Bool, true, false, List, ◌∷◌, Option, Some, None, refl}
use Rattle.std.specs.Cmp.{IsTotalOrder, nat_cmp_total}
use Rattle.std.specs.Ordering.{is_eq, is_lt, nat_cmp, on, ordering_reverse, ordering_then, then_cmp}
use Rattle.std.specs.declared.cmp.Ordering.{Ordering}
use Rattle.std.specs.declared.cmp.Ordering.TheVariants.{Less, Equal, Greater}
use Rattle.std.proofs.Common.{cond, T, ◌∙◌, ap, sym, arith}
use Rattle.std.proofs.lemmas.Bool.Decides.{nat_tests}
use Rattle.std.proofs.lemmas.Cmp.{on_total, then_total}
use Rattle.pfl_base.specs.Names.{name_cmp}
use Rattle.pfl_base.proofs.ForCallers.{names_exact, names_total}
use Rattle.pfl_rules.specs.declared.adaptive.Adaptive.{Adaptive}
use Rattle.pfl_rules.specs.Scaling.{scaled}
use Rattle.pfl_table.specs.declared.keys.Expiry.{Expiry}
use Rattle.pfl_table.specs.declared.row.Row.{Row}
use Rattle.pfl_table.specs.Tables.{row_before}
use Rattle.pfl_table.specs.inner.Ordering.{due_at, due_before, expiry_of, sooner, expiry_cmp, name_in}
use Rattle.pfl_table.proofs.Expiring.{as_test, both_answers, less-asymmetric, less-passed_on}
use Rattle.pfl_table.proofs.Foremost.{foremost, joined, joined-next}

-- ---- keys

less_by : (x y : ℕ) (r : Ordering) → is_lt (ordering_then (nat_cmp x y) r) ≡ (nat_lt x y || ((x == y) && is_lt r))
less_by x y r = sym (as_test (nat_lt x y) (x == y) r)

-- a comparison of two parts that says less
pub at_most : (x y : ℕ) (r : Ordering) → is_lt (ordering_then (nat_cmp x y) r) ≡ true → x ≤ y
at_most x y r e = known (nat_lt x y) (x == y) refl refl (sym (less_by x y r) ∙ e)
  where
    known : (a b : Bool) → nat_lt x y ≡ a → (x == y) ≡ b → (a || (b && is_lt r)) ≡ true → x ≤ y
    known true b lt eq h = grind (arith, nat_tests)
    known false true lt eq h = grind (arith, nat_tests)
    known false false lt eq h = both_answers false h refl

-- the first part is the same
less_then : (x y : ℕ) (r : Ordering) → x ≡ y → is_lt (ordering_then (nat_cmp x y) r) ≡ true → is_lt r ≡ true
less_then x y r same e = known (nat_lt x y) (x == y) above (sym (less_by x y r) ∙ e)
  where
    above : nat_lt x y ≡ false
    above = grind (arith, nat_tests)

    known : (a b : Bool) → a ≡ false → (a || (b && is_lt r)) ≡ true → is_lt r ≡ true
    known true b lt h = both_answers true refl lt
    known false true lt h = h
    known false false lt h = both_answers false h refl

-- ---- entries

-- which of these entries is due first: the latter unless the former is due before it
abbrev pub earlier : Adaptive → ℕ → Option (Expiry × ℕ) → Expiry × ℕ → Expiry × ℕ
earlier a states None entry = entry
earlier a states (Some first) entry = cond (due_before a states first.0 entry.0) first entry

pub both : (a b : Bool) → T (a && b) → T a × T b
both true b t = (tt, t)
both false b t = absurd t

pub is_true : (b : Bool) → T b → b ≡ true
is_true true t = refl
is_true false t = absurd t

module _ (a : Adaptive) (states : ℕ) where
  abbrev due_cmp : Expiry → Expiry → Ordering
  due_cmp = then_cmp (on (due_at a states) nat_cmp) (on name_in name_cmp)

  due_total : IsTotalOrder due_cmp
  due_total = then_total (on_total (due_at a states) nat_cmp_total) (on_total name_in names_total)

  due_is : (e f : Expiry) → due_before a states e f ≡ is_lt (due_cmp e f)
  due_is e f = as_test (nat_lt (due_at a states e) (due_at a states f)) (due_at a states e == due_at a states f) (name_cmp (name_in e) (name_in f))

  abbrev pub entry_before : Expiry × ℕ → Expiry × ℕ → Bool
  entry_before e f = due_before a states e.0 f.0

  pub entry_before-asymmetric : (e f : Expiry × ℕ) → entry_before e f ≡ true → entry_before f e ≡ false
  entry_before-asymmetric e f h = due_is f.0 e.0 ∙ less-asymmetric due_cmp due_total e.0 f.0 (sym (due_is e.0 f.0) ∙ h)

  pub entry_before-passed_on : (e f g : Expiry × ℕ) → entry_before e f ≡ true → entry_before e g ≡ false → entry_before g f ≡ true
  entry_before-passed_on e f g h i = due_is g.0 f.0 ∙ less-passed_on due_cmp due_total e.0 f.0 g.0 (sym (due_is e.0 f.0) ∙ h) (sym (due_is e.0 g.0) ∙ i)

  -- two keys of which neither is due before the other have one name
  pub level_name : (e f : Expiry) → due_before a states e f ≡ false → due_before a states f e ≡ false → name_in e ≡ name_in f
  level_name e f first second =
      elim (due_cmp e f) as (λ r. due_cmp e f ≡ r → name_in e ≡ name_in f) [
        | Less ↦ λ is. both_answers (is_lt (due_cmp e f)) (ap is_lt is) (sym (due_is e f) ∙ first)
        | Equal ↦ λ is. names_exact (name_in e) (name_in f) (last_part (nat_cmp (due_at a states e) (due_at a states f)) (name_cmp (name_in e) (name_in f)) is)
        | Greater ↦ λ is. both_answers (is_lt (due_cmp f e)) (ap is_lt (due_total.antisymm f e ∙ ap ordering_reverse is)) (sym (due_is f e) ∙ second)
      ] refl
    where
      last_part : (r s : Ordering) → ordering_then r s ≡ Equal → s ≡ Equal
      last_part Less s is = both_answers true refl (ap is_lt is)
      last_part Equal s is = is
      last_part Greater s is = both_answers false (ap is_eq is) refl

  -- of two keys of one timeout the lesser one is due first
  pub less-due : (e f : Expiry) → e.timeout ≡ f.timeout → is_lt (expiry_cmp e f) ≡ true → due_before a states e f ≡ true
  less-due e f same less =
      let names = name_cmp (name_in e) (name_in f) in
      let rest = sym (less_by e.time f.time names) ∙ less_then e.timeout f.timeout (ordering_then (nat_cmp e.time f.time) names) same less in
      let shift : scaled e.timeout a states * 1000 ≡ scaled f.timeout a states * 1000 = ap (λ t. scaled t a states * 1000) same in
      through e.time f.time (scaled e.timeout a states * 1000) (scaled f.timeout a states * 1000) (is_lt names) shift rest
    where
      through : (m n s t : ℕ) (b : Bool) → s ≡ t → (nat_lt m n || ((m == n) && b)) ≡ true → (nat_lt (m + s) (n + t) || ((m + s == n + t) && b)) ≡ true
      through m n s t b shift h =
          let less : nat_lt (m + s) (n + t) ≡ nat_lt m n = grind (arith, nat_tests) in
          let level : (m + s == n + t) ≡ (m == n) = grind (arith, nat_tests) in
          ap (λ x. x || ((m + s == n + t) && b)) less ∙ (ap (λ x. nat_lt m n || (x && b)) level ∙ h)

  -- the same of rows
  pub row_before-asymmetric : (r q : Row) → row_before a states r q ≡ true → row_before a states q r ≡ false
  row_before-asymmetric r q = entry_before-asymmetric (expiry_of r, 0) (expiry_of q, 0)

  pub row_before-passed_on : (r q s : Row) → row_before a states r q ≡ true → row_before a states r s ≡ false → row_before a states s q ≡ true
  row_before-passed_on r q s = entry_before-passed_on (expiry_of r, 0) (expiry_of q, 0) (expiry_of s, 0)

  sooner-joined : (first : Option Row) (r : Row) → Some (sooner a states first r) ≡ joined (row_before a states) first (Some r)
  sooner-joined None r = refl
  sooner-joined (Some f) r = elim (row_before a states f r) as (λ b. Some (cond b f r) ≡ Some (cond b f r)) [ true ↦ refl | false ↦ refl ]

  -- one more row is looked at
  pub looked-next : (first : Option Row) (r : Row) (left all : List Row)
      → joined (row_before a states) first (foremost (row_before a states) (r ∷ left)) ≡ foremost (row_before a states) all
      → joined (row_before a states) (Some (sooner a states first r)) (foremost (row_before a states) left) ≡ foremost (row_before a states) all
  looked-next first r left all is =
      ap (λ o. joined (row_before a states) o (foremost (row_before a states) left)) (sooner-joined first r)
      ∙ joined-next (row_before a states) row_before-asymmetric row_before-passed_on first r left all is

  earlier-joined : (first : Option (Expiry × ℕ)) (h : Expiry × ℕ) → joined entry_before first (Some h) ≡ Some (earlier a states first h)
  earlier-joined None h = refl
  earlier-joined (Some f) h = elim (entry_before f h) as (λ b. Some (cond b f h) ≡ Some (cond b f h)) [ true ↦ refl | false ↦ refl ]

  -- one more entry is looked at
  pub entry-next : (first : Option (Expiry × ℕ)) (h : Expiry × ℕ) (left all : List (Expiry × ℕ))
      → joined entry_before first (foremost entry_before (h ∷ left)) ≡ foremost entry_before all
      → joined entry_before (Some (earlier a states first h)) (foremost entry_before left) ≡ foremost entry_before all
  entry-next first h left all is =
      ap (λ o. joined entry_before o (foremost entry_before left)) (sym (earlier-joined first h))
      ∙ joined-next entry_before entry_before-asymmetric entry_before-passed_on first h left all is
