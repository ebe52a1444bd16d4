-- Each step on the word keeps its rule.
use Rattle.std.proofs.Common.{◌≡◌, ℕ, zero, suc, ◌+◌, ◌<◌, ◌≤◌, ◌≢◌, List, [], ◌∷◌, ◌++◌, set, refl, sym, ap, ◌∙◌, subst, ⊎_elim, arith}
use mathlib.Core.Option.{none, some, some-injective, some-ne-none}
use lib.ListN.{get_elem?}
use lib.Seq.{set-get_or}
use Rattle.atomic_table.proofs.Lists.{at_set, at_snoc, set_else}
use Rattle.atomic_table.specs.Table.{Me, step, keeps, Allows, Splits, Joins, opening}
use Rattle.pfl_publish.specs.declared.count.view.View.{View}
use Rattle.pfl_publish.specs.Counted.{kept, whole, idle, left_half, right_half, united, total, IsCounted, Agrees, GoesOn}

total_set : (vs : List View) (i : ℕ) (v w : View) → get_elem? vs i ≡ some v → total (set vs i w) + v.parts ≡ total vs + w.parts
total_set [] i v w e = absurd (some-ne-none v (sym e))
total_set (x ∷ vs) zero v w e = let same : x.parts ≡ v.parts = ap (λ (y : View). y.parts) (some-injective x v e) in omega arith
total_set (x ∷ vs) (suc i) v w e = let h = total_set vs i v w e in omega arith

total_snoc : (vs : List View) (w : View) → total (vs ++ w ∷ []) ≡ total vs + w.parts
total_snoc [] w = omega arith
total_snoc (x ∷ vs) w = let h = total_snoc vs w in omega arith

total_at : (vs : List View) (i : ℕ) (v : View) → get_elem? vs i ≡ some v → v.parts ≤ total vs
total_at [] i v e = absurd (some-ne-none v (sym e))
total_at (x ∷ vs) zero v e = let same : x.parts ≡ v.parts = ap (λ (y : View). y.parts) (some-injective x v e) in omega arith
total_at (x ∷ vs) (suc i) v e = let h = total_at vs i v e in omega arith

-- two seats have no more parts than all
total_two : (vs : List View) (i j : ℕ) (v w : View) → j ≢ i → get_elem? vs i ≡ some v → get_elem? vs j ≡ some w → v.parts + w.parts ≤ total vs
total_two vs i j v w ne e f =
    let g = total_set vs i v idle e in
    let h = total_at (set vs i idle) j w (set_else vs i j idle ne ∙ f) in
    omega arith

first_counts : (seat : ℕ) (v : View) → get_elem? (whole 0 ∷ []) seat ≡ some v → 0 < v.parts → (v.left ≡ 0) × (v.right ≡ 0)
first_counts zero v e _ = (ap (λ (y : View). y.left) (sym (some-injective (whole 0) v e)), ap (λ (y : View). y.right) (sym (some-injective (whole 0) v e)))
first_counts (suc i) v e _ = absurd (some-ne-none v (sym e))

-- a fact of each seat lasts where it holds of the seat that moves, and of each other seat
each_set : (K : View → Type 0) (vs : List View) (me : ℕ) (w : View) → K w → ((j : ℕ) (d : View) → j ≢ me → get_elem? vs j ≡ some d → K d)
    → (j : ℕ) (d : View) → get_elem? (set vs me w) j ≡ some d → K d
each_set K vs me w mine others j d e =
    ⊎_elim (λ (t : (j ≡ me) × (w ≡ d)). subst K t.1 mine) (λ (t : (j ≢ me) × (get_elem? vs j ≡ some d)). others j d t.0 t.1) (at_set vs me j w d e)

abbrev Counted : ℕ → View → Type 0
Counted n v = 0 < v.parts → (v.left ≡ n) × (v.right ≡ n)

module _ {S : Type 0} where
  pub begins : IsCounted {S = S} (opening (0 ∷ []) [] (whole 0))
  begins = record { count = 0; parts = refl; each = first_counts }

  pub compares : (slots id : ℕ) (me : Me S View) → 0 < me.0.parts → Allows IsCounted slots id me 0 (λ n. n) (Agrees (step slots 0 0 0 none) me)
  compares slots id me some_part s r _ at _ =
      let k = r.each id me.0 at some_part in (
        me.0,
        keeps,
        tt,
        subst (λ (ws : List ℕ). IsCounted record { words = ws; homes = s.homes; views = set s.views id me.0 }) (sym (set-get_or s.words 0 0)) record {
          count = r.count;
          parts = let t = total_set s.views id me.0 me.0 at in let p = r.parts in omega arith;
          each = each_set (Counted r.count) s.views id me.0 (λ _. k) (λ j d _. r.each j d);
        },
        (refl, k.1 ∙ sym k.0),
      )

  pub counts : (slots id : ℕ) (me : Me S View) → me.0.parts ≡ 2 → Allows IsCounted slots id me 0 (λ n. n) (GoesOn (step slots 0 0 0 none) me)
  counts slots id me all s r _ at _ =
      let k = r.each id me.0 at (omega arith) in
      let w : View = kept me.0.parts (me.0.left + 1) (me.0.right + 1) in
      let p = r.parts in (
        w,
        keeps,
        tt,
        subst (λ (ws : List ℕ). IsCounted record { words = ws; homes = s.homes; views = set s.views id w }) (sym (set-get_or s.words 0 0)) record {
          count = r.count + 1;
          parts = let t = total_set s.views id me.0 w at in omega arith;
          each = each_set (Counted (r.count + 1)) s.views id w (λ _. (ap (λ (n : ℕ). n + 1) k.0, ap (λ (n : ℕ). n + 1) k.1))
              (λ j d other there some_part. let t = total_two s.views id j me.0 d other at there in absurd (omega arith));
        },
        refl,
      )

  pub splits : (id : ℕ) (v : View) → v.parts ≡ 2 → Splits (IsCounted {S = S}) id v (left_half v) (right_half v)
  splits id v all s r at =
      let k = r.each id v at (omega arith) in
      let p = r.parts in
      record {
        count = r.count;
        parts = let t = total_set s.views id v (left_half v) at in let u = total_snoc (set s.views id (left_half v)) (right_half v) in omega arith;
        each = λ j d e. ⊎_elim
            (each_set (Counted r.count) s.views id (left_half v) (λ _. (k.0, k.0)) (λ i u _. r.each i u) j d)
            (λ (t : right_half v ≡ d). subst (Counted r.count) t (λ _. (k.1, k.1)))
            (at_snoc (set s.views id (left_half v)) (right_half v) d j e);
      }

  pub joins : (id : ℕ) (v : View) (other : ℕ) (w : View) → v.parts ≡ 1 → w.parts ≡ 1 → Joins (IsCounted {S = S}) id v other w (united v w) idle
  joins id v other w half half' s r at apart there =
      let both : View = united v w in
      let there' = sym (set_else s.views id other both apart) ∙ there in
      let k = r.each id v at (omega arith) in
      let l = r.each other w there' (omega arith) in
      let p = r.parts in
      record {
        count = r.count;
        parts = let t = total_set s.views id v both at in let u = total_set (set s.views id both) other w idle there in omega arith;
        each = each_set (Counted r.count) (set s.views id both) other idle (λ h. absurd (omega arith))
            (λ j d _ e. each_set (Counted r.count) s.views id both (λ _. (k.0, l.0)) (λ i u _. r.each i u) j d e);
      }

  pub united_parts : (m : Me S View) (v w : View) (cs : List (ℕ × S)) → m ≡ (united v w, cs) → v.parts ≡ 1 → w.parts ≡ 1 → m.0.parts ≡ 2
  united_parts m v w cs is half half' = let e : m.0.parts ≡ v.parts + w.parts = ap (λ (x : Me S View). x.0.parts) is in omega arith

  -- the counts of a whole that agree are one
  pub united_whole : (m m' : Me S View) (v w : View) (cs : List (ℕ × S)) → m ≡ (united v w, cs) → m' ≡ m → m.0.right ≡ m.0.left
      → v.parts ≡ 1 → w.parts ≡ 1 → (m'.1 ≡ cs) × (m'.0 ≡ whole v.left) × (v.left ≡ w.left)
  united_whole m m' v w cs is same agree half half' =
      let all = united_parts m v w cs is half half' in
      let left : m.0.left ≡ v.left = ap (λ (x : Me S View). x.0.left) is in
      let right : m.0.right ≡ w.left = ap (λ (x : Me S View). x.0.right) is in (
        ap (λ (x : Me S View). x.1) (same ∙ is),
        ap (λ (x : Me S View). x.0) same ∙ (λ z. kept (all z) (left z) ((agree ∙ left) z)),
        sym left ∙ (sym agree ∙ right),
      )
