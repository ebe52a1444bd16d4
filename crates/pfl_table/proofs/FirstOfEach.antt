-- The first entry of each timeout: when an entry comes or goes, and which of them is due first.
use Rattle.std.specs.Prelude.{◌≡◌, ℕ, ◌+◌, ◌<◌, ◌≤◌, ◌==◌, ◌&&◌, nat_lt, not, suc, Bool, true, false, List, [], ◌∷◌, drop, get_or, length, map, find}
use Rattle.std.specs.Prelude.{Option, Some, None, refl}
use Rattle.std.specs.Option.{option_map}
use Rattle.std.specs.Ordering.{eq_by_cmp, is_eq, is_lt, nat_cmp, ordering_reverse}
use Rattle.std.specs.Cmp.{nat_cmp_total}
use Rattle.std.specs.FinMap.Entries.{is_sorted, below_all, put, by_order, where_key}
use Rattle.std.specs.declared.cmp.Ordering.{Ordering}
use Rattle.std.specs.declared.cmp.Ordering.TheVariants.{Less, Equal, Greater}
use Rattle.std.proofs.Common.{cond, T, ◌∙◌, ap, sym, subst, arith, add-one, drop-cons}
use Rattle.std.proofs.lemmas.Bool.Decides.{nat_tests}
use Rattle.std.proofs.lemmas.Map.Lookups.{exact_unsigned}
use Rattle.pfl_edits.specs.Maps as maps
use Rattle.pfl_edits.specs.Maps.{Map}
use Rattle.pfl_edits.specs.Ordered.{IsBelow, IsRising}
use Rattle.pfl_edits.proofs.ForCallers.{entries-from_sorted, entries-insert, get-empty, get-insert, get-map_of, get-set_at, len-empty, len-insert}
use Rattle.pfl_edits.proofs.ForCallers.{own_key, row_at, same_key, same_map, values-map_of}
use Rattle.pfl_rules.specs.declared.adaptive.Adaptive.{Adaptive}
use Rattle.pfl_table.specs.declared.heads.Head.{Head}
use Rattle.pfl_table.specs.declared.keys.Expiry.{Expiry}
use Rattle.pfl_table.specs.inner.Heads.{by_timeout, comes_first, entry_of, head_after, head_of, heads_of, heads_with, heads_without, is_head, timeout_of}
use Rattle.pfl_table.specs.inner.Ordering.{expiry_cmp, expiry_exact, expiry_total}
use Rattle.pfl_table.proofs.Earliest.{at_most, both, earlier, entry-next, entry_before, entry_before-asymmetric, entry_before-passed_on, is_true, less-due}
use Rattle.pfl_table.proofs.Expiring.{both_answers, less-asymmetric}
use Rattle.pfl_table.proofs.Foremost.{foremost, foremost-more, foremost-skips, joined}

-- the first entry of a timeout
abbrev first_of : ℕ → List (Expiry × ℕ) → Option (Expiry × ℕ)
first_of t [] = None
first_of t (e ∷ es) = cond (eq_by_cmp nat_cmp t e.0.timeout) (Some e) (first_of t es)

-- the entries but the one of a key
abbrev without : Expiry → List (Expiry × ℕ) → List (Expiry × ℕ)
without q = where_key expiry_cmp (λ k. not (eq_by_cmp expiry_cmp q k))

-- the entry above a key
abbrev after : Expiry → List (Expiry × ℕ) → Option (Expiry × ℕ)
after q es = find (λ e. is_lt (expiry_cmp q e.0)) es

-- ---- timeouts

same_timeout : (t : ℕ) → eq_by_cmp nat_cmp t t ≡ true
same_timeout t = own_key nat_cmp_total exact_unsigned (λ (n : ℕ). n) t

timeout_is : (t u : ℕ) → eq_by_cmp nat_cmp t u ≡ true → t ≡ u
timeout_is t u = same_key nat_cmp_total exact_unsigned (λ (n : ℕ). n) t u

less_cmp : (t u : ℕ) → t < u → nat_cmp t u ≡ Less
less_cmp t u less =
    let is : nat_lt t u ≡ true = grind (arith, nat_tests) in
    ap (λ b. cond b Less (cond (t == u) Equal Greater)) is

less_apart : (t u : ℕ) → t < u → eq_by_cmp nat_cmp t u ≡ false
less_apart t u less = ap is_eq (less_cmp t u less)

-- the test of the code
as_equal : (t u : ℕ) → eq_by_cmp nat_cmp t u ≡ (u == t)
as_equal t u = elim (nat_lt t u) as (λ b. nat_lt t u ≡ b → is_eq (cond b Less (cond (t == u) Equal Greater)) ≡ (u == t)) [
  | true ↦ λ e. let out : (u == t) ≡ false = grind (arith, nat_tests) in sym out
  | false ↦ λ e. elim (t == u) as (λ c. (t == u) ≡ c → is_eq (cond c Equal Greater) ≡ (u == t)) [
    | true ↦ λ f. let is : (u == t) ≡ true = grind (arith, nat_tests) in sym is
    | false ↦ λ f. let out : (u == t) ≡ false = grind (arith, nat_tests) in sym out
  ] refl
] refl

above : (t u : ℕ) → t ≤ u → eq_by_cmp nat_cmp t u ≡ false → t < u
above t u most apart =
    let out = sym (as_equal t u) ∙ apart in
    grind (arith, nat_tests)

-- ---- keys

not_equal : (r : Ordering) → is_lt r ≡ true → is_eq r ≡ false
not_equal Less e = refl
not_equal Equal e = sym e
not_equal Greater e = refl

less_is : (r : Ordering) → is_lt r ≡ true → r ≡ Less
less_is Less e = refl
less_is Equal e = both_answers false e refl
less_is Greater e = both_answers false e refl

less_true : (r : Ordering) → r ≡ Less → T (is_lt r)
less_true r e = subst (λ s. T (is_lt s)) (sym e) tt

and_both : (a b : Bool) → T a → T b → T (a && b)
and_both true true s t = tt
and_both true false s t = t
and_both false b s t = s

not_itself : (q : Expiry) → is_lt (expiry_cmp q q) ≡ false
not_itself q = elim (is_lt (expiry_cmp q q)) as (λ b. is_lt (expiry_cmp q q) ≡ b → b ≡ false) [
  | true ↦ λ e. sym e ∙ less-asymmetric expiry_cmp expiry_total q q e
  | false ↦ λ e. refl
] refl

below-through : (p x : Expiry) (es : List (Expiry × ℕ)) → expiry_cmp p x ≡ Less → T (below_all expiry_cmp x es) → T (below_all expiry_cmp p es)
below-through p x [] less below = tt
below-through p x (e ∷ es) less below =
    let parts = both (is_lt (expiry_cmp x e.0)) (below_all expiry_cmp x es) below in
    and_both (is_lt (expiry_cmp p e.0)) (below_all expiry_cmp p es)
    (less_true (expiry_cmp p e.0) (expiry_total.trans p x e.0 less (less_is _ (is_true _ parts.0)))) (below-through p x es less parts.1)

-- above a key of a greater timeout there is none of this one
none-above : (t : ℕ) (x : Expiry) (es : List (Expiry × ℕ)) → t < x.timeout → T (below_all expiry_cmp x es) → first_of t es ≡ None
none-above t x [] less below = refl
none-above t x (e ∷ es) less below =
    let parts = both (is_lt (expiry_cmp x e.0)) (below_all expiry_cmp x es) below in
    let most : x.timeout ≤ e.0.timeout = at_most x.timeout e.0.timeout _ (is_true _ parts.0) in
    ap (λ b. cond b (Some e) (first_of t es)) (less_apart t e.0.timeout (omega (arith, less, most))) ∙ none-above t x es less parts.1

-- ---- the heads

get-heads : (es : List (Expiry × ℕ)) (t : ℕ) → maps.get (heads_of es) t ≡ option_map head_of (first_of t es)
get-heads [] t = get-empty nat_cmp t
get-heads (e ∷ es) t =
    get-insert nat_cmp_total (heads_of es) e.0.timeout (head_of e) t
    ∙ (ap (cond (eq_by_cmp nat_cmp t e.0.timeout) (Some (head_of e))) (get-heads es t) ∙ mapped (eq_by_cmp nat_cmp t e.0.timeout))
  where
    mapped : (b : Bool) → cond b (Some (head_of e)) (option_map head_of (first_of t es)) ≡ option_map head_of (cond b (Some e) (first_of t es))
    mapped true = refl
    mapped false = refl

-- there are no more of them than entries
pub heads-few : (es : List (Expiry × ℕ)) → maps.len (heads_of es) ≤ length es
heads-few [] = omega (arith, len-empty nat_cmp Head)
heads-few (e ∷ es) =
    let few = heads-few es in
    subst (λ n. n ≤ suc (length es)) (sym (len-insert nat_cmp_total (heads_of es) e.0.timeout (head_of e)))
    (at_most_one (maps.contains_key (heads_of es) e.0.timeout) few)
  where
    at_most_one : (b : Bool) {n : ℕ} → n ≤ length es → cond b n (n + 1) ≤ suc (length es)
    at_most_one true h = omega arith
    at_most_one false h = omega arith

-- ---- an entry comes

module _ (k : Expiry) (s : ℕ) where
  first-other : (t : ℕ) (es : List (Expiry × ℕ)) → eq_by_cmp nat_cmp t k.timeout ≡ false → first_of t (put expiry_cmp k s es) ≡ first_of t es
  first-other t [] out = ap (λ b. cond b (Some (k, s)) None) out
  first-other t (e ∷ es) out =
      elim (expiry_cmp k e.0) as (λ r. expiry_cmp k e.0 ≡ r
      → first_of t (by_order r ((k, s) ∷ e ∷ es) ((e.0, s) ∷ es) (e ∷ put expiry_cmp k s es)) ≡ first_of t (e ∷ es)) [
        | Less ↦ λ is. ap (λ b. cond b (Some (k, s)) (first_of t (e ∷ es))) out
        | Equal ↦ λ is.
            let there : eq_by_cmp nat_cmp t e.0.timeout ≡ false = ap (λ (x : Expiry). eq_by_cmp nat_cmp t x.timeout) (sym (expiry_exact k e.0 is)) ∙ out in
            ap (λ b. cond b (Some (e.0, s)) (first_of t es)) there ∙ sym (ap (λ b. cond b (Some e) (first_of t es)) there)
        | Greater ↦ λ is. ap (cond (eq_by_cmp nat_cmp t e.0.timeout) (Some e)) (first-other t es out)
      ] refl

  -- it comes first of those above it
  comes-first : (t : ℕ) (es : List (Expiry × ℕ)) → T (below_all expiry_cmp k es) → comes_first (option_map head_of (first_of t es)) k ≡ true
  comes-first t [] below = refl
  comes-first t (e ∷ es) below =
      let parts = both (is_lt (expiry_cmp k e.0)) (below_all expiry_cmp k es) below in
      elim (eq_by_cmp nat_cmp t e.0.timeout) as (λ b. comes_first (option_map head_of (cond b (Some e) (first_of t es))) k ≡ true) [
        | true ↦ ap not (less-asymmetric expiry_cmp expiry_total k e.0 (is_true _ parts.0))
        | false ↦ comes-first t es parts.1
      ]

  first-put : (es : List (Expiry × ℕ)) → T (is_sorted expiry_cmp es)
      → first_of k.timeout (put expiry_cmp k s es) ≡ cond (comes_first (option_map head_of (first_of k.timeout es)) k) (Some (k, s)) (first_of k.timeout es)
  first-put [] sorted = ap (λ b. cond b (Some (k, s)) None) (same_timeout k.timeout)
  first-put (e ∷ es) sorted =
      let parts = both (below_all expiry_cmp e.0 es) (is_sorted expiry_cmp es) sorted in
      elim (expiry_cmp k e.0) as (λ r. expiry_cmp k e.0 ≡ r → first_of k.timeout (by_order r ((k, s) ∷ e ∷ es) ((e.0, s) ∷ es) (e ∷ put expiry_cmp k s es))
      ≡ cond (comes_first (option_map head_of (first_of k.timeout (e ∷ es))) k) (Some (k, s)) (first_of k.timeout (e ∷ es))) [
        | Less ↦ λ is.
            let below = and_both (is_lt (expiry_cmp k e.0)) (below_all expiry_cmp k es) (less_true (expiry_cmp k e.0) is) (below-through k e.0 es is parts.0) in
            ap (λ b. cond b (Some (k, s)) (first_of k.timeout (e ∷ es))) (same_timeout k.timeout)
            ∙ sym (ap (λ b. cond b (Some (k, s)) (first_of k.timeout (e ∷ es))) (comes-first k.timeout (e ∷ es) below))
        | Equal ↦ λ is.
            let same : k ≡ e.0 = expiry_exact k e.0 is in
            let here : eq_by_cmp nat_cmp k.timeout e.0.timeout ≡ true =
            ap (λ (x : Expiry). eq_by_cmp nat_cmp k.timeout x.timeout) (sym same) ∙ same_timeout k.timeout in
            let level : is_lt (expiry_cmp e.0 k) ≡ false = ap (λ (x : Expiry). is_lt (expiry_cmp x k)) (sym same) ∙ not_itself k in
            ap (λ b. cond b (Some (e.0, s)) (first_of k.timeout es)) here
            ∙ (ap (λ (x : Expiry). Some (x, s)) (sym same)
            ∙ sym (ap (λ b. cond (comes_first (option_map head_of (cond b (Some e) (first_of k.timeout es))) k) (Some (k, s))
            (cond b (Some e) (first_of k.timeout es))) here
            ∙ ap (λ b. cond (not b) (Some (k, s)) (Some e)) level))
        | Greater ↦ λ is.
            let less : is_lt (expiry_cmp e.0 k) ≡ true = ap is_lt (expiry_total.antisymm e.0 k ∙ ap ordering_reverse is) in
            elim (eq_by_cmp nat_cmp k.timeout e.0.timeout) as (λ b. cond b (Some e) (first_of k.timeout (put expiry_cmp k s es))
            ≡ cond (comes_first (option_map head_of (cond b (Some e) (first_of k.timeout es))) k) (Some (k, s)) (cond b (Some e) (first_of k.timeout es))) [
              | true ↦ sym (ap (λ b. cond (not b) (Some (k, s)) (Some e)) less)
              | false ↦ first-put es parts.1
            ]
      ] refl

  heads-put : (es : List (Expiry × ℕ)) → T (is_sorted expiry_cmp es) → heads_with (heads_of es) (head_of (k, s)) ≡ heads_of (put expiry_cmp k s es)
  heads-put es sorted = same_map nat_cmp_total exact_unsigned _ _ (λ t. at t)
    where
      m : Map nat_cmp Head
      m = heads_of es

      found : (b : Bool) (t : ℕ)
          → maps.get (cond b (maps.insert m k.timeout (head_of (k, s))) m) t
          ≡ cond (eq_by_cmp nat_cmp t k.timeout) (cond b (Some (head_of (k, s))) (maps.get m t)) (maps.get m t)
      found true t = get-insert nat_cmp_total m k.timeout (head_of (k, s)) t
      found false t = elim (eq_by_cmp nat_cmp t k.timeout) as (λ b. maps.get m t ≡ cond b (maps.get m t) (maps.get m t)) [ true ↦ refl | false ↦ refl ]

      mapped : (b : Bool) (o : Option (Expiry × ℕ)) → cond b (Some (head_of (k, s))) (option_map head_of o) ≡ option_map head_of (cond b (Some (k, s)) o)
      mapped true o = refl
      mapped false o = refl

      here : cond (comes_first (maps.get m k.timeout) k) (Some (head_of (k, s))) (maps.get m k.timeout) ≡ maps.get (heads_of (put expiry_cmp k s es)) k.timeout
      here =
          ap (λ (o : Option Head). cond (comes_first o k) (Some (head_of (k, s))) o) (get-heads es k.timeout)
          ∙ (mapped (comes_first (option_map head_of (first_of k.timeout es)) k) (first_of k.timeout es)
          ∙ sym (get-heads (put expiry_cmp k s es) k.timeout ∙ ap (option_map head_of) (first-put es sorted)))

      at : (t : ℕ) → maps.get (heads_with m (head_of (k, s))) t ≡ maps.get (heads_of (put expiry_cmp k s es)) t
      at t =
          found (comes_first (maps.get m k.timeout) k) t
          ∙ elim (eq_by_cmp nat_cmp t k.timeout) as (λ b. eq_by_cmp nat_cmp t k.timeout ≡ b
          → cond b (cond (comes_first (maps.get m k.timeout) k) (Some (head_of (k, s))) (maps.get m t)) (maps.get m t)
          ≡ maps.get (heads_of (put expiry_cmp k s es)) t) [
            | true ↦ λ is. subst (λ n. cond (comes_first (maps.get m k.timeout) k) (Some (head_of (k, s))) (maps.get m n)
                ≡ maps.get (heads_of (put expiry_cmp k s es)) n) (sym (timeout_is t k.timeout is)) here
            | false ↦ λ out. get-heads es t ∙ sym (get-heads (put expiry_cmp k s es) t ∙ ap (option_map head_of) (first-other t es out))
          ] refl

  -- in a list to whose map it was added
  pub heads-more : (old new : List (Expiry × ℕ)) → T (is_sorted expiry_cmp old) → T (is_sorted expiry_cmp new)
      → maps.from_sorted {R = expiry_cmp} new ≡ maps.insert (maps.from_sorted old) k s
      → heads_with (heads_of old) (head_of (k, s)) ≡ heads_of new
  heads-more old new before now is =
      let listed : new ≡ put expiry_cmp k s old =
      sym (entries-from_sorted expiry_cmp new now)
      ∙ (ap (λ (m : Map expiry_cmp ℕ). maps.entries m) is
      ∙ (entries-insert expiry_total (maps.from_sorted old) k s ∙ ap (put expiry_cmp k s) (entries-from_sorted expiry_cmp old before))) in
      heads-put old before ∙ ap heads_of (sym listed)

-- ---- an entry goes

module _ (q : Expiry) where
  lost-other : (t : ℕ) (es : List (Expiry × ℕ)) → eq_by_cmp nat_cmp t q.timeout ≡ false → first_of t (without q es) ≡ first_of t es
  lost-other t [] out = refl
  lost-other t (e ∷ es) out =
      elim (eq_by_cmp expiry_cmp q e.0) as (λ b. eq_by_cmp expiry_cmp q e.0 ≡ b
      → first_of t (cond (not b) (e ∷ without q es) (without q es)) ≡ first_of t (e ∷ es)) [
        | true ↦ λ is.
            let there : eq_by_cmp nat_cmp t e.0.timeout ≡ false =
            ap (λ (x : Expiry). eq_by_cmp nat_cmp t x.timeout) (sym (same_key expiry_total expiry_exact (λ (x : Expiry). x) q e.0 is)) ∙ out in
            lost-other t es out ∙ sym (ap (λ b. cond b (Some e) (first_of t es)) there)
        | false ↦ λ is. ap (cond (eq_by_cmp nat_cmp t e.0.timeout) (Some e)) (lost-other t es out)
      ] refl

  -- it is none of those above it
  without-above : (es : List (Expiry × ℕ)) → T (below_all expiry_cmp q es) → without q es ≡ es
  without-above [] below = refl
  without-above (e ∷ es) below =
      let parts = both (is_lt (expiry_cmp q e.0)) (below_all expiry_cmp q es) below in
      ap (λ b. cond (not b) (e ∷ without q es) (without q es)) (not_equal _ (is_true _ parts.0))
      ∙ ap (λ (xs : List (Expiry × ℕ)). e ∷ xs) (without-above es parts.1)

  -- the first of its timeout above it stands first
  next-first : (es : List (Expiry × ℕ)) → T (is_sorted expiry_cmp es) → T (below_all expiry_cmp q es)
      → option_map head_of (first_of q.timeout es) ≡ head_after q.timeout (after q es)
  next-first [] sorted below = refl
  next-first (e ∷ es) sorted below =
      let parts = both (is_lt (expiry_cmp q e.0)) (below_all expiry_cmp q es) below in
      let rest = both (below_all expiry_cmp e.0 es) (is_sorted expiry_cmp es) sorted in
      let most : q.timeout ≤ e.0.timeout = at_most q.timeout e.0.timeout _ (is_true _ parts.0) in
      same most rest.0 (eq_by_cmp nat_cmp q.timeout e.0.timeout) refl
      ∙ sym (ap (λ b. head_after q.timeout (cond b (Some e) (after q es))) (is_true _ parts.0)
      ∙ ap (λ b. cond b (Some (head_of e)) None) (sym (as_equal q.timeout e.0.timeout)))
    where
      same : q.timeout ≤ e.0.timeout → T (below_all expiry_cmp e.0 es) → (b : Bool) → eq_by_cmp nat_cmp q.timeout e.0.timeout ≡ b
          → option_map head_of (cond (eq_by_cmp nat_cmp q.timeout e.0.timeout) (Some e) (first_of q.timeout es))
          ≡ cond (eq_by_cmp nat_cmp q.timeout e.0.timeout) (Some (head_of e)) None
      same most behind true is = ap (λ b. option_map head_of (cond b (Some e) (first_of q.timeout es))) is ∙ sym (ap (λ b. cond b (Some (head_of e)) None) is)
      same most behind false is =
          ap (λ b. option_map head_of (cond b (Some e) (first_of q.timeout es))) is
          ∙ (ap (option_map head_of) (none-above q.timeout e.0 es (above q.timeout e.0.timeout most is) behind)
          ∙ sym (ap (λ b. cond b (Some (head_of e)) None) is))

  first-lost : (es : List (Expiry × ℕ)) → T (is_sorted expiry_cmp es)
      → option_map head_of (first_of q.timeout (without q es)) ≡ cond (is_head (option_map head_of (first_of q.timeout es)) q)
      (head_after q.timeout (after q (without q es))) (option_map head_of (first_of q.timeout es))
  first-lost [] sorted = refl
  first-lost (e ∷ es) sorted =
      let rest = both (below_all expiry_cmp e.0 es) (is_sorted expiry_cmp es) sorted in
      elim (eq_by_cmp expiry_cmp q e.0) as (λ b. eq_by_cmp expiry_cmp q e.0 ≡ b
      → option_map head_of (first_of q.timeout (cond (not b) (e ∷ without q es) (without q es)))
      ≡ cond (is_head (option_map head_of (first_of q.timeout (e ∷ es))) q)
      (head_after q.timeout (after q (cond (not b) (e ∷ without q es) (without q es)))) (option_map head_of (first_of q.timeout (e ∷ es)))) [
        | true ↦ λ is.
            let same : q ≡ e.0 = same_key expiry_total expiry_exact (λ (x : Expiry). x) q e.0 is in
            let here : eq_by_cmp nat_cmp q.timeout e.0.timeout ≡ true =
            ap (λ (x : Expiry). eq_by_cmp nat_cmp q.timeout x.timeout) (sym same) ∙ same_timeout q.timeout in
            let below : T (below_all expiry_cmp q es) = subst (λ (x : Expiry). T (below_all expiry_cmp x es)) (sym same) rest.0 in
            let all = without-above es below in
            ap (λ (xs : List (Expiry × ℕ)). option_map head_of (first_of q.timeout xs)) all
            ∙ (next-first es rest.1 below
            ∙ (ap (λ (xs : List (Expiry × ℕ)). head_after q.timeout (after q xs)) (sym all)
            ∙ sym (ap (λ b. cond (is_head (option_map head_of (cond b (Some e) (first_of q.timeout es))) q)
            (head_after q.timeout (after q (without q es))) (option_map head_of (cond b (Some e) (first_of q.timeout es)))) here
            ∙ ap (λ b. cond b (head_after q.timeout (after q (without q es))) (Some (head_of e))) is)))
        | false ↦ λ is. later is rest.0 (first-lost es rest.1) (eq_by_cmp nat_cmp q.timeout e.0.timeout) refl
      ] refl
    where
      later : eq_by_cmp expiry_cmp q e.0 ≡ false → T (below_all expiry_cmp e.0 es)
          → option_map head_of (first_of q.timeout (without q es)) ≡ cond (is_head (option_map head_of (first_of q.timeout es)) q)
          (head_after q.timeout (after q (without q es))) (option_map head_of (first_of q.timeout es))
          → (c : Bool) → eq_by_cmp nat_cmp q.timeout e.0.timeout ≡ c
          → option_map head_of (cond (eq_by_cmp nat_cmp q.timeout e.0.timeout) (Some e) (first_of q.timeout (without q es)))
          ≡ cond (is_head (option_map head_of (cond (eq_by_cmp nat_cmp q.timeout e.0.timeout) (Some e) (first_of q.timeout es))) q)
          (head_after q.timeout (after q (e ∷ without q es)))
          (option_map head_of (cond (eq_by_cmp nat_cmp q.timeout e.0.timeout) (Some e) (first_of q.timeout es)))
      later is behind more true t =
          ap (λ b. option_map head_of (cond b (Some e) (first_of q.timeout (without q es)))) t
          ∙ sym (ap (λ b. cond (is_head (option_map head_of (cond b (Some e) (first_of q.timeout es))) q)
          (head_after q.timeout (after q (e ∷ without q es))) (option_map head_of (cond b (Some e) (first_of q.timeout es)))) t
          ∙ ap (λ b. cond b (head_after q.timeout (after q (e ∷ without q es))) (Some (head_of e))) is)
      later is behind more false t =
          ap (λ b. option_map head_of (cond b (Some e) (first_of q.timeout (without q es)))) t
          ∙ (more
          ∙ (passed (is_lt (expiry_cmp q e.0)) refl
          ∙ sym (ap (λ b. cond (is_head (option_map head_of (cond b (Some e) (first_of q.timeout es))) q)
          (head_after q.timeout (after q (e ∷ without q es))) (option_map head_of (cond b (Some e) (first_of q.timeout es)))) t)))
        where
          passed : (b : Bool) → is_lt (expiry_cmp q e.0) ≡ b
              → cond (is_head (option_map head_of (first_of q.timeout es)) q) (head_after q.timeout (after q (without q es)))
              (option_map head_of (first_of q.timeout es))
              ≡ cond (is_head (option_map head_of (first_of q.timeout es)) q) (head_after q.timeout (after q (e ∷ without q es)))
              (option_map head_of (first_of q.timeout es))
          passed true less =
              let none = none-above q.timeout e.0 es (above q.timeout e.0.timeout (at_most q.timeout e.0.timeout _ less) t) behind in
              let out = ap (λ (o : Option (Expiry × ℕ)). is_head (option_map head_of o) q) none in
              ap (λ b. cond b (head_after q.timeout (after q (without q es))) (option_map head_of (first_of q.timeout es))) out
              ∙ sym (ap (λ b. cond b (head_after q.timeout (after q (e ∷ without q es))) (option_map head_of (first_of q.timeout es))) out)
          passed false not_less =
              ap (λ b. cond (is_head (option_map head_of (first_of q.timeout es)) q)
              (head_after q.timeout (cond b (Some e) (after q (without q es)))) (option_map head_of (first_of q.timeout es))) (sym not_less)

  heads-lost : (es : List (Expiry × ℕ)) → T (is_sorted expiry_cmp es) → heads_without (heads_of es) q (after q (without q es)) ≡ heads_of (without q es)
  heads-lost es sorted = same_map nat_cmp_total exact_unsigned _ _ (λ t. at t)
    where
      m : Map nat_cmp Head
      m = heads_of es

      next : Option Head
      next = head_after q.timeout (after q (without q es))

      found : (b : Bool) (t : ℕ)
          → maps.get (cond b (maps.set_at m q.timeout next) m) t ≡ cond (eq_by_cmp nat_cmp t q.timeout) (cond b next (maps.get m t)) (maps.get m t)
      found true t = get-set_at nat_cmp_total exact_unsigned m q.timeout next t
      found false t = elim (eq_by_cmp nat_cmp t q.timeout) as (λ b. maps.get m t ≡ cond b (maps.get m t) (maps.get m t)) [ true ↦ refl | false ↦ refl ]

      here : cond (is_head (maps.get m q.timeout) q) next (maps.get m q.timeout) ≡ maps.get (heads_of (without q es)) q.timeout
      here =
          ap (λ (o : Option Head). cond (is_head o q) next o) (get-heads es q.timeout)
          ∙ sym (get-heads (without q es) q.timeout ∙ first-lost es sorted)

      at : (t : ℕ) → maps.get (heads_without m q (after q (without q es))) t ≡ maps.get (heads_of (without q es)) t
      at t =
          found (is_head (maps.get m q.timeout) q) t
          ∙ elim (eq_by_cmp nat_cmp t q.timeout) as (λ b. eq_by_cmp nat_cmp t q.timeout ≡ b
          → cond b (cond (is_head (maps.get m q.timeout) q) next (maps.get m t)) (maps.get m t) ≡ maps.get (heads_of (without q es)) t) [
            | true ↦ λ is. subst (λ n. cond (is_head (maps.get m q.timeout) q) next (maps.get m n) ≡ maps.get (heads_of (without q es)) n)
                (sym (timeout_is t q.timeout is)) here
            | false ↦ λ out. get-heads es t ∙ sym (get-heads (without q es) t ∙ ap (option_map head_of) (lost-other t es out))
          ] refl

  -- what is left of a map without it
  entries-less : (m : Map expiry_cmp ℕ) → maps.entries (maps.remove m q) ≡ without q (maps.entries m)
  unfolding maps.remove maps.retain_keys maps.entries
  entries-less m = refl

  -- in a list from whose map it was removed
  pub heads-less : (old new : List (Expiry × ℕ)) → T (is_sorted expiry_cmp old) → T (is_sorted expiry_cmp new)
      → maps.from_sorted {R = expiry_cmp} new ≡ maps.remove (maps.from_sorted old) q
      → heads_without (heads_of old) q (after q new) ≡ heads_of new
  heads-less old new before now is =
      let listed : new ≡ without q old =
      sym (entries-from_sorted expiry_cmp new now)
      ∙ (ap (λ (m : Map expiry_cmp ℕ). maps.entries m) is
      ∙ (entries-less (maps.from_sorted old) ∙ ap (without q) (entries-from_sorted expiry_cmp old before))) in
      subst (λ (es : List (Expiry × ℕ)). heads_without (heads_of old) q (after q es) ≡ heads_of es) (sym listed) (heads-lost old before)

-- ---- the heads in order

-- without the first one if it has this timeout
abbrev skip : ℕ → List Head → List Head
skip t [] = []
skip t (h ∷ hs) = cond (eq_by_cmp nat_cmp t h.key.timeout) hs (h ∷ hs)

-- the first of each run of one timeout
abbrev runs : List (Expiry × ℕ) → List Head
runs [] = []
runs (e ∷ es) = head_of e ∷ skip e.0.timeout (runs es)

skip-row : (u : ℕ) (hs : List Head) (t : ℕ) → eq_by_cmp nat_cmp t u ≡ false → row_at nat_cmp timeout_of (skip u hs) t ≡ row_at nat_cmp timeout_of hs t
skip-row u [] t out = refl
skip-row u (h ∷ hs) t out = elim (eq_by_cmp nat_cmp u h.key.timeout) as (λ b. eq_by_cmp nat_cmp u h.key.timeout ≡ b
    → row_at nat_cmp timeout_of (cond b hs (h ∷ hs)) t ≡ row_at nat_cmp timeout_of (h ∷ hs) t) [
      | true ↦ λ is. sym (ap (λ b. cond b (Some h) (row_at nat_cmp timeout_of hs t)) (ap (eq_by_cmp nat_cmp t) (sym (timeout_is u h.key.timeout is)) ∙ out))
      | false ↦ λ is. refl
    ] refl

runs-row : (es : List (Expiry × ℕ)) (t : ℕ) → row_at nat_cmp timeout_of (runs es) t ≡ option_map head_of (first_of t es)
runs-row [] t = refl
runs-row (e ∷ es) t = elim (eq_by_cmp nat_cmp t e.0.timeout) as (λ b. eq_by_cmp nat_cmp t e.0.timeout ≡ b
    → cond b (Some (head_of e)) (row_at nat_cmp timeout_of (skip e.0.timeout (runs es)) t) ≡ option_map head_of (cond b (Some e) (first_of t es))) [
      | true ↦ λ is. refl
      | false ↦ λ out. skip-row e.0.timeout (runs es) t out ∙ runs-row es t
    ] refl

below-later : (p x : ℕ) (hs : List Head) → nat_cmp p x ≡ Less → IsBelow nat_cmp timeout_of x hs → IsBelow nat_cmp timeout_of p hs
below-later p x [] less below = tt
below-later p x (h ∷ hs) less below = (nat_cmp_total.trans p x h.key.timeout less below.0, below-later p x hs less below.1)

runs-rising : (es : List (Expiry × ℕ)) → T (is_sorted expiry_cmp es) → IsRising nat_cmp timeout_of (runs es)
runs-rising [] sorted = tt
runs-rising (e ∷ []) sorted = (tt, tt)
runs-rising (e ∷ d ∷ es) sorted =
    let parts = both (below_all expiry_cmp e.0 (d ∷ es)) (is_sorted expiry_cmp (d ∷ es)) sorted in
    let most : e.0.timeout ≤ d.0.timeout =
    at_most e.0.timeout d.0.timeout _ (is_true _ (both (is_lt (expiry_cmp e.0 d.0)) (below_all expiry_cmp e.0 es) parts.0).0) in
    let more = runs-rising (d ∷ es) parts.1 in
    elim (eq_by_cmp nat_cmp e.0.timeout d.0.timeout) as (λ b. eq_by_cmp nat_cmp e.0.timeout d.0.timeout ≡ b
    → IsBelow nat_cmp timeout_of e.0.timeout (cond b (skip d.0.timeout (runs es)) (runs (d ∷ es)))
    × IsRising nat_cmp timeout_of (cond b (skip d.0.timeout (runs es)) (runs (d ∷ es)))) [
      | true ↦ λ is. (subst (λ n. IsBelow nat_cmp timeout_of n (skip d.0.timeout (runs es))) (sym (timeout_is e.0.timeout d.0.timeout is)) more.0, more.1)
      | false ↦ λ out.
          let less = less_cmp e.0.timeout d.0.timeout (above e.0.timeout d.0.timeout most out) in
          ((less, below-later e.0.timeout d.0.timeout (skip d.0.timeout (runs es)) less more.0), more)
    ] refl

-- rows in the order of their timeouts that are the heads
heads-runs : (hs : List Head) (es : List (Expiry × ℕ)) → T (is_sorted expiry_cmp es) → IsRising nat_cmp timeout_of hs
    → by_timeout hs ≡ heads_of es → hs ≡ runs es
heads-runs hs es sorted rising is =
    let same : by_timeout (runs es) ≡ heads_of es =
    same_map nat_cmp_total exact_unsigned _ _ (λ t. get-map_of nat_cmp_total exact_unsigned timeout_of (runs es) t ∙ (runs-row es t ∙ sym (get-heads es t))) in
    sym (values-map_of nat_cmp_total timeout_of hs rising)
    ∙ (ap (λ (m : Map nat_cmp Head). maps.values m) (is ∙ sym same) ∙ values-map_of nat_cmp_total timeout_of (runs es) (runs-rising es sorted))

module _ (a : Adaptive) (states : ℕ) where
  runs-foremost : (es : List (Expiry × ℕ)) → T (is_sorted expiry_cmp es)
      → foremost (entry_before a states) (map entry_of (runs es)) ≡ foremost (entry_before a states) es
  runs-foremost [] sorted = refl
  runs-foremost (e ∷ []) sorted = refl
  runs-foremost (e ∷ d ∷ es) sorted =
      let before = entry_before a states in
      let parts = both (below_all expiry_cmp e.0 (d ∷ es)) (is_sorted expiry_cmp (d ∷ es)) sorted in
      let less = is_true _ (both (is_lt (expiry_cmp e.0 d.0)) (below_all expiry_cmp e.0 es) parts.0).0 in
      let left = map entry_of (skip d.0.timeout (runs es)) in
      let all = foremost-more before e (d ∷ left) ∙ (ap (joined before (Some e)) (runs-foremost (d ∷ es) parts.1) ∙ sym (foremost-more before e (d ∷ es))) in
      elim (eq_by_cmp nat_cmp e.0.timeout d.0.timeout) as (λ b. eq_by_cmp nat_cmp e.0.timeout d.0.timeout ≡ b
      → foremost before (e ∷ map entry_of (cond b (skip d.0.timeout (runs es)) (runs (d ∷ es)))) ≡ foremost before (e ∷ d ∷ es)) [
        | true ↦ λ is.
            foremost-more before e left
            ∙ (foremost-skips before (entry_before-asymmetric a states) (entry_before-passed_on a states) e (d ∷ []) left
            (less-due a states e.0 d.0 (timeout_is e.0.timeout d.0.timeout is) less, tt) ∙ all)
        | false ↦ λ out. all
      ] refl

  -- the first of the heads is the first of all entries
  pub heads-first : (hs : List Head) (es : List (Expiry × ℕ)) → T (is_sorted expiry_cmp es) → IsRising nat_cmp timeout_of hs → by_timeout hs ≡ heads_of es
      → foremost (entry_before a states) (map entry_of hs) ≡ foremost (entry_before a states) es
  heads-first hs es sorted rising is =
      ap (λ (xs : List Head). foremost (entry_before a states) (map entry_of xs)) (heads-runs hs es sorted rising is) ∙ runs-foremost es sorted

  -- one more of them is looked at
  pub heads-next : (first : Option (Expiry × ℕ)) (hs : List Head) (i : ℕ) (d : Head) → i < length hs
      → joined (entry_before a states) first (foremost (entry_before a states) (map entry_of (drop i hs))) ≡ foremost (entry_before a states) (map entry_of hs)
      → joined (entry_before a states) (Some (earlier a states first (entry_of (get_or hs i d))))
      (foremost (entry_before a states) (map entry_of (drop (i + 1) hs))) ≡ foremost (entry_before a states) (map entry_of hs)
  heads-next first hs i d within is =
      let split : map entry_of (drop i hs) ≡ entry_of (get_or hs i d) ∷ map entry_of (drop (i + 1) hs) =
      ap (map entry_of) (drop-cons hs i d within) ∙ ap (λ n. entry_of (get_or hs i d) ∷ map entry_of (drop n hs)) (sym (add-one i)) in
      entry-next a states first (entry_of (get_or hs i d)) (map entry_of (drop (i + 1) hs)) (map entry_of hs)
      (subst (λ (es : List (Expiry × ℕ)). joined (entry_before a states) first (foremost (entry_before a states) es)
      ≡ foremost (entry_before a states) (map entry_of hs)) split is)

-- there is room for the heads where there is room for the entries
pub heads-room : (m : Map nat_cmp Head) (es : List (Expiry × ℕ)) (limit room : ℕ) → m ≡ heads_of es → length es ≤ limit → room ≡ limit → maps.len m ≤ room
heads-room m es limit room is few same = omega (arith, ap (λ (n : Map nat_cmp Head). maps.len n) is, heads-few es, few, same)
