-- Names in rising order: those after a cursor, one after another.
use Rattle.std.specs.Prelude.{◌≡◌, ◌≤◌, ◌<◌, ℕ, zero, suc, ◌+◌, length, map, filter, find, take, Bool, true, false, List, [], ◌∷◌, ◌++◌, Some, None, refl}
use Rattle.std.proofs.Math.ListN.{set}
use Rattle.std.specs.Ordering.{is_lt, ordering_reverse, is_eq}
use Rattle.std.specs.declared.cmp.Ordering.{Ordering}
use Rattle.std.specs.declared.cmp.Ordering.TheVariants.{Less, Equal, Greater}
use Rattle.std.specs.Cmp.{eq_by_cmp_equiv}
use Rattle.std.specs.FinMap.Entries.{is_sorted, below_all}
use Rattle.std.proofs.Common.{cond, T, ◌∙◌, ap, sym, subst, arith}
use Rattle.std.proofs.lemmas.List.{append_assoc, append-nil, length-set, length-take-le, take_all, take-append-le, take_more_set}
use Rattle.pfl_base.specs.declared.state_name.StateName.{StateName}
use Rattle.pfl_base.specs.Names.{name_cmp}
use Rattle.pfl_base.proofs.ForCallers.{names_total}
use Rattle.pfl_bulk.specs.Bulk.{names_after}
use Rattle.pfl_edits.specs.Maps as maps
use Rattle.pfl_edits.specs.Maps.{entries_sorted}
use Rattle.pfl_edits.specs.Ordered.{IsBelow, IsRising}
use Rattle.pfl_receive.specs.table.Tables.{States, AreStates, state_after}
use Rattle.pfl_track.specs.declared.state.State.{State}
use Rattle.pfl_node.proofs.Expired.{Entries, AreFiled, filed, left, right, less_is}

abbrev pub names : List State → List StateName
names ss = map (λ s. s.name) ss

-- ---- the states of a table rise by name

below-entries : (name : StateName) (es : Entries) → T (below_all name_cmp name es) → AreFiled es
    → IsBelow name_cmp (λ (s : State). s.name) name (map (λ e. e.1) es)
below-entries name [] t f = tt
below-entries name (e ∷ es) t f = (ap (name_cmp name) f.0 ∙ less_is _ (left _ _ t), below-entries name es (right _ _ t) f.1)

rising-entries : (es : Entries) → T (is_sorted name_cmp es) → AreFiled es → IsRising name_cmp (λ (s : State). s.name) (map (λ e. e.1) es)
rising-entries [] t f = tt
rising-entries (e ∷ es) t f = (
  subst (λ (n : StateName). IsBelow name_cmp (λ (s : State). s.name) n (map (λ g. g.1) es)) (sym f.0) (below-entries e.0 es (left _ _ t) f.1),
  rising-entries es (right _ _ t) f.1,
)

pub values-rising : (m : States) → AreStates m → IsRising name_cmp (λ (s : State). s.name) (maps.values m)
values-rising m are = rising-entries (maps.entries m) (entries_sorted m) (filed m are)

-- ---- and so do the names of some of them

below-names : (p : State → Bool) (q : StateName) (ss : List State) → IsBelow name_cmp (λ (s : State). s.name) q ss
    → IsBelow name_cmp (λ (n : StateName). n) q (names (filter p ss))
below-names p q [] b = tt
below-names p q (s ∷ ss) b = elim (p s) as (λ c. IsBelow name_cmp (λ (n : StateName). n) q (names (cond c (s ∷ filter p ss) (filter p ss)))) [
  | true ↦ (b.0, below-names p q ss b.1)
  | false ↦ below-names p q ss b.1
]

pub rising-names : (p : State → Bool) (ss : List State) → IsRising name_cmp (λ (s : State). s.name) ss
    → IsRising name_cmp (λ (n : StateName). n) (names (filter p ss))
rising-names p [] r = tt
rising-names p (s ∷ ss) r = elim (p s) as (λ c. IsRising name_cmp (λ (n : StateName). n) (names (cond c (s ∷ filter p ss) (filter p ss)))) [
  | true ↦ (below-names p s.name ss r.0, rising-names p ss r.1)
  | false ↦ rising-names p ss r.1
]

below-filter : (p : StateName → Bool) (q : StateName) (ns : List StateName) → IsBelow name_cmp (λ (n : StateName). n) q ns
    → IsBelow name_cmp (λ (n : StateName). n) q (filter p ns)
below-filter p q [] b = tt
below-filter p q (n ∷ ns) b = elim (p n) as (λ c. IsBelow name_cmp (λ (n : StateName). n) q (cond c (n ∷ filter p ns) (filter p ns))) [
  | true ↦ (b.0, below-filter p q ns b.1)
  | false ↦ below-filter p q ns b.1
]

pub rising-filter : (p : StateName → Bool) (ns : List StateName) → IsRising name_cmp (λ (n : StateName). n) ns
    → IsRising name_cmp (λ (n : StateName). n) (filter p ns)
rising-filter p [] r = tt
rising-filter p (n ∷ ns) r = elim (p n) as (λ c. IsRising name_cmp (λ (n : StateName). n) (cond c (n ∷ filter p ns) (filter p ns))) [
  | true ↦ (below-filter p n ns r.0, rising-filter p ns r.1)
  | false ↦ rising-filter p ns r.1
]

below-take : (k : ℕ) (q : StateName) (ns : List StateName) → IsBelow name_cmp (λ (n : StateName). n) q ns
    → IsBelow name_cmp (λ (n : StateName). n) q (take k ns)
below-take zero q ns b = tt
below-take (suc k) q [] b = tt
below-take (suc k) q (n ∷ ns) b = (b.0, below-take k q ns b.1)

pub rising-take : (k : ℕ) (ns : List StateName) → IsRising name_cmp (λ (n : StateName). n) ns → IsRising name_cmp (λ (n : StateName). n) (take k ns)
rising-take zero ns r = tt
rising-take (suc k) [] r = tt
rising-take (suc k) (n ∷ ns) r = (below-take k n ns r.0, rising-take k ns r.1)

-- ---- the names after a cursor

lt_less : (r : Ordering) → is_lt r ≡ true → r ≡ Less
lt_less r e = less_is r (subst T (sym e) tt)

not_back : (a b : StateName) → name_cmp a b ≡ Less → is_lt (name_cmp b a) ≡ false
not_back a b e = ap is_lt (names_total.antisymm b a ∙ ap ordering_reverse e)

not_self : (a : StateName) → is_lt (name_cmp a a) ≡ false
not_self a = equal_not (name_cmp a a) ((eq_by_cmp_equiv names_total).refl a)
  where
    equal_not : (r : Ordering) → is_eq r ≡ true → is_lt r ≡ false
    equal_not Less e = absurd (cc)
    equal_not Equal e = refl
    equal_not Greater e = refl

after-all : (c : StateName) (ns : List StateName) → IsBelow name_cmp (λ (n : StateName). n) c ns → names_after c ns ≡ ns
after-all c [] b = refl
after-all c (n ∷ ns) b = ap (λ r. cond (is_lt r) (n ∷ names_after c ns) (names_after c ns)) b.0 ∙ ap (λ (ms : List StateName). n ∷ ms) (after-all c ns b.1)

below-all : (a b : StateName) (ns : List StateName) → name_cmp a b ≡ Less → IsBelow name_cmp (λ (n : StateName). n) b ns
    → IsBelow name_cmp (λ (n : StateName). n) a ns
below-all a b [] less below = tt
below-all a b (n ∷ ns) less below = (names_total.trans a b n less below.0, below-all a b ns less below.1)

found-below : (p : State → Bool) (q : StateName) (ss : List State) (s : State) → IsBelow name_cmp (λ (t : State). t.name) q ss
    → find p ss ≡ Some s → name_cmp q s.name ≡ Less
found-below p q [] s b e = absurd (cc)
found-below p q (t ∷ ss) s b e = elim (p t) as (λ c. cond c (Some t) (find p ss) ≡ Some s → name_cmp q s.name ≡ Less) [
  | true ↦ λ f. let same : t ≡ s = cc in subst (λ (u : State). name_cmp q u.name ≡ Less) same b.0
  | false ↦ λ f. found-below p q ss s b.1 f
] e

module _ (p : State → Bool) where
  -- a state that is not after the cursor is of no matter
  after-drop : (c : StateName) (t : State) (ss : List State) → is_lt (name_cmp c t.name) ≡ false
      → names_after c (names (filter p (t ∷ ss))) ≡ names_after c (names (filter p ss))
  after-drop c t ss late = elim (p t) as (λ b. names_after c (names (cond b (t ∷ filter p ss) (filter p ss))) ≡ names_after c (names (filter p ss))) [
    | true ↦ ap (λ b. cond b (t.name ∷ names_after c (names (filter p ss))) (names_after c (names (filter p ss)))) late
    | false ↦ refl
  ]

  -- the first is after the cursor, and so are all others
  after-first : (c : StateName) (t : State) (ss : List State) → IsBelow name_cmp (λ (s : State). s.name) t.name ss → is_lt (name_cmp c t.name) ≡ true
      → names_after c (names (filter p (t ∷ ss))) ≡ cond (p t) (t.name ∷ names_after t.name (names (filter p (t ∷ ss))))
      (names_after t.name (names (filter p (t ∷ ss))))
  after-first c t ss b is =
      let below = below-names p t.name ss b in
      let here = after-all t.name (names (filter p ss)) below in
      let there = after-all c (names (filter p ss)) (below-all c t.name (names (filter p ss)) (lt_less (name_cmp c t.name) is) below) in
      elim (p t) as (λ d. names_after c (names (cond d (t ∷ filter p ss) (filter p ss)))
      ≡ cond d (t.name ∷ names_after t.name (names (cond d (t ∷ filter p ss) (filter p ss))))
      (names_after t.name (names (cond d (t ∷ filter p ss) (filter p ss))))) [
        | true ↦
            ap (λ d. cond d (t.name ∷ names_after c (names (filter p ss))) (names_after c (names (filter p ss)))) is
            ∙ (ap (λ (ns : List StateName). t.name ∷ ns) (there ∙ sym here)
            ∙ ap (λ d. t.name ∷ cond d (t.name ∷ names_after t.name (names (filter p ss))) (names_after t.name (names (filter p ss)))) (sym (not_self t.name)))
        | false ↦ there ∙ sym here
      ]

  -- the first state after the cursor, if it passes, and then those after that
  pub after-next : (c : StateName) (ss : List State) (s : State) → IsRising name_cmp (λ (t : State). t.name) ss
      → find (λ t. is_lt (name_cmp c t.name)) ss ≡ Some s
      → names_after c (names (filter p ss)) ≡ cond (p s) (s.name ∷ names_after s.name (names (filter p ss))) (names_after s.name (names (filter p ss)))
  after-next c [] s r e = absurd (cc)
  after-next c (t ∷ ss) s r e =
      elim (is_lt (name_cmp c t.name)) as (λ b. is_lt (name_cmp c t.name) ≡ b → cond b (Some t) (find (λ u. is_lt (name_cmp c u.name)) ss) ≡ Some s
      → names_after c (names (filter p (t ∷ ss))) ≡ cond (p s) (s.name ∷ names_after s.name (names (filter p (t ∷ ss))))
      (names_after s.name (names (filter p (t ∷ ss))))) [
        | true ↦ λ is f.
            let same : t ≡ s = cc in
            subst (λ (u : State). names_after c (names (filter p (t ∷ ss)))
            ≡ cond (p u) (u.name ∷ names_after u.name (names (filter p (t ∷ ss)))) (names_after u.name (names (filter p (t ∷ ss)))))
            same (after-first c t ss r.0 is)
        | false ↦ λ late f.
            let gone = after-drop s.name t ss (not_back t.name s.name (found-below (λ u. is_lt (name_cmp c u.name)) t.name ss s r.0 f)) in
            after-drop c t ss late ∙ (after-next c ss s r.1 f ∙ sym (λ i. cond (p s) (s.name ∷ gone i) (gone i)))
      ] refl e

  -- and where there is none, none
  pub after-none : (c : StateName) (ss : List State) → find (λ t. is_lt (name_cmp c t.name)) ss ≡ None → names_after c (names (filter p ss)) ≡ []
  after-none c [] e = refl
  after-none c (t ∷ ss) e =
      elim (is_lt (name_cmp c t.name)) as (λ b. is_lt (name_cmp c t.name) ≡ b
      → cond b (Some t) (find (λ u. is_lt (name_cmp c u.name)) ss) ≡ None → names_after c (names (filter p (t ∷ ss))) ≡ []) [
        | true ↦ λ is f. absurd (cc)
        | false ↦ λ late f. after-drop c t ss late ∙ after-none c ss f
      ] refl e

-- ---- from one state of a table to the next

module _ (m : States) (are : AreStates m) (p : State
    → Bool) (at : StateName) (s : State) (name : StateName) (found : state_after m at ≡ Some s) (named : name ≡ s.name) where
  abbrev all : List StateName
  all = names (filter p (maps.values m))

  stepped : names_after at all ≡ cond (p s) (name ∷ names_after name all) (names_after name all)
  stepped = after-next p at (maps.values m) s (values-rising m are) found
      ∙ (λ i. cond (p s) (sym named i ∷ names_after (sym named i) all) (names_after (sym named i) all))

  -- it passes
  pub next-passes : p s ≡ true → names_after at all ≡ name ∷ names_after name all
  next-passes passes = stepped ∙ ap (λ b. cond b (name ∷ names_after name all) (names_after name all)) passes

  -- or not
  pub next-skipped : p s ≡ false → names_after at all ≡ names_after name all
  next-skipped fails = stepped ∙ ap (λ b. cond b (name ∷ names_after name all) (names_after name all)) fails

-- one less is after it
pub fewer-behind : (m : States) → AreStates m → (at : StateName) (s : State) (name : StateName) → state_after m at ≡ Some s → name ≡ s.name
    → length (names_after name (names (filter (λ t. true) (maps.values m)))) < length (names_after at (names (filter (λ t. true) (maps.values m))))
fewer-behind m are at s name found named =
    let more = ap (λ (ns : List StateName). length ns) (next-passes m are (λ t. true) at s name found named refl) in
    omega (arith, more)

-- ---- gathered one after another

-- the first names after the cursor stand in front, and those after the last of them are left
pub record IsGathered (all : List StateName) (cursor at : StateName) (ns : List StateName) (count most : ℕ) : Type 0 where
  pub within : count ≤ most
  pub room : most ≤ length ns
  pub rest : take count ns ++ names_after at all ≡ names_after cursor all

pub gathered-first : (all : List StateName) (cursor : StateName) (ns : List StateName) (most : ℕ) → most ≤ length ns → IsGathered all cursor cursor ns 0 most
gathered-first all cursor ns most room = record { within = omega arith; room = room; rest = refl }

module _ (all : List StateName) (cursor at : StateName) (ns : List StateName) (count most : ℕ) (so : IsGathered all cursor at ns count most) where
  -- one more
  pub gathered-more : (name : StateName) → count < most → names_after at all ≡ name ∷ names_after name all
      → IsGathered all cursor name (set ns count name) (count + 1) most
  gathered-more name less next =
      let room = so.room in
      let long = length-set ns count name in
      record {
        within = omega arith;
        room = omega (arith, room, long);
        rest =
            ap (λ (ms : List StateName). ms ++ names_after name all) (take_more_set ns count name (omega (arith, room)))
            ∙ (append_assoc (take count ns) (name ∷ []) (names_after name all)
            ∙ (ap (λ (ms : List StateName). take count ns ++ ms) (sym next) ∙ so.rest));
      }

  -- one that is passed over
  pub gathered-skip : (name : StateName) → names_after at all ≡ names_after name all → IsGathered all cursor name ns count most
  gathered-skip name next = record { within = so.within; room = so.room; rest = ap (λ (ms : List StateName). take count ns ++ ms) (sym next) ∙ so.rest }

  long : length (take count ns) ≡ count
  long = let within = so.within in let room = so.room in length-take-le count ns (omega (arith, within, room))

  -- as many as were wanted
  pub gathered-full : most ≤ count → take count ns ≡ take most (names_after cursor all)
  gathered-full full =
      let within = so.within in
      sym (ap (take most) (sym so.rest)
      ∙ (take-append-le most (take count ns) (names_after at all) (omega (arith, full, long)) ∙ take_all most (take count ns) (omega (arith, within, long))))

  -- or all that there are
  pub gathered-all : names_after at all ≡ [] → take count ns ≡ take most (names_after cursor all)
  gathered-all none =
      let within = so.within in
      let whole : take count ns ≡ names_after cursor all = sym (append-nil (take count ns))
      ∙ (ap (λ (ms : List StateName). take count ns ++ ms) (sym none) ∙ so.rest) in
      let size = ap (λ (ms : List StateName). length ms) whole in
      whole ∙ sym (take_all most (names_after cursor all) (omega (arith, within, long, size)))
