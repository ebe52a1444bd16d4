-- The longest prefix whose frame has at most mtu bytes is found by adding up.
use Rattle.std.proofs.Common.{◌≡◌, ℕ, ◌+◌, ◌-◌, ◌*◌, ◌<◌, ◌≤◌, zero, suc, Bool, true, false, cond, List, [], ◌∷◌, ◌++◌, map, take, drop, length}
use Rattle.std.proofs.Common.{get_or, take-take, Option, Some, refl, sym, ◌∙◌, ap, subst, arith, nat_le, add-one}
use Rattle.std.specs.Prelude.{if◌then◌else◌, filter, unwrap_or}
use Rattle.std.specs.List.{sum_by}
use Rattle.std.proofs.Math.Seq.{take-suc}
use Rattle.std.proofs.lemmas.Bool.Decides.{nat_tests}
use Rattle.std.proofs.lemmas.List.{take-append-drop, length-map, length-take-le, map-append}
use Rattle.std.proofs.lemmas.List.Sums.{sum_by-cons}
use Rattle.pfl_base.specs.Lists.{last_of, prefixes, neighbours, joined}
use Rattle.pfl_edits.proofs.ForCallers.{some_is_none}
use Rattle.pfl_wire.specs.declared.action.Action.{Action}
use Rattle.pfl_wire.specs.declared.action.Action.TheVariants as action
use Rattle.pfl_wire.specs.Actions.{record_len}
use Rattle.pfl_queue.specs.declared.Entry.{Entry}
use Rattle.pfl_queue.specs.Queues.{Queue}
use Rattle.pfl_queue.specs.Taking.{entry_action, one_action, bytes_of, in_turn, next_frame}
use Rattle.pfl_queue.specs.inner.Fitting.{entry_bytes, added, longest}

-- the frame is the longest prefix of what is pending
pub next_frame-longest : (q : Queue) (mtu : ℕ) → next_frame q mtu ≡ longest (in_turn q) mtu
unfolding next_frame
next_frame-longest q mtu = refl

-- The bytes of the groups, record by record.

abbrev header : Action → Action → ℕ
header x y = if one_action x y then 0 else 4

abbrev weight : List Action → ℕ
weight [] = 0
weight (x ∷ []) = 4 + record_len x
weight (x ∷ y ∷ ys) = record_len x + (header x y + weight (y ∷ ys))

abbrev records_bytes : List Action → ℕ
records_bytes [] = 0
records_bytes (x ∷ xs) = record_len x + records_bytes xs

abbrev groups_bytes : List (List Action) → ℕ
groups_bytes [] = 0
groups_bytes (group ∷ groups) = 4 + (records_bytes group + groups_bytes groups)

records_sum : (xs : List Action) → sum_by record_len xs ≡ records_bytes xs
records_sum [] = refl
records_sum (x ∷ xs) = sum_by-cons record_len x xs ∙ ap (λ n. record_len x + n) (records_sum xs)

groups_sum : (groups : List (List Action)) → sum_by (λ group. 4 + sum_by record_len group) groups ≡ groups_bytes groups
groups_sum [] = refl
groups_sum (group ∷ groups) = omega (arith, sum_by-cons (λ g. 4 + sum_by record_len g) group groups, records_sum group, groups_sum groups)

-- the first group begins with the first record
record BeginsWith (x : Action) (groups : List (List Action)) : Type 0 where
  rest : List Action
  others : List (List Action)
  is : groups ≡ (x ∷ rest) ∷ others

joined_begins : (x : Action) (groups : List (List Action)) → BeginsWith x (joined one_action x groups)
joined_begins x [] = record { rest = []; others = []; is = refl }
joined_begins x ([] ∷ groups) = record { rest = []; others = groups; is = refl }
joined_begins x ((y ∷ ys) ∷ groups) =
    elim (one_action x y) as (λ b. BeginsWith x (if b then (x ∷ y ∷ ys) ∷ groups else (x ∷ []) ∷ (y ∷ ys) ∷ groups)) [
      | true ↦ record { rest = y ∷ ys; others = groups; is = refl }
      | false ↦ record { rest = []; others = (y ∷ ys) ∷ groups; is = refl }
    ]

joined_bytes : (x y : Action) (ys : List Action) (groups : List (List Action))
    → groups_bytes (joined one_action x ((y ∷ ys) ∷ groups)) ≡ record_len x + (header x y + groups_bytes ((y ∷ ys) ∷ groups))
joined_bytes x y ys groups =
    elim (one_action x y) as (λ b. groups_bytes (if b then (x ∷ y ∷ ys) ∷ groups else (x ∷ []) ∷ (y ∷ ys) ∷ groups)
    ≡ record_len x + ((if b then 0 else 4) + groups_bytes ((y ∷ ys) ∷ groups))) [
      | true ↦ omega arith
      | false ↦ omega arith
    ]

groups_weight : (actions : List Action) → groups_bytes (neighbours one_action actions) ≡ weight actions
groups_weight [] = refl
groups_weight (x ∷ []) = omega arith
groups_weight (x ∷ y ∷ ys) =
    let first = joined_begins y (neighbours one_action ys) in
    ap (λ (groups : List (List Action)). groups_bytes (joined one_action x groups)) first.is
    ∙ joined_bytes x y first.rest first.others
    ∙ ap (λ n. record_len x + (header x y + n)) (sym (ap groups_bytes first.is) ∙ groups_weight (y ∷ ys))

bytes_weight : (actions : List Action) → bytes_of actions ≡ 20 + weight actions
bytes_weight actions = ap (λ n. 20 + n) (groups_sum (neighbours one_action actions) ∙ groups_weight actions)

-- one record more
weight-last : (actions : List Action) (a : Action) → weight (actions ++ a ∷ []) ≡ weight actions + added (last_of actions) a
weight-last [] a = omega arith
weight-last (x ∷ []) a = omega arith
weight-last (x ∷ y ∷ ys) a = omega (arith, weight-last (y ∷ ys) a)

some_bytes : (y : Action) (ys : List Action) → 4 ≤ weight (y ∷ ys)
some_bytes y [] = omega arith
some_bytes y (z ∷ zs) = omega (arith, some_bytes z zs)

-- more records are no fewer bytes
weight-more : (front back : List Action) → weight front ≤ weight (front ++ back)
weight-more [] back = omega arith
weight-more (x ∷ []) [] = omega arith
weight-more (x ∷ []) (y ∷ ys) = omega (arith, some_bytes y ys)
weight-more (x ∷ y ∷ ys) back = omega (arith, weight-more (y ∷ ys) back)

-- The bytes of entries.

bytes-last : (es : List Entry) (e : Entry) → entry_bytes (es ++ e ∷ []) ≡ entry_bytes es + added (last_of (map entry_action es)) (entry_action e)
bytes-last es e =
    let actions = map entry_action es in
    let a = entry_action e in
    ap bytes_of (map-append entry_action es (e ∷ []))
    ∙ (bytes_weight (actions ++ a ∷ []) ∙ (ap (λ n. 20 + n) (weight-last actions a) ∙ omega (arith, bytes_weight actions)))

bytes-more : (front back : List Entry) → entry_bytes front ≤ entry_bytes (front ++ back)
bytes-more front back =
    omega (
      arith,
      ap bytes_of (map-append entry_action front back),
      bytes_weight (map entry_action front),
      bytes_weight
          (map entry_action front ++ map entry_action back),
      weight-more (map entry_action front) (map entry_action back),
    )

last-pushed : {X : Type 0} (xs : List X) (x : X) → last_of (xs ++ x ∷ []) ≡ Some x
last-pushed [] x = refl
last-pushed (y ∷ []) x = refl
last-pushed (y ∷ z ∷ zs) x = last-pushed (z ∷ zs) x

-- The last prefix that passes.

last-cons : {X Y : Type 0} (f : X → Y) (y : Y) (xs : List X) (x : X) → last_of xs ≡ Some x → last_of (y ∷ map f xs) ≡ Some (f x)
last-cons f y [] x is = absurd (some_is_none x (sym is))
last-cons f y (z ∷ []) x is = let same : z ≡ x = cc in ap (λ w. Some (f w)) same
last-cons f y (z ∷ w ∷ ws) x is = last-cons f (f z) (w ∷ ws) x is

last-map : {X Y : Type 0} (f : X → Y) (xs : List X) (x : X) → last_of xs ≡ Some x → last_of (map f xs) ≡ Some (f x)
last-map f [] x is = absurd (some_is_none x (sym is))
last-map f (z ∷ []) x is = let same : z ≡ x = cc in ap (λ w. Some (f w)) same
last-map f (z ∷ w ∷ ws) x is = last-cons f (f z) (w ∷ ws) x is

filter-map : {X Y : Type 0} (f : X → Y) (p : Y → Bool) (xs : List X) → filter p (map f xs) ≡ map f (filter (λ x. p (f x)) xs)
filter-map f p [] = refl
filter-map f p (x ∷ xs) = elim (p (f x)) as
    (λ b. cond b (f x ∷ filter p (map f xs)) (filter p (map f xs)) ≡ map f (cond b (x ∷ filter (λ x. p (f x)) xs) (filter (λ x. p (f x)) xs))) [
      | true ↦ ap (λ ys. f x ∷ ys) (filter-map f p xs)
      | false ↦ filter-map f p xs
    ]

none_pass : {X : Type 0} (p : List X → Bool) (xs : List X) → ((j : ℕ) → j ≤ length xs → p (take j xs) ≡ false) → filter p (prefixes xs) ≡ []
none_pass p [] fail = ap (λ b. cond b ([] ∷ []) []) (fail 0 (omega arith))
none_pass p (x ∷ xs) fail =
    ap (λ b. cond b ([] ∷ filter p (map (λ front. x ∷ front) (prefixes xs))) (filter p (map (λ front. x ∷ front) (prefixes xs)))) (fail 0 (omega arith))
    ∙ filter-map (λ front. x ∷ front) p (prefixes xs)
    ∙ ap (map (λ front. x ∷ front)) (none_pass (λ front. p (x ∷ front)) xs (λ j h. fail (suc j) (omega arith)))

last_passes : {X : Type 0} (p : List X → Bool) (xs : List X) (i : ℕ) → i ≤ length xs → p (take i xs) ≡ true
    → ((j : ℕ) → i < j → j ≤ length xs → p (take j xs) ≡ false) → last_of (filter p (prefixes xs)) ≡ Some (take i xs)
last_passes p [] zero within passes fail = ap (λ b. last_of (cond b ([] ∷ []) [])) passes
last_passes p [] (suc i) within passes fail = absurd (omega arith)
last_passes p (x ∷ xs) zero within passes fail =
    let longer = filter p (map (λ front. x ∷ front) (prefixes xs)) in
    ap (λ b. last_of (cond b ([] ∷ longer) longer)) passes
    ∙ ap (λ ys. last_of ([] ∷ ys)) (filter-map (λ front. x ∷ front) p (prefixes xs)
    ∙ ap (map (λ front. x ∷ front)) (none_pass (λ front. p (x ∷ front)) xs (λ j h. fail (suc j) (omega arith) (omega arith))))
last_passes p (x ∷ xs) (suc i) within passes fail =
    let rest = last_passes (λ front. p (x ∷ front)) xs i (omega arith) passes (λ j above h. fail (suc j) (omega arith) (omega arith)) in
    let shape = filter-map (λ front. x ∷ front) p (prefixes xs) in
    ap (λ ys. last_of (cond (p []) ([] ∷ ys) ys)) shape
    ∙ (elim (p []) as (λ b. last_of
    (cond b ([] ∷ map (λ front. x ∷ front) (filter (λ front. p (x ∷ front)) (prefixes xs)))
    (map (λ front. x ∷ front) (filter (λ front. p (x ∷ front)) (prefixes xs)))) ≡ Some (x ∷ take i xs)) [
      | true ↦ last-cons (λ front. x ∷ front) [] (filter (λ front. p (x ∷ front)) (prefixes xs)) (take i xs) rest
      | false ↦ last-map (λ front. x ∷ front) (filter (λ front. p (x ∷ front)) (prefixes xs)) (take i xs) rest
    ])

-- Longer prefixes are no fewer bytes.
module _ (es : List Entry) (mtu : ℕ) where
  longer : (i j : ℕ) → i ≤ j → entry_bytes (take i es) ≤ entry_bytes (take j es)
  longer i j h =
      let front = take-take i j es h in
      rw (← front) (subst (λ (ys : List Entry). entry_bytes (take i (take j es)) ≤ entry_bytes ys) (take-append-drop i (take j es))
      (bytes-more (take i (take j es)) (drop i (take j es))))

  too_long : (i : ℕ) → mtu < entry_bytes (take i es) → nat_le (entry_bytes (take i es)) mtu ≡ false
  too_long i h = grind (arith, nat_tests)

  -- what no frame has room for
  pub nothing_fits : mtu < 20 → [] ≡ longest es mtu
  nothing_fits h =
      sym (ap (λ fronts. unwrap_or (last_of fronts) [])
      (none_pass (λ front. nat_le (entry_bytes front) mtu) es
      (λ j within. too_long j (omega (arith, h, bytes_weight (map entry_action (take j es)))))))

  -- or all fit,
  pub all_fit : (left i : ℕ) → i ≡ length es → left + entry_bytes (take i es) ≡ mtu → take (length es) es ≡ longest es mtu
  all_fit left i end sum =
      rw (← end) (sym (ap (λ o. unwrap_or o [])
      (last_passes (λ front. nat_le (entry_bytes front) mtu) es i (omega (arith, end)) (grind (arith, nat_tests))
      (λ j above h. absurd (omega (arith, end))))))

  -- What the next entry costs.
  module _ (i : ℕ) (d : Entry) (within : i < length es) (left cost : ℕ) (before : Option Action) (action : Action)
      (sum : left + entry_bytes (take i es) ≡ mtu) (last : before ≡ last_of (map entry_action (take i es)))
      (is : action ≡ entry_action (get_or es i d)) (costs : cost ≡ added before action) where
    more : entry_bytes (take (suc i) es) ≡ entry_bytes (take i es) + cost
    more =
        ap entry_bytes (take-suc es i d within) ∙ bytes-last (take i es) (get_or es i d)
        ∙ ap (λ n. entry_bytes (take i es) + n) (sym (costs ∙ (ap (λ o. added o action) last ∙ ap (added (last_of (map entry_action (take i es)))) is)))

    -- or the first entry that does not fit ends the frame
    pub stops_here : left < cost → take i es ≡ longest es mtu
    stops_here h =
        sym (ap (λ o. unwrap_or o []) (last_passes (λ front. nat_le (entry_bytes front) mtu) es i (omega arith) (grind (arith, nat_tests))
        (λ j above within_j. too_long j (omega (arith, more, sum, h, longer (suc i) j (omega arith))))))

    pub one_more : cost ≤ left → left - cost + entry_bytes (take (i + 1) es) ≡ mtu
    one_more h = rw add-one (omega (arith, more, sum, h))

    pub last_more : Some action ≡ last_of (map entry_action (take (i + 1) es))
    last_more =
        rw (add-one, take-suc es i d within)
        (ap Some is ∙ sym (ap last_of (map-append entry_action (take i es) (get_or es i d ∷ []))
        ∙ last-pushed (map entry_action (take i es)) (entry_action (get_or es i d))))

-- A frame has room for no more entries than it has bytes for the least of them.

least_record : (a : Action) → 8 ≤ record_len a
least_record action.Clear = omega arith
least_record action.Insert = omega arith
least_record action.InsertAck = omega arith
least_record action.Update = omega arith
least_record action.UpdateShort = omega arith
least_record action.UpdateRequest = omega arith
least_record action.Delete = omega arith
least_record action.DeleteShort = omega arith
least_record action.Bulk = omega arith

many_bytes : (actions : List Action) → 8 * length actions ≤ weight actions
many_bytes [] = omega arith
many_bytes (x ∷ []) = omega (arith, least_record x)
many_bytes (x ∷ y ∷ ys) = omega (arith, least_record x, many_bytes (y ∷ ys))

bounded_fronts : {X : Type 0} (p : List X → Bool) (n : ℕ) (xs : List X) → ((j : ℕ) → n < j → j ≤ length xs → p (take j xs) ≡ false)
    → filter p (prefixes (take n xs)) ≡ filter p (prefixes xs)
bounded_fronts p zero [] fail = refl
bounded_fronts p (suc n) [] fail = refl
bounded_fronts p zero (x ∷ xs) fail =
    let none = none_pass (λ front. p (x ∷ front)) xs (λ j h. fail (suc j) (omega arith) (omega arith)) in
    ap (λ fronts. cond (p []) ([] ∷ fronts) fronts) (sym (filter-map (λ front. x ∷ front) p (prefixes xs) ∙ ap (map (λ front. x ∷ front)) none))
bounded_fronts p (suc n) (x ∷ xs) fail =
    let same = bounded_fronts (λ front. p (x ∷ front)) n xs (λ j above h. fail (suc j) (omega arith) (omega arith)) in
    ap (λ fronts. cond (p []) ([] ∷ fronts) fronts)
    (filter-map (λ front. x ∷ front) p (prefixes (take n xs)) ∙ ap (map (λ front. x ∷ front)) same ∙ sym (filter-map (λ front. x ∷ front) p (prefixes xs)))

pub longest_bounded : (n : ℕ) (es : List Entry) (mtu : ℕ) → mtu < 8 * n + 8 → longest (take n es) mtu ≡ longest es mtu
longest_bounded n es mtu few =
    ap (λ fronts. unwrap_or (last_of fronts) []) (bounded_fronts (λ front. nat_le (entry_bytes front) mtu) n es
    (λ j above within. too_long es mtu j
    (omega (
      arith,
      few,
      above,
      bytes_weight (map entry_action (take j es)),
      many_bytes (map entry_action (take j es)),
      length-map
          (take j es) entry_action,
      length-take-le j es within,
    ))))
