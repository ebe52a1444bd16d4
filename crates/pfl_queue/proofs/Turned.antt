-- Marks at slots stand in the order of frames.
use Rattle.std.specs.Prelude.{◌≡◌, ℕ, zero, suc, ◌+◌, ◌<◌, ◌≤◌, false, ◌&&◌, ◌||◌, ◌==◌, nat_lt, List, [], ◌∷◌, ◌++◌, length, map, take, get_or}
use Rattle.std.specs.Prelude.{Option, Some, None, refl}
use Rattle.std.specs.List.{AllByRecursion, sum_by}
use Rattle.std.proofs.Common.{◌∙◌, ap, sym, subst, arith, append_assoc}
use Rattle.std.proofs.lemmas.Bool.Decides.{nat_tests}
use Rattle.std.proofs.lemmas.List.{append-nil, map-append, length-append}
use Rattle.std.proofs.lemmas.List.Sums.{sum_by-cons}
use Rattle.pfl_base.specs.Lists.{in_order}
use Rattle.pfl_base.specs.Names.{name_cmp}
use Rattle.pfl_base.proofs.ForCallers.{names_total, names_exact, each-in_order, each-weaker}
use Rattle.pfl_edits.specs.Maps as maps
use Rattle.pfl_edits.specs.Maps.{Map}
use Rattle.pfl_edits.proofs.ForCallers.{entries-empty, get-set_at_same, set_at-back, Distinct, get-map_of, some_is_none}
use Rattle.pfl_edits.specs.Rows.{map_of}
use Rattle.pfl_containers.specs.Lists.{Link, link, Lists, Place, links_of, first_slot}
use Rattle.pfl_queue.specs.declared.Mark.{Mark}
use Rattle.pfl_queue.specs.inner.Marked.{mark_of_link, mark_name, mark_number, all_links, listed, marks_of, AreOfKind, AreInTurn}
use Rattle.pfl_queue.specs.inner.Rising.{IsAbove, IsRising}
use Rattle.pfl_queue.specs.Queues.{Queue, IsQueue}
use Rattle.pfl_queue.specs.Taking.{kind_place, mark_before}
use Rattle.pfl_queue.proofs.Gaps.{above_lower}
use Rattle.pfl_queue.proofs.InTurn.{Stands, before_order, exact, all_stand}
use Rattle.pfl_queue.proofs.Sorting.{Rises, order-sum, order-rises, same_rising}
use Rattle.pfl_queue.proofs.Values.{values_stand, sum_without}

-- ---- none stands before one that comes earlier

lesser_kind : (a b c d : ℕ) → b < a → (nat_lt a b || ((a == b) && nat_lt c d)) ≡ false
lesser_kind a b c d h = grind (arith, nat_tests)

lesser_number : (a b c d : ℕ) → a ≡ b → d < c → (nat_lt a b || ((a == b) && nat_lt c d)) ≡ false
lesser_number a b c d e h = grind (arith, nat_tests)

none_later : (k : ℕ) (x : Mark) (rest : List Mark) → kind_place x.kind ≡ k → AllByRecursion (λ m. suc k ≤ kind_place m.kind) rest
    → AllByRecursion (λ y. mark_before y x ≡ false) rest
none_later k x [] its late = tt
none_later k x (y ∷ rest) its late = (
  lesser_kind (kind_place y.kind) (kind_place x.kind) y.number x.number (omega (arith, late.0, its)),
  none_later k x rest its late.1,
)

none_first : (k : ℕ) (x : Mark) (links rest : List (Link Mark)) → kind_place x.kind ≡ k → AreOfKind k links
    → IsAbove mark_number x.number links → AllByRecursion (λ m. suc k ≤ kind_place m.kind) (map mark_of_link rest)
    → AllByRecursion (λ y. mark_before y x ≡ false) (map mark_of_link (links ++ rest))
none_first k x [] rest its kinds above late = none_later k x (map mark_of_link rest) its late
none_first k x (y ∷ links) rest its kinds above late = (
  lesser_number (kind_place y.value.kind) (kind_place x.kind) y.value.number x.number (kinds.0 ∙ sym its) above.0,
  none_first k x links rest its kinds.1 above.1 late,
)

rises_front : (k : ℕ) (links rest : List (Link Mark)) → AreOfKind k links → IsRising mark_number links
    → Rises mark_before (map mark_of_link rest) → AllByRecursion (λ m. suc k ≤ kind_place m.kind) (map mark_of_link rest)
    → Rises mark_before (map mark_of_link (links ++ rest))
rises_front k [] rest kinds rising r late = r
rises_front k (x ∷ links) rest kinds rising r late =
    (none_first k x.value links rest kinds.0 kinds.1 rising.0 late, rises_front k links rest kinds.1 rising.1 r late)

of_kind : (k : ℕ) (links rest : List (Link Mark)) → AreOfKind k links
    → AllByRecursion (λ m. suc k ≤ kind_place m.kind) (map mark_of_link rest)
    → AllByRecursion (λ m. k ≤ kind_place m.kind) (map mark_of_link (links ++ rest))
of_kind k [] rest kinds late =
    each-weaker (λ (m : Mark). suc k ≤ kind_place m.kind) (λ (m : Mark). k ≤ kind_place m.kind) (λ m later. omega arith) (map mark_of_link rest) late
of_kind k (x ∷ links) rest kinds late = (omega (arith, kinds.0), of_kind k links rest kinds.1 late)

record AreFrom (k : ℕ) (lists : List (List (Link Mark))) : Type 0 where
  rises : Rises mark_before (listed lists)
  late : AllByRecursion (λ m. k ≤ kind_place m.kind) (listed lists)

are_from : (k : ℕ) (lists : List (List (Link Mark))) → ((j : ℕ) → j < length lists → AreOfKind (k + j) (get_or lists j []))
    → ((j : ℕ) → j < length lists → IsRising mark_number (get_or lists j [])) → AreFrom k lists
are_from k [] kinds rising = record { rises = tt; late = tt }
are_from k (links ∷ lists) kinds rising =
    let one_on : (j : ℕ) → k + suc j ≡ suc k + j = λ j. omega arith in
    let none_on : k + 0 ≡ k = omega arith in
    let rest = are_from (suc k) lists
    (λ j h. subst (λ (n : ℕ). AreOfKind n (get_or lists j [])) (one_on j) (kinds (suc j) (omega (arith, h))))
    (λ j h. rising (suc j) (omega (arith, h))) in
    let here = subst (λ (n : ℕ). AreOfKind n links) none_on (kinds 0 (omega arith)) in
    record {
      rises = rises_front k links (all_links lists) here (rising 0 (omega arith)) rest.rises rest.late;
      late = of_kind k links (all_links lists) here rest.late;
    }

-- ---- the values of a map are those that it is made of

sum_map_of : (f : Mark → ℕ) (xs : List Mark) → Distinct name_cmp mark_name xs → sum_by f xs ≡ sum_by f (maps.values (map_of name_cmp mark_name xs))
sum_map_of f [] d = ap (λ (es : List _). sum_by f (map (λ e. e.1) es)) (sym (entries-empty name_cmp))
sum_map_of f (x ∷ xs) d =
    let m = map_of name_cmp mark_name xs in
    let none : maps.get m x.name ≡ None = get-map_of names_total names_exact mark_name xs x.name ∙ d.0 in
    omega (
      arith,
      sum_by-cons f x xs,
      sum_map_of f xs d.1,
      sum_without f (maps.insert m x.name x) x x.name (get-set_at_same names_total names_exact m x.name (Some x)),
      ap (λ (n : Map name_cmp Mark). sum_by f (maps.values n)) (set_at-back names_total names_exact m x.name None (Some x) none),
    )

-- the marks of the lists are those of the queues, in the order of frames
pub in-turn : (q : Queue) → IsQueue q → (c : Lists Mark) → AreInTurn c → marks_of c.lists ≡ q.marks
    → listed c.lists ≡ in_order mark_before (maps.values q.marks)
in-turn q is c are same =
    let zero_on : (j : ℕ) → j ≡ 0 + j = λ j. omega arith in
    let from = are_from 0 c.lists
    (λ j h. subst (λ (n : ℕ). AreOfKind n (get_or c.lists j [])) (zero_on j) (are.kinds j (omega (arith, h, are.five))))
    (λ j h. are.rising j (omega (arith, h, are.five))) in
    let values = maps.values q.marks in
    same_rising mark_before before_order (Stands q) (exact q is) (listed c.lists) (in_order mark_before values)
    from.rises (order-rises mark_before before_order values)
    (all_stand q (listed c.lists) are.apart same) (each-in_order (Stands q) mark_before values (values_stand q is))
    (λ f. sum_map_of f (listed c.lists) are.apart ∙ (ap (λ (m : Map name_cmp Mark). sum_by f (maps.values m)) same ∙ sym (order-sum mark_before f values)))

-- ---- the first marks

pub all_taken : {X : Type 0} (n : ℕ) (xs : List X) → length xs ≤ n → take n xs ≡ xs
all_taken zero [] h = refl
all_taken (suc n) [] h = refl
all_taken zero (x ∷ xs) h = absurd (omega arith)
all_taken (suc n) (x ∷ xs) h = ap (λ ys. x ∷ ys) (all_taken n xs (omega arith))

taken_on : {X : Type 0} (n : ℕ) (xs ys : List X) → take n (take n xs ++ ys) ≡ take n (xs ++ ys)
taken_on zero xs ys = refl
taken_on (suc n) [] ys = refl
taken_on (suc n) (x ∷ xs) ys = ap (λ zs. x ∷ zs) (taken_on n xs ys)

all_next : (lists : List (List (Link Mark))) (k : ℕ) → k < length lists → all_links (take (suc k) lists) ≡ all_links (take k lists) ++ get_or lists k []
all_next [] k h = absurd (omega arith)
all_next (x ∷ lists) zero h = append-nil x
all_next (x ∷ lists) (suc k) h =
    ap (λ (ls : List (Link Mark)). x ++ ls) (all_next lists k (omega arith)) ∙ sym (append_assoc x (all_links (take k lists)) (get_or lists k []))

-- one kind more
pub kinds_next : (lists : List (List (Link Mark))) (most k : ℕ) (now next : List Mark) → k < length lists
    → now ≡ take most (listed (take k lists)) → next ≡ take most (now ++ map mark_of_link (get_or lists k []))
    → next ≡ take most (listed (take (suc k) lists))
kinds_next lists most k now next h is more =
    more ∙ (ap (λ (ms : List Mark). take most (ms ++ map mark_of_link (get_or lists k []))) is
    ∙ (taken_on most (listed (take k lists)) (map mark_of_link (get_or lists k []))
    ∙ ap (take most) (sym (map-append mark_of_link (all_links (take k lists)) (get_or lists k [])) ∙ ap (map mark_of_link) (sym (all_next lists k h)))))

-- how far a list was read
pub record Walked (c : Lists Mark) (kind most : ℕ) (old now : List Mark) (next : Option ℕ) : Type 0 where
  pub front : List (Link Mark)
  pub back : List (Link Mark)
  pub split : links_of c kind ≡ front ++ back
  pub at : next ≡ first_slot back
  pub is : now ≡ old ++ map mark_of_link front
  pub few : length now ≤ most

-- the link that is next
pub record Next (c : Lists Mark) (kind most : ℕ) (old now : List Mark) (slot : ℕ) : Type 0 where
  pub at : Place c slot
  pub front : List (Link Mark)
  pub split : links_of c kind ≡ front ++ link slot at.value ∷ at.back
  pub is : now ≡ old ++ map mark_of_link front

pub walk-next : (c : Lists Mark) (kind most : ℕ) (old now : List Mark) (slot : ℕ) → kind < length c.lists
    → Walked c kind most old now (Some slot) → Next c kind most old now slot
walk-next c kind most old now slot h w = through w.back w.split w.at
  where
    through : (back : List (Link Mark)) → links_of c kind ≡ w.front ++ back → Some slot ≡ first_slot back → Next c kind most old now slot
    through [] split at = absurd (some_is_none slot at)
    through (x ∷ back) split at =
        let same : x.slot ≡ slot = cc in
        let is : links_of c kind ≡ w.front ++ link slot x.value ∷ back = split ∙ ap (λ n. w.front ++ link n x.value ∷ back) same in
        record {
          at = record { list = kind; within = h; front = w.front; value = x.value; back = back; split = is };
          front = w.front;
          split = is;
          is = w.is;
        }

pub walk-on : (c : Lists Mark) (kind most : ℕ) (old now : List Mark) (slot : ℕ) (n : Next c kind most old now slot) → length now < most
    → (v : Mark) → v ≡ n.at.value → (more : List Mark) → more ≡ now ++ v ∷ []
    → (next : Option ℕ) → next ≡ first_slot n.at.back → Walked c kind most old more next
walk-on c kind most old now slot n few v value more is next at =
    let x = link slot n.at.value in
    record {
      front = n.front ++ x ∷ [];
      back = n.at.back;
      split = n.split ∙ sym (append_assoc n.front (x ∷ []) n.at.back);
      at = at;
      is = is ∙ (ap (λ (m : Mark). now ++ m ∷ []) value ∙ (ap (λ (ms : List Mark). ms ++ n.at.value ∷ []) n.is
          ∙ (append_assoc old (map mark_of_link n.front) (n.at.value ∷ [])
          ∙ ap (λ (ms : List Mark). old ++ ms) (sym (map-append mark_of_link n.front (x ∷ []))))));
      few = omega (arith, few, ap length is, length-append now (v ∷ []));
    }

-- ---- a number that is below those of a list

-- the first link of a list
pub record First (c : Lists Mark) (kind slot : ℕ) : Type 0 where
  pub at : Place c slot
  pub split : links_of c kind ≡ link slot at.value ∷ at.back

pub first-place : (c : Lists Mark) (kind slot : ℕ) → kind < length c.lists → Some slot ≡ first_slot (links_of c kind) → First c kind slot
first-place c kind slot h is = through (links_of c kind) refl is
  where
    through : (links : List (Link Mark)) → links_of c kind ≡ links → Some slot ≡ first_slot links → First c kind slot
    through [] e found = absurd (some_is_none slot found)
    through (x ∷ links) e found =
        let same : x.slot ≡ slot = cc in
        let split : links_of c kind ≡ link slot x.value ∷ links = e ∙ ap (λ n. link n x.value ∷ links) same in
        record { at = record { list = kind; within = h; front = []; value = x.value; back = links; split = split }; split = split }

pub first-above : (c : Lists Mark) (kind slot n : ℕ) (f : First c kind slot) → IsRising mark_number (links_of c kind) → (v : Mark)
    → v ≡ f.at.value → n < v.number → IsAbove mark_number n (links_of c kind)
first-above c kind slot n f rising v is less =
    let r = subst (IsRising mark_number) f.split rising in
    let lower : n < f.at.value.number = omega (arith, less, ap mark_number is) in
    subst (IsAbove mark_number n) (sym f.split) (lower, above_lower mark_number n f.at.value.number f.at.back lower r.0)

pub none-above : (c : Lists Mark) (kind n : ℕ) → None ≡ first_slot (links_of c kind) → IsAbove mark_number n (links_of c kind)
none-above c kind n is = through (links_of c kind) is
  where
    through : (links : List (Link Mark)) → None ≡ first_slot links → IsAbove mark_number n links
    through [] found = tt
    through (x ∷ links) found = absurd (some_is_none x.slot (sym found))
