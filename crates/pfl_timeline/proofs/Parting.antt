-- What an excision leaves standing, and what it reports, in words of the list alone.
use Rattle.std.specs.Prelude.{◌≡◌, ℕ, zero, suc, ◌+◌, ◌-◌, ◌<◌, ◌≤◌, nat_le, List, [], ◌∷◌, ◌++◌, length, filter, take, drop, fold, Option, Some}
use Rattle.std.specs.Prelude.{is_some, IsTrue, Ok, Err, refl}
use Rattle.std.specs.List.{AllByRecursion}
use Rattle.std.proofs.Common.{cond, sym, ◌∙◌, ap, subst, arith, length-append, append_assoc, append-nil}
use Rattle.std.proofs.lemmas.Bool.{le-leb, lt-leb}
use Rattle.std.proofs.lemmas.List.{length-map, map-append, take-map, take-append-drop}
use Rattle.std.proofs.lemmas.List.Elements.{filter-append}
use Rattle.std.proofs.lemmas.List.Sums.{fold-append}
use Rattle.std.proofs.Math.Seq.{take-append_seam}
use Rattle.pfl_language.specs.declared.event.Event.{Event}
use Rattle.pfl_search.specs.world.Events.{step}
use Rattle.pfl_search.specs.world.Runs.{run}
use Rattle.pfl_search.specs.world.Worlds.{World}
use Rattle.pfl_timeline.specs.Excisions.{Placed, placed_behind, placed, without, Sieved, sifted, sift, sieve}
use Rattle.pfl_timeline.specs.Laws.{accepted_events, refused_behind, refused_with}
use Rattle.pfl_timeline.proofs.Sieving.{events_in, places_in, stand, events_placed, at_first, sieve-sound, sieve-accepted, sieve-keeps}

-- ---- the list without one event, taken apart

-- without the entry after the first j
abbrev gone : {X : Type 0} → ℕ → List X → List X
gone j [] = []
gone zero (x ∷ xs) = xs
gone (suc j) (x ∷ xs) = x ∷ gone j xs

gone_is : {X : Type 0} (j : ℕ) (xs : List X) → take j xs ++ drop (suc j) xs ≡ gone j xs
gone_is zero [] = refl
gone_is (suc j) [] = refl
gone_is zero (x ∷ xs) = refl
gone_is (suc j) (x ∷ xs) = ap (λ ys. x ∷ ys) (gone_is j xs)

without_is : {X : Type 0} (k j : ℕ) (xs : List X) → k ≡ suc j → without k xs ≡ gone j xs
without_is k j xs is =
    let before : k - 1 ≡ j = omega (arith, is) in
    ap (λ n. take n xs ++ drop k xs) before ∙ ap (λ n. take j xs ++ drop n xs) is ∙ gone_is j xs

-- those up to a place, and those after it
abbrev UpTo : ℕ → List Placed → Type 0
UpTo c ps = AllByRecursion (λ p. p.place ≤ c) ps

abbrev Behind : ℕ → List Placed → Type 0
Behind c ps = AllByRecursion (λ p. c < p.place) ps

behind_placed : (n m : ℕ) (es : List Event) → n ≤ m → Behind n (placed_behind m es)
behind_placed n m [] few = tt
behind_placed n m (e ∷ es) few = (omega (arith, few), behind_placed n (m + 1) es (omega (arith, few)))

behind_gone : (n j : ℕ) (ps : List Placed) → Behind n ps → Behind n (gone j ps)
behind_gone n j [] all = tt
behind_gone n zero (p ∷ ps) all = all.1
behind_gone n (suc j) (p ∷ ps) all = (all.0, behind_gone n j ps all.1)

up_to_front : (n m c : ℕ) (es : List Event) → n + c ≤ m → UpTo m (take c (placed_behind n es))
up_to_front n m zero es few = tt
up_to_front n m (suc c) [] few = tt
up_to_front n m (suc c) (e ∷ es) few = (omega (arith, few), up_to_front (n + 1) m c es (omega (arith, few)))

behind_front : (n m c : ℕ) (es : List Event) → m ≤ n + c → Behind m (drop c (placed_behind n es))
behind_front n m zero es few = behind_placed m n es (omega (arith, few))
behind_front n m (suc c) [] few = tt
behind_front n m (suc c) (e ∷ es) few = behind_front (n + 1) m c es (omega (arith, few))

-- placed events without one of them, parted at a place: in front of it stand those that the first c are without that one
record Parted (ps : List Placed) (m : ℕ) (es : List Event) : Type 0 where
  pub front : List Placed
  pub rest : List Placed
  pub whole : ps ≡ front ++ rest
  pub within : UpTo m front
  pub behind : Behind m rest
  pub events : events_in front ≡ es

gone_none : {X : Type 0} (j : ℕ) → gone {X = X} j [] ≡ []
gone_none zero = refl
gone_none (suc j) = refl

parted : (n j c m : ℕ) (es : List Event) → m ≡ n + c → Parted (gone j (placed_behind n es)) m (gone j (take c es))
parted n j zero m es at = record {
  front = [];
  rest = gone j (placed_behind n es);
  whole = refl;
  within = tt;
  behind = behind_gone m j (placed_behind n es) (behind_placed m n es (omega (arith, at)));
  events = sym (gone_none j);
}
parted n j (suc c) m [] at = record { front = []; rest = []; whole = gone_none j; within = tt; behind = tt; events = sym (gone_none j) }
parted n zero (suc c) m (e ∷ es) at = record {
  front = take c (placed_behind (n + 1) es);
  rest = drop c (placed_behind (n + 1) es);
  whole = sym (take-append-drop c (placed_behind (n + 1) es));
  within = up_to_front (n + 1) m c es (omega (arith, at));
  behind = behind_front (n + 1) m c es (omega (arith, at));
  events = sym (take-map (λ (p : Placed). p.event) c (placed_behind (n + 1) es)) ∙ ap (take c) (events_placed (n + 1) es);
}
parted n (suc j) (suc c) m (e ∷ es) at =
    let later = parted (n + 1) j c m es (omega (arith, at)) in
    let p : Placed = record { place = n + 1; event = e } in
    record {
      front = p ∷ later.front;
      rest = later.rest;
      whole = ap (λ (ps : List Placed). p ∷ ps) later.whole;
      within = (omega (arith, at), later.within);
      behind = later.behind;
      events = ap (λ (fs : List Event). e ∷ fs) later.events;
    }

-- ---- those that stand

-- what comes more is kept after what was kept
record Extends (P : Placed → Type 0) (s new : Sieved) : Type 0 where
  pub more : List Placed
  pub kept : new.kept ≡ s.kept ++ more
  pub all : AllByRecursion P more

extends : (P : Placed → Type 0) (s : Sieved) (ps : List Placed) → AllByRecursion P ps → Extends P s (fold sift s ps)
extends P s [] all = record { more = []; kept = sym (append-nil s.kept); all = tt }
extends P s (p ∷ ps) all =
    elim (step s.world p.event) as (λ r. Extends P s (fold sift (sifted s p r) ps)) [
      | Ok new ↦
          let later = extends P (sifted s p (Ok new)) ps all.1 in
          record { more = p ∷ later.more; kept = later.kept ∙ append_assoc s.kept (p ∷ []) later.more; all = (all.0, later.all) }
      | Err why ↦
          let later = extends P (sifted s p (Err why)) ps all.1 in
          record { more = later.more; kept = later.kept; all = later.all }
    ]

all_stand : (c : ℕ) (ps : List Placed) → UpTo c ps → stand c ps ≡ length ps
all_stand c [] all = refl
all_stand c (p ∷ ps) all = ap (λ t. length (cond t (p ∷ filter (λ x. nat_le x.place c) ps) (filter (λ x. nat_le x.place c) ps)))
    (le-leb p.place c all.0) ∙ ap suc (all_stand c ps all.1)

none_stands : (c : ℕ) (ps : List Placed) → Behind c ps → stand c ps ≡ 0
none_stands c [] all = refl
none_stands c (p ∷ ps) all =
    ap (λ t. length (cond t (p ∷ filter (λ x. nat_le x.place c) ps) (filter (λ x. nat_le x.place c) ps))) (lt-leb p.place c all.0)
    ∙ none_stands c ps all.1

-- of a list that is parted at c, those stand that are accepted of the part in front
module _ (o : World) (c : ℕ) (front rest : List Placed) (within : UpTo c front) (behind : Behind c rest) where
  first : Sieved
  first = sieve o front

  abbrev whole : Sieved
  whole = sieve o (front ++ rest)

  goes_on : whole ≡ fold sift first rest
  unfolding first sieve
  goes_on = fold-append sift (at_first o) front rest

  first_kept : Extends (λ p. p.place ≤ c) (at_first o) first
  unfolding first sieve
  first_kept = extends (λ p. p.place ≤ c) (at_first o) front within

  first_within : UpTo c first.kept
  first_within = let f = first_kept in subst (UpTo c) (sym f.kept) f.all

  then_kept : Extends (λ p. c < p.place) first (fold sift first rest)
  then_kept = extends (λ p. c < p.place) first rest behind

  kept_is : whole.kept ≡ first.kept ++ then_kept.more
  kept_is = ap (λ (s : Sieved). s.kept) goes_on ∙ (let k = then_kept in k.kept)

  standing_is : stand c whole.kept ≡ length (events_in first.kept)
  standing_is =
      let k = then_kept in
      let parts : stand c (first.kept ++ k.more) ≡ stand c first.kept + stand c k.more =
      ap length (filter-append (λ (p : Placed). nat_le p.place c) first.kept k.more)
      ∙ length-append (filter (λ (p : Placed). nat_le p.place c) first.kept) (filter (λ (p : Placed). nat_le p.place c) k.more) in
      omega (
        arith,
        ap (stand c) kept_is,
        parts,
        all_stand c first.kept first_within,
        none_stands c k.more k.all,
        length-map first.kept
            (λ (p : Placed). p.event),
      )

  pub parted-standing : take (stand c whole.kept) (events_in whole.kept) ≡ accepted_events o (events_in front)
  unfolding first
  parted-standing =
      let k = then_kept in
      ap (λ n. take n (events_in whole.kept)) standing_is
      ∙ ap (λ (ps : List Placed). take (length (events_in first.kept)) (events_in ps)) kept_is
      ∙ ap (take (length (events_in first.kept))) (map-append (λ (p : Placed). p.event) first.kept k.more)
      ∙ take-append_seam (events_in first.kept) (events_in k.more)
      ∙ sieve-accepted o front

pub sieve-standing : (o : World) (k c : ℕ) (es : List Event) → 1 ≤ k
    → take (stand c (sieve o (without k (placed es))).kept) (events_in (sieve o (without k (placed es))).kept) ≡ accepted_events o (without k (take c es))
unfolding parted-standing
sieve-standing o k c es some =
    let at : k ≡ suc (k - 1) = omega (arith, some) in
    let all : c ≡ 0 + c = omega arith in
    let p = parted 0 (k - 1) c c es all in
    ap (λ (ps : List Placed). take (stand c (sieve o ps).kept) (events_in (sieve o ps).kept)) (without_is k (k - 1) (placed es) at ∙ p.whole)
    ∙ parted-standing o c p.front p.rest p.within p.behind
    ∙ ap (accepted_events o) (p.events ∙ sym (without_is k (k - 1) (take c es) at))

-- ---- those that are reported

fold_refused : (s : Sieved) (n : ℕ) (es : List Event) → places_in (fold sift s (placed_behind n es)).fallen ≡ places_in s.fallen ++ refused_behind n s.world es
unfolding refused_behind
fold_refused s n [] = sym (append-nil (places_in s.fallen))
fold_refused s n (e ∷ es) =
    let p : Placed = record { place = n + 1; event = e } in
    elim (step s.world e) as (λ r. places_in (fold sift (sifted s p r) (placed_behind (n + 1) es)).fallen ≡ places_in s.fallen
    ++ refused_with s.world (n + 1) (λ v. refused_behind (n + 1) v es) r) [
      | Ok new ↦ fold_refused (sifted s p (Ok new)) (n + 1) es
      | Err why ↦
          fold_refused (sifted s p (Err why)) (n + 1) es
          ∙ ap (λ (ns : List ℕ). ns ++ refused_behind (n + 1) s.world es) (map-append (λ (q : Placed). q.place) s.fallen (p ∷ []))
          ∙ append_assoc (places_in s.fallen) ((n + 1) ∷ []) (refused_behind (n + 1) s.world es)
    ]

drop_placed : (n k m : ℕ) (es : List Event) → m ≡ n + k → drop k (placed_behind n es) ≡ placed_behind m (drop k es)
drop_placed n zero m es at = let same : n ≡ m = omega (arith, at) in ap (λ i. placed_behind i es) same
drop_placed n (suc k) m [] at = refl
drop_placed n (suc k) m (e ∷ es) at = drop_placed (n + 1) k m es (omega (arith, at))

pub sieve-refused : (o : World) (k : ℕ) (es : List Event) (w : World) → run o (take (k - 1) es) ≡ Some w
    → places_in (sieve o (without k (placed es))).fallen ≡ refused_behind k w (drop k es)
unfolding sieve
sieve-refused o k es w runs =
    let front : List Placed = take (k - 1) (placed es) in
    let events : events_in (take (k - 1) (placed es)) ≡ take (k - 1) es = sym (take-map (λ (p : Placed). p.event) (k - 1) (placed es))
    ∙ ap (take (k - 1)) (events_placed 0 es) in
    let leads : run o (events_in (take (k - 1) (placed es))) ≡ Some w = ap (run o) events ∙ runs in
    let all = sieve-keeps o (take (k - 1) (placed es)) (subst (λ (v : Option World). IsTrue (is_some v)) (sym leads) refl) in
    let now : Sieved = sieve o (take (k - 1) (placed es)) in
    let world : (sieve o (take (k - 1) (placed es))).world ≡ w =
    (let both : Some (sieve o (take (k - 1) (placed es))).world ≡ Some w = sym (sieve-sound o (take (k - 1) (placed es)))
    ∙ ap (λ (ps : List Placed). run o (events_in ps)) all.kept ∙ leads in cc) in
    let here : k ≡ 0 + k = omega arith in
    ap (λ (s : Sieved). places_in s.fallen) (fold-append sift (at_first o) (take (k - 1) (placed es)) (drop k (placed es)))
    ∙ ap (λ (ps : List Placed). places_in (fold sift (sieve o (take (k - 1) (placed es))) ps).fallen) (drop_placed 0 k k es here)
    ∙ fold_refused (sieve o (take (k - 1) (placed es))) k (drop k es)
    ∙ ap (λ (ps : List Placed). places_in ps ++ refused_behind k (sieve o (take (k - 1) (placed es))).world (drop k es)) all.fallen
    ∙ ap (λ (v : World). refused_behind k v (drop k es)) world
