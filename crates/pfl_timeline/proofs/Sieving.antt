-- What happens where one event of a list does not, and the others come one after another.
use Rattle.std.specs.Prelude.{◌≡◌, ℕ, zero, suc, ◌+◌, ◌-◌, ◌<◌, ◌≤◌, true, false, ◌&&◌, nat_le, min, List, [], ◌∷◌, ◌++◌, length, get_or, map, filter}
use Rattle.std.specs.Prelude.{take, drop, fold, Option, Some, None, is_some, IsTrue, Result, Ok, Err, refl, if◌then◌else◌}
use Rattle.std.specs.Option.{option_and_then}
use Rattle.std.proofs.Common.{cond, sym, ◌∙◌, ap, subst, arith, length-append, append_assoc, append-nil, length-take-le, take_all, drop_of_length-le}
use Rattle.std.proofs.lemmas.Bool.{le-leb, lt-leb, leb-true, leb-false}
use Rattle.std.proofs.lemmas.List.{length-map, map-append, take-map, drop-map, take_more, drop-append-le, take-append-drop}
use Rattle.std.proofs.lemmas.List.Sums.{fold_push}
use Rattle.pfl_base.specs.declared.refusal.Refusal.{Refusal}
use Rattle.pfl_language.specs.declared.event.Event.{Event}
use Rattle.pfl_search.specs.world.Events.{step}
use Rattle.pfl_search.specs.world.Meanings.{Stepped}
use Rattle.pfl_search.specs.world.Runs.{run, world_after}
use Rattle.pfl_search.specs.world.Worlds.{World}
use Rattle.pfl_timeline.specs.Excisions.{Placed, placed_behind, placed, without, Sieved, sifted, sift, sieve, sieved_without, has_event, excised}
use Rattle.pfl_timeline.specs.Histories.{History, IsHistory, reached, continued}
use Rattle.pfl_timeline.specs.inner.Histories.{standing_at, first_of, SiftedBy, Sifts, so_far}
use Rattle.pfl_timeline.specs.Kept.{rooted}
use Rattle.pfl_timeline.specs.Rooted.{Rooted}
use Rattle.pfl_timeline.specs.Laws.{accepted_events, accepted_with}
use Rattle.pfl_timeline.specs.Timelines.{Branch, IsBranch}
use Rattle.pfl_timeline.proofs.Prefixes.{run-front, go_on, never_again}
use Rattle.pfl_timeline.proofs.Runs.{run-last, parts_as}

-- ---- events and their places

abbrev pub events_in : List Placed → List Event
events_in ps = map (λ p. p.event) ps

abbrev pub places_in : List Placed → List ℕ
places_in ps = map (λ p. p.place) ps

pub events_placed : (n : ℕ) (es : List Event) → events_in (placed_behind n es) ≡ es
events_placed n [] = refl
events_placed n (e ∷ es) = ap (λ (fs : List Event). e ∷ fs) (events_placed (n + 1) es)

length_placed : (n : ℕ) (es : List Event) → length (placed_behind n es) ≡ length es
length_placed n [] = refl
length_placed n (e ∷ es) = ap suc (length_placed (n + 1) es)

get_placed : (n i m : ℕ) (es : List Event) (e : Event) → e ≡ get_or es i e → i < length es → n + i + 1 ≡ m
    → get_or (placed_behind n es) i (record { place = m; event = e }) ≡ record { place = m; event = e }
get_placed n i m [] e is within place = absurd (omega (arith, within))
get_placed n zero m (x ∷ es) e is within place =
    let same : n + 1 ≡ m = omega (arith, place) in
    ap (λ (y : Event). record { place = n + 1; event = y }) (sym is) ∙ ap (λ j. record { place = j; event = e }) same
get_placed n (suc i) m (x ∷ es) e is within place = get_placed (n + 1) i m es e is (omega (arith, within)) (omega (arith, place))

pub events_without : (k : ℕ) (es : List Event) → events_in (without k (placed es)) ≡ without k es
events_without k es =
    map-append (λ (p : Placed). p.event) (take (k - 1) (placed es)) (drop k (placed es))
    ∙ ap (λ (fs : List Event). fs ++ events_in (drop k (placed es))) (sym (take-map (λ (p : Placed). p.event) (k - 1) (placed es)))
    ∙ ap (λ (fs : List Event). take (k - 1) (events_in (placed es)) ++ fs) (sym (drop-map (λ (p : Placed). p.event) k (placed es)))
    ∙ ap (λ (fs : List Event). take (k - 1) fs ++ drop k fs) (events_placed 0 es)

-- ---- one event more

-- those that happened give the world
abbrev pub Sound : World → Sieved → Type 0
Sound o s = run o (events_in s.kept) ≡ Some s.world

sift_sound : (o : World) (s : Sieved) (p : Placed) → Sound o s → Sound o (sift s p)
sift_sound o s p sound =
    elim (step s.world p.event) as (λ r. step s.world p.event ≡ r → Sound o (sifted s p r)) [
      | Ok new ↦ λ is.
          ap (run o) (map-append (λ (q : Placed). q.event) s.kept (p ∷ []))
          ∙ run-last o (events_in s.kept) p.event
          ∙ ap (λ (w : Option World). option_and_then (λ v. world_after (step v p.event)) w) sound
          ∙ ap world_after is
      | Err why ↦ λ _. sound
    ] refl

fold_sound : (o : World) (s : Sieved) (ps : List Placed) → Sound o s → Sound o (fold sift s ps)
fold_sound o s [] sound = sound
fold_sound o s (p ∷ ps) sound = fold_sound o (sift s p) ps (sift_sound o s p sound)

abbrev pub at_first : World → Sieved
at_first o = record { world = o; kept = []; fallen = [] }

run_none : (o : World) → run o [] ≡ Some o
unfolding run
run_none o = refl

pub sieve-sound : (o : World) (ps : List Placed) → Sound o (sieve o ps)
unfolding sieve
sieve-sound o ps = fold_sound o (at_first o) ps (run_none o)

sieve-last : (o : World) (ps : List Placed) (p : Placed) → sieve o (ps ++ p ∷ []) ≡ sift (sieve o ps) p
unfolding sieve
sieve-last o ps p = fold_push sift (at_first o) ps p

-- ---- those that are accepted

fold_accepted : (s : Sieved) (ps : List Placed) → events_in (fold sift s ps).kept ≡ events_in s.kept ++ accepted_events s.world (events_in ps)
unfolding accepted_events
fold_accepted s [] = sym (append-nil (events_in s.kept))
fold_accepted s (p ∷ ps) =
    elim (step s.world p.event) as (λ r. events_in (fold sift (sifted s p r) ps).kept ≡ events_in s.kept
    ++ accepted_with s.world p.event (λ v. accepted_events v (events_in ps)) r) [
      | Ok new ↦
          fold_accepted (sifted s p (Ok new)) ps
          ∙ ap (λ (es : List Event). es ++ accepted_events new.world (events_in ps)) (map-append (λ (q : Placed). q.event) s.kept (p ∷ []))
          ∙ append_assoc (events_in s.kept) (p.event ∷ []) (accepted_events new.world (events_in ps))
      | Err why ↦ fold_accepted (sifted s p (Err why)) ps
    ]

pub sieve-accepted : (o : World) (ps : List Placed) → events_in (sieve o ps).kept ≡ accepted_events o (events_in ps)
unfolding sieve
sieve-accepted o ps = fold_accepted (at_first o) ps

-- ---- where nothing is refused

-- all are kept
pub record KeepsAll (s : Sieved) (ps : List Placed) (new : Sieved) : Type 0 where
  pub kept : new.kept ≡ s.kept ++ ps
  pub fallen : new.fallen ≡ s.fallen

abbrev no_world : Option World
no_world = None

never : (es : List Event) → IsTrue (is_some (fold go_on None es)) → ⊥
never es is = let none : IsTrue (is_some no_world) = subst (λ (o : Option World). IsTrue (is_some o)) (never_again es) is in cc

keeps_from : (s : Sieved) (ps : List Placed) → IsTrue (is_some (fold go_on (Some s.world) (events_in ps))) → KeepsAll s ps (fold sift s ps)
keeps_from s [] runs = record { kept = sym (append-nil s.kept); fallen = refl }
keeps_from s (p ∷ ps) runs =
    elim (step s.world p.event) as (λ r. IsTrue (is_some (fold go_on (world_after r) (events_in ps))) → KeepsAll s (p ∷ ps) (fold sift (sifted s p r) ps)) [
      | Ok new ↦ λ on.
          let rest = keeps_from (sifted s p (Ok new)) ps on in
          record { kept = rest.kept ∙ append_assoc s.kept (p ∷ []) ps; fallen = rest.fallen }
      | Err why ↦ λ on. absurd (never (events_in ps) on)
    ] runs

pub sieve-keeps : (o : World) (ps : List Placed) → IsTrue (is_some (run o (events_in ps))) → KeepsAll (at_first o) ps (sieve o ps)
unfolding sieve run
sieve-keeps o ps runs = keeps_from (at_first o) ps runs

-- ---- how many stand

abbrev pub stand : ℕ → List Placed → ℕ
stand c ps = length (filter (λ p. nat_le p.place c) ps)

stand_more : (c : ℕ) (ps : List Placed) (p : Placed) → nat_le p.place c ≡ true → stand c (ps ++ p ∷ []) ≡ stand c ps + 1
stand_more c [] p is = ap (λ t. length (cond t (p ∷ []) [])) is
stand_more c (q ∷ ps) p is =
    elim (nat_le q.place c) as
    (λ t. length (cond t (q ∷ filter (λ x. nat_le x.place c) (ps ++ p ∷ [])) (filter (λ x. nat_le x.place c) (ps ++ p ∷ [])))
    ≡ length (cond t (q ∷ filter (λ x. nat_le x.place c) ps) (filter (λ x. nat_le x.place c) ps)) + 1) [
      | true ↦ (let more = stand_more c ps p is in omega (arith, more))
      | false ↦ stand_more c ps p is
    ]

stand_same : (c : ℕ) (ps : List Placed) (p : Placed) → nat_le p.place c ≡ false → stand c (ps ++ p ∷ []) ≡ stand c ps
stand_same c [] p is = ap (λ t. length (cond t (p ∷ []) [])) is
stand_same c (q ∷ ps) p is =
    elim (nat_le q.place c) as
    (λ t. length (cond t (q ∷ filter (λ x. nat_le x.place c) (ps ++ p ∷ [])) (filter (λ x. nat_le x.place c) (ps ++ p ∷ [])))
    ≡ length (cond t (q ∷ filter (λ x. nat_le x.place c) ps) (filter (λ x. nat_le x.place c) ps))) [
      | true ↦ ap suc (stand_same c ps p is)
      | false ↦ stand_same c ps p is
    ]

pub stand_few : (c : ℕ) (ps : List Placed) → stand c ps ≤ length ps
stand_few c [] = omega arith
stand_few c (p ∷ ps) =
    let few = stand_few c ps in
    elim (nat_le p.place c) as (λ t. length (cond t (p ∷ filter (λ x. nat_le x.place c) ps) (filter (λ x. nat_le x.place c) ps)) ≤ length (p ∷ ps)) [
      | true ↦ omega (arith, few)
      | false ↦ omega (arith, few)
    ]

stand_first : (c n m : ℕ) (es : List Event) → m ≤ length es → stand c (take m (placed_behind n es)) ≡ min (c - n) m
stand_first c n zero es within = omega arith
stand_first c n (suc m) [] within = absurd (omega (arith, within))
stand_first c n (suc m) (e ∷ es) within =
    let rest = stand_first c (n + 1) m es (omega (arith, within)) in
    let more = filter (λ (x : Placed). nat_le x.place c) (take m (placed_behind (n + 1) es)) in
    elim (nat_le (n + 1) c) as (λ t. nat_le (n + 1) c ≡ t → length (cond t (record { place = n + 1; event = e } ∷ more) more) ≡ min (c - n) (suc m)) [
      | true ↦ λ is. let there : n + 1 ≤ c = leb-true (n + 1) c is in omega (arith, rest, there)
      | false ↦ λ is. let far : c < n + 1 = leb-false (n + 1) c is in omega (arith, rest, far)
    ] refl

-- ---- the branch without the event

runs_without : (o : World) (ps : List Placed) → IsTrue (is_some (run o (events_in (sieve o ps).kept)))
runs_without o ps = subst (λ (w : Option World). IsTrue (is_some w)) (sym (sieve-sound o ps)) refl

pub excised-is : (o : World) (k : ℕ) (b : Branch) → IsBranch o b → IsBranch o (excised o k b)
excised-is o k b is =
    let s = sieved_without o k b in
    record {
      name = is.name;
      within = omega (arith, stand_few b.cursor s.kept, length-map s.kept (λ (p : Placed). p.event));
      runs = runs_without o (without k (placed b.events));
      former = record { within = is.within; runs = is.runs };
    }

-- the branch of the history that is left, and of the one that was
pub rooted-excised : (name : List ℕ) (h new was : History) (former : Option History) (r : Rooted) (k : ℕ) → rooted name h former ≡ r
    → new ≡ standing_at (so_far h.opening (sieve h.opening (without k (placed h.events))))
    (stand h.cursor (sieve h.opening (without k (placed h.events))).kept) → was ≡ h
    → rooted name new (Some was) ≡ record r { branch = excised r.opening k r.branch }
rooted-excised name h new was former r k view made same =
    ap (λ (x : History). rooted name x (Some was)) made
    ∙ ap (λ (x : History). rooted name
    (standing_at (so_far h.opening (sieve h.opening (without k (placed h.events))))
    (stand h.cursor (sieve h.opening (without k (placed h.events))).kept)) (Some x)) same
    ∙ ap (λ (x : Rooted). record x { branch = excised x.opening k x.branch }) view

-- a place from 1 to the last
pub has-event : (k : ℕ) (b : Branch) → (k ≡ 0 → ⊥) → k ≤ length b.events → has_event k b ≡ true
has-event k b some within = ap (λ t. t && nat_le k (length b.events)) (le-leb 1 k (omega (arith, some))) ∙ le-leb k (length b.events) within

-- ---- one event after another

-- what has happened of the list without its k-th event, as far as a place
abbrev pub up_to : History → ℕ → ℕ → Sieved
up_to h k i = sieve h.opening (take (k - 1) (placed h.events) ++ drop k (take i (placed h.events)))

-- the history so far, what fell out of it, and how much of it stands
pub record Going (h : History) (k i : ℕ) (now : History) (places : List ℕ) (count : ℕ) : Type 0 where
  pub rest : now ≡ so_far h.opening (up_to h k i)
  pub fallen : places ≡ places_in (up_to h k i).fallen
  pub standing : count ≡ stand h.cursor (up_to h k i).kept
  pub few : count ≤ i

-- before the event all is kept
module _ (h : History) (is : IsHistory h) (k : ℕ) (some : 1 ≤ k) (within : k ≤ length h.events) where
  front : List Placed
  front = take (k - 1) (placed h.events)

  events_front : events_in front ≡ take (k - 1) h.events
  unfolding front
  events_front = sym (take-map (λ (p : Placed). p.event) (k - 1) (placed h.events)) ∙ ap (take (k - 1)) (events_placed 0 h.events)

  front_runs : IsTrue (is_some (run h.opening (events_in front)))
  front_runs =
      subst (λ (es : List Event). IsTrue (is_some (run h.opening es))) (sym events_front)
      (run-front h.opening (take (k - 1) h.events) (drop (k - 1) h.events)
      (subst (λ (es : List Event). IsTrue (is_some (run h.opening es))) (sym (take-append-drop (k - 1) h.events)) is.runs))

  only_front : up_to h k k ≡ sieve h.opening front
  unfolding front
  only_front =
      let few : length (take k (placed h.events)) ≤ k = omega (arith, length-take-le k (placed h.events) (omega (arith, within, length_placed 0 h.events))) in
      ap (λ (ps : List Placed). sieve h.opening (take (k - 1) (placed h.events) ++ ps)) (drop_of_length-le (take k (placed h.events)) few)
      ∙ ap (sieve h.opening) (append-nil (take (k - 1) (placed h.events)))

  kept_front : (up_to h k k).kept ≡ front
  kept_front = ap (λ (s : Sieved). s.kept) only_front ∙ (let all = sieve-keeps h.opening front front_runs in all.kept)

  fallen_front : (up_to h k k).fallen ≡ []
  fallen_front = ap (λ (s : Sieved). s.fallen) only_front ∙ (let all = sieve-keeps h.opening front front_runs in all.fallen)

  length_front : length front ≡ k - 1
  unfolding front
  length_front = length-take-le (k - 1) (placed h.events) (omega (arith, within, length_placed 0 h.events))

  stand_front : stand h.cursor front ≡ min h.cursor (k - 1)
  unfolding front
  stand_front =
      let all : h.cursor - 0 ≡ h.cursor = omega arith in
      stand_first h.cursor 0 (k - 1) h.events (omega (arith, within)) ∙ ap (λ n. min n (k - 1)) all

  pub going : (first : History) (fallen : List ℕ) → first ≡ first_of h (k - 1) → fallen ≡ [] → Going h k k first fallen (min h.cursor (k - 1))
  going first fallen made none = record {
    rest = made ∙ parts_as _ _ _ _ _ _ refl (sym (ap events_in kept_front ∙ events_front)) (sym (ap length kept_front ∙ length_front));
    fallen = none ∙ sym (ap places_in fallen_front);
    standing = sym (ap (stand h.cursor) kept_front ∙ stand_front);
    few = omega arith;
  }

-- an event is judged where the kept ones have led
module _ (o : World) (s : Sieved) (p : Placed) (sound : Sound o s) (old new : History) (was : old ≡ so_far o s) where
  abbrev whole : List Event
  whole = events_in s.kept

  all_stand : take (length s.kept) whole ≡ whole
  all_stand = take_all (length s.kept) whole (omega (arith, length-map s.kept (λ (q : Placed). q.event)))

  world_is : (w : World) → reached old ≡ Some w → w ≡ s.world
  world_is w here =
      let led : Some w ≡ Some s.world = sym here ∙ ap reached was ∙ ap (run o) all_stand ∙ sound in
      cc

  one_more : continued (so_far o s) p.event ≡ so_far o (record s { kept = s.kept ++ p ∷ [] })
  one_more =
      parts_as _ _ _ _ _ _ refl
      (ap (λ (es : List Event). es ++ p.event ∷ []) all_stand ∙ sym (map-append (λ (q : Placed). q.event) s.kept (p ∷ [])))
      (sym (length-append s.kept (p ∷ [])))

  -- it is kept, or it falls out
  abbrev IsKeptBy : Result Stepped Refusal → Type 0
  IsKeptBy r = (new ≡ so_far o (sifted s p r)) × ((sifted s p r).kept ≡ s.kept ++ p ∷ []) × ((sifted s p r).fallen ≡ s.fallen)

  abbrev FallsBy : Result Stepped Refusal → Type 0
  FallsBy r = (new ≡ so_far o (sifted s p r)) × ((sifted s p r).kept ≡ s.kept) × ((sifted s p r).fallen ≡ s.fallen ++ p ∷ [])

  kept_by : (r : Result Stepped Refusal) → SiftedBy old p.event new true r → IsKeptBy r
  kept_by (Ok at) is = (is.1 ∙ ap (λ (h : History). continued h p.event) was ∙ one_more, refl, refl)
  kept_by (Err why) is = absurd (let apart : true ≡ false = is.0 in cc)

  falls_by : (r : Result Stepped Refusal) → SiftedBy old p.event new false r → FallsBy r
  falls_by (Ok at) is = absurd (let apart : false ≡ true = is.0 in cc)
  falls_by (Err why) is = (is.1 ∙ was, refl, refl)

  pub is_kept : Sifts old p.event new true → IsKeptBy (step s.world p.event)
  is_kept is = kept_by (step s.world p.event) (subst (λ (w : World). SiftedBy old p.event new true (step w p.event)) (world_is is.0 is.1) is.2)

  pub falls : Sifts old p.event new false → FallsBy (step s.world p.event)
  falls is = falls_by (step s.world p.event) (subst (λ (w : World). SiftedBy old p.event new false (step w p.event)) (world_is is.0 is.1) is.2)

module _ (h : History) (k i : ℕ) (e : Event) (behind : k ≤ i) (within : i < length h.events) (here : e ≡ get_or h.events i e)
    (rest new : History) (fallen : List ℕ) (standing : ℕ) (so : Going h k i rest fallen standing) where
  abbrev it : Placed
  it = record { place = i + 1; event = e }

  it_there : get_or (placed h.events) i it ≡ it
  it_there = get_placed 0 i (i + 1) h.events e here within (omega arith)

  abbrev old : Sieved
  old = up_to h k i

  next : up_to h k (i + 1) ≡ sift old it
  next =
      let all : take (i + 1) (placed h.events) ≡ take i (placed h.events) ++ it ∷ [] =
      take_more (placed h.events) i it (omega (arith, within, length_placed 0 h.events)) ∙ ap (λ (q : Placed). take i (placed h.events) ++ q ∷ []) it_there in
      let last : drop k (take i (placed h.events) ++ it ∷ []) ≡ drop k (take i (placed h.events)) ++ it ∷ [] =
      drop-append-le k (take i (placed h.events)) (it ∷ []) (omega (arith, behind, within, length_placed 0 h.events, length-take-le i (placed h.events))) in
      let front : List Placed = take (k - 1) (placed h.events) in
      ap (λ (ps : List Placed). sieve h.opening (take (k - 1) (placed h.events) ++ ps)) (ap (drop k) all ∙ last)
      ∙ ap (sieve h.opening) (sym (append_assoc (take (k - 1) (placed h.events)) (drop k (take i (placed h.events))) (it ∷ [])))
      ∙ sieve-last h.opening (take (k - 1) (placed h.events) ++ drop k (take i (placed h.events))) it

  old_sound : Sound h.opening old
  old_sound = sieve-sound h.opening (take (k - 1) (placed h.events) ++ drop k (take i (placed h.events)))

  fell_out : FallsBy h.opening old it old_sound rest new so.rest (step old.world e) → Going h k (i + 1) new (fallen ++ (i + 1) ∷ []) standing
  fell_out falls = record {
    rest = falls.0 ∙ ap (so_far h.opening) (sym next);
    fallen = ap (λ (ns : List ℕ). ns ++ (i + 1) ∷ []) so.fallen
        ∙ sym (ap (λ (s : Sieved). places_in s.fallen) next ∙ ap places_in falls.2 ∙ map-append (λ (q : Placed). q.place) old.fallen (it ∷ []));
    standing = so.standing ∙ sym (ap (λ (s : Sieved). stand h.cursor s.kept) next ∙ ap (stand h.cursor) falls.1);
    few = omega (arith, so.few);
  }

  kept_on : IsKeptBy h.opening old it old_sound rest new so.rest (step old.world e) → (n : ℕ) → n ≤ i + 1
      → stand h.cursor (old.kept ++ it ∷ []) ≡ n → Going h k (i + 1) new fallen n
  kept_on kept n few count = record {
    rest = kept.0 ∙ ap (so_far h.opening) (sym next);
    fallen = so.fallen ∙ sym (ap (λ (s : Sieved). places_in s.fallen) next ∙ ap places_in kept.2);
    standing = sym (ap (λ (s : Sieved). stand h.cursor s.kept) next ∙ ap (stand h.cursor) kept.1 ∙ count);
    few = few;
  }

  -- it is refused
  pub going-fell : Sifts rest e new false → Going h k (i + 1) new (fallen ++ (i + 1) ∷ []) standing
  going-fell is = fell_out (falls h.opening old it old_sound rest new so.rest is)

  -- it is kept, and stood
  pub going-stood : Sifts rest e new true → i < h.cursor → Going h k (i + 1) new fallen (standing + 1)
  going-stood is stood =
      kept_on (is_kept h.opening old it old_sound rest new so.rest is) (standing + 1) (omega (arith, so.few))
      (stand_more h.cursor old.kept it (le-leb (i + 1) h.cursor (omega (arith, stood))) ∙ ap (λ n. n + 1) (sym so.standing))

  -- it is kept, and did not stand
  pub going-kept : Sifts rest e new true → h.cursor ≤ i → Going h k (i + 1) new fallen standing
  going-kept is undone =
      kept_on (is_kept h.opening old it old_sound rest new so.rest is) standing (omega (arith, so.few))
      (stand_same h.cursor old.kept it (lt-leb (i + 1) h.cursor (omega (arith, undone))) ∙ sym so.standing)

-- the same of equal ones
pub going_as : (h : History) (k i : ℕ) (now : History) (ps ps' : List ℕ) (n n' : ℕ) → ps' ≡ ps → n' ≡ n → Going h k i now ps n → Going h k i now ps' n'
going_as h k i now ps ps' n n' same_places same_count so =
    record { rest = so.rest; fallen = same_places ∙ so.fallen; standing = same_count ∙ so.standing; few = omega (arith, so.few, same_count) }

-- at the end all have come
module _ (h : History) (k i : ℕ) (all : length h.events ≤ i) (rest : History) (fallen : List ℕ) (standing : ℕ) (so : Going h k i rest fallen standing) where
  whole_list : up_to h k i ≡ sieve h.opening (without k (placed h.events))
  whole_list =
      ap (λ (ps : List Placed). sieve h.opening (take (k - 1) (placed h.events) ++ drop k ps))
      (take_all i (placed h.events) (omega (arith, all, length_placed 0 h.events)))

  pub gone-fallen : fallen ≡ places_in (sieve h.opening (without k (placed h.events))).fallen
  gone-fallen = so.fallen ∙ ap (λ (s : Sieved). places_in s.fallen) whole_list

  pub gone-few : standing ≤ rest.cursor
  gone-few =
      let cursor = ap (λ (r : History). r.cursor) so.rest in
      omega (arith, so.standing, cursor, stand_few h.cursor (up_to h k i).kept)

  pub gone-rest : (n : ℕ) → n ≡ standing
      → standing_at rest n ≡ standing_at (so_far h.opening (sieve h.opening (without k (placed h.events))))
      (stand h.cursor (sieve h.opening (without k (placed h.events))).kept)
  gone-rest n is =
      ap (standing_at rest) (is ∙ so.standing ∙ ap (λ (s : Sieved). stand h.cursor s.kept) whole_list)
      ∙ ap (λ (r : History). standing_at r (stand h.cursor (sieve h.opening (without k (placed h.events))).kept)) (so.rest ∙ ap (so_far h.opening) whole_list)
