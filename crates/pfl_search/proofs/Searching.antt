-- The search at one of its turns: what is left to find, and to count, before it and after it.
use Rattle.std.specs.Prelude.{◌≡◌, ℕ, ◌+◌, ◌<◌, ◌≤◌, List, [], ◌∷◌, ◌++◌, length, drop, slice_index_or, slice_set, reverse, Option, Some, None, Ok, Err}
use Rattle.std.proofs.Common.{◌∙◌, ap, sym, subst, arith}
use Rattle.std.proofs.lemmas.List.{drop_more, reverse-append}
use Rattle.pfl_base.specs.declared.refusal.Refusal.{Refusal}
use Rattle.pfl_language.specs.declared.event.Event.{Event}
use Rattle.pfl_world.specs.Events.{step}
use Rattle.pfl_world.specs.Meanings.{Stepped}
use Rattle.pfl_world.specs.Worlds.{World}
use Rattle.pfl_search.proofs.Lists.{from_filter, in_added}
use Rattle.pfl_search.proofs.Turning.{get_read, get_within, given_back, length-used, of_turns}
use Rattle.pfl_search.proofs.Visiting.{among_found, among_passed, among_refused, first_among, tally_among, tally_found, tally_part}
use Rattle.pfl_search.proofs.Visiting.{tally_passed, tally_refused}
use Rattle.pfl_search.specs.Choices.{stage, taken, turns, used}
use Rattle.pfl_search.specs.Orders.{in_phase, is_in_turn, last_of}
use Rattle.pfl_search.specs.Runs.{IsStop, first_run_after}
use Rattle.pfl_search.specs.Visits.{Kind, in_turn, tally_after}
use Rattle.pfl_language.specs.declared.choice.Choice.{Choice}
use Rattle.pfl_language.specs.declared.goal.Goal.{Goal}
use Rattle.pfl_search.specs.declared.order.Last.{Last}
use Rattle.pfl_search.specs.declared.stopped.Stopped.{Stopped}
use Rattle.pfl_search.specs.declared.stopped.Stopped.TheVariants.{NoMemory, TooMany}
use Rattle.pfl_search.specs.declared.turns.Candidate.{Candidate}
use Rattle.pfl_search.specs.inner.Turns.{IsOf}

-- the turn that is tried next is of a choice with a use left
pub is_of : (last : Option Last) (begun : ℕ) (cs : List Choice) (w : World) (before ts : List Candidate) (first i : ℕ) (t : Candidate)
    → ts ≡ before ++ in_turn last begun w (turns (stage cs begun) w) → first ≡ length before → first ≤ i → i < length ts → t ≡ slice_index_or ts i t → IsOf cs t
is_of last begun cs w before ts first i t all begins past within is =
    let there = in_added before (in_turn last begun w (turns (stage cs begun) w)) ts i t all (omega arith) within is in
    of_turns (stage cs begun) w t
    (from_filter (λ (u : Candidate). is_in_turn (in_phase last begun u.phase) w u.event) (turns (stage cs begun) w) t there).0

pub held_of : (cs held : List Choice) (t : Candidate) → held ≡ cs → IsOf cs t → IsOf held t
held_of cs held t holds of = subst (λ (xs : List Choice). IsOf xs t) (sym holds) of

pub place_within : (cs held : List Choice) (t : Candidate) → held ≡ cs → IsOf cs t → t.place < length held
place_within cs held t holds of = let lt = get_within cs t.place of.choice of.at in rw holds lt

-- what was read is given back
pub back_again : (cs held left : List Choice) (t : Candidate) (read : Choice) → held ≡ cs → IsOf cs t
    → read ≡ slice_index_or held t.place read → left ≡ used held t.place → slice_set left t.place read ≡ cs
back_again cs held left t read holds of is gone =
    let same = get_read cs t.place of.choice read of.at (is ∙ ap (λ (xs : List Choice). slice_index_or xs t.place read) holds) in
    ap (λ (xs : List Choice). slice_set xs t.place read) (gone ∙ ap (λ (xs : List Choice). used xs t.place) holds)
    ∙ ap (λ (d : Choice). slice_set (used cs t.place) t.place d) same
    ∙ given_back cs t.place of.choice of.at

pub place_left : (cs held left : List Choice) (t : Candidate) → held ≡ cs → IsOf cs t → left ≡ used held t.place → t.place < length left
place_left cs held left t holds of gone =
    let lt = get_within cs t.place of.choice of.at in
    let long : length left ≡ length cs = ap length gone ∙ length-used held t.place ∙ ap length holds in
    omega arith

-- an event in front of a run whose newest event stands first
pub reversed : (e : Event) (es fs : List Event) → fs ≡ es ++ e ∷ [] → reverse fs ≡ e ∷ reverse es
reversed e es fs is = ap (λ (xs : List Event). reverse xs) is ∙ reverse-append es (e ∷ [])

-- The search has come to a turn: the world and the choices are what they were.
module _ (g : Goal) (d : ℕ) (cs : List Choice) (begun : ℕ) (w : World) (ts : List Candidate) (i : ℕ) (t : Candidate) (within : i < length ts)
    (is : t ≡ slice_index_or ts i t)
    (at : World) (same : at ≡ w) (held : List Choice) (holds : held ≡ cs) where
  rest_is : drop i ts ≡ t ∷ drop (i + 1) ts
  rest_is = drop_more ts i t within ∙ ap (λ (u : Candidate). u ∷ drop (i + 1) ts) (sym is)

  -- its event is refused
  module _ (why : Refusal) (refused : step at t.event ≡ Err why) where
    refused_here : step w t.event ≡ Err why
    refused_here = subst (λ (u : World). step u t.event ≡ Err why) same refused

    pub refused_first : first_among g d (stage cs begun) w (drop (i + 1) ts) ≡ first_among g d (stage cs begun) w (drop i ts)
    refused_first =
        sym (ap (first_among g d (stage cs begun) w) rest_is ∙ among_refused g d (stage cs begun) w t (drop (i + 1) ts) why refused_here)

    pub refused_count : (kind : Kind) → tally_among g kind d (stage cs begun) w (drop i ts) ≡ tally_among g kind d (stage cs begun) w (drop (i + 1) ts)
    refused_count kind =
        ap (tally_among g kind d (stage cs begun) w) rest_is ∙ tally_refused g kind d (stage cs begun) w t (drop (i + 1) ts) why refused_here

  -- its event is accepted
  module _ (v : World) (left : List Choice) (latest : Last) (s : Stepped) (accepted : step at t.event ≡ Ok s) (went : v ≡ s.world)
      (gone : left ≡ used held t.place)
      (kept : latest ≡ last_of at t.event) where
    accepted_here : step w t.event ≡ Ok s
    accepted_here = subst (λ (u : World). step u t.event ≡ Ok s) same accepted

    left_is : left ≡ used cs t.place
    left_is = gone ∙ ap (λ (xs : List Choice). used xs t.place) holds

    latest_is : Some latest ≡ Some (last_of w t.event)
    latest_is = ap Some (kept ∙ ap (λ (u : World). last_of u t.event) same)

    child : first_run_after (Some (last_of w t.event)) g d (taken (stage cs begun) t.place t.phase) s.world
        ≡ first_run_after (Some latest) g d (stage left t.phase) v
    child =
        ap (λ (xs : List Choice). first_run_after (Some (last_of w t.event)) g d (stage xs t.phase) s.world) (sym left_is)
        ∙ ap (λ (u : World). first_run_after (Some (last_of w t.event)) g d (stage left t.phase) u) (sym went)
        ∙ ap (λ (l : Option Last). first_run_after l g d (stage left t.phase) v) (sym latest_is)

    child_count : (kind : Kind) → tally_after kind (Some (last_of w t.event)) g d (taken (stage cs begun) t.place t.phase) s.world
        ≡ tally_after kind (Some latest) g d (stage left t.phase) v
    child_count kind =
        ap (λ (xs : List Choice). tally_after kind (Some (last_of w t.event)) g d (stage xs t.phase) s.world) (sym left_is)
        ∙ ap (λ (u : World). tally_after kind (Some (last_of w t.event)) g d (stage left t.phase) u) (sym went)
        ∙ ap (λ (l : Option Last). tally_after kind l g d (stage left t.phase) v) (sym latest_is)

    pub passed_first : first_run_after (Some latest) g d (stage left t.phase) v ≡ None
        → first_among g d (stage cs begun) w (drop (i + 1) ts) ≡ first_among g d (stage cs begun) w (drop i ts)
    passed_first none =
        sym (ap (first_among g d (stage cs begun) w) rest_is
        ∙ among_passed g d (stage cs begun) w t (drop (i + 1) ts) s accepted_here (child ∙ none))

    pub passed_count : (kind : Kind) → first_run_after (Some latest) g d (stage left t.phase) v ≡ None
        → tally_among g kind d (stage cs begun) w (drop i ts)
        ≡ tally_after kind (Some latest) g d (stage left t.phase) v + tally_among g kind d (stage cs begun) w (drop (i + 1) ts)
    passed_count kind none =
        ap (tally_among g kind d (stage cs begun) w) rest_is
        ∙ tally_passed g kind d (stage cs begun) w t (drop (i + 1) ts) s accepted_here (child ∙ none)
        ∙ ap (λ (n : ℕ). n + tally_among g kind d (stage cs begun) w (drop (i + 1) ts)) (child_count kind)

    pub found_first : (es : List Event) → first_run_after (Some latest) g d (stage left t.phase) v ≡ Some es
        → first_among g d (stage cs begun) w (drop i ts) ≡ Some (t.event ∷ es)
    found_first es found =
        ap (first_among g d (stage cs begun) w) rest_is
        ∙ among_found g d (stage cs begun) w t (drop (i + 1) ts) s es accepted_here (child ∙ found)

    pub found_count : (kind : Kind) (es : List Event) → first_run_after (Some latest) g d (stage left t.phase) v ≡ Some es
        → tally_among g kind d (stage cs begun) w (drop i ts) ≡ tally_after kind (Some latest) g d (stage left t.phase) v
    found_count kind es found =
        ap (tally_among g kind d (stage cs begun) w) rest_is
        ∙ tally_found g kind d (stage cs begun) w t (drop (i + 1) ts) s es accepted_here (child ∙ found)
        ∙ child_count kind

    pub part_count : (kind : Kind) → tally_after kind (Some latest) g d (stage left t.phase) v ≤ tally_among g kind d (stage cs begun) w (drop i ts)
    part_count kind =
        let part = tally_part g kind d (stage cs begun) w t (drop (i + 1) ts) s accepted_here in
        let here : tally_among g kind d (stage cs begun) w (drop i ts) ≡ tally_among g kind d (stage cs begun) w (t ∷ drop (i + 1) ts) =
        ap (tally_among g kind d (stage cs begun) w) rest_is in
        let same_child = child_count kind in
        omega arith

-- where too few worlds are left for the search after a turn, too few are left for all of them
pub stops : (s : Stopped) (left child among worlds most : ℕ) → IsStop left child s → child ≤ among → left + worlds ≡ most + among → IsStop most worlds s
stops NoMemory left child among worlds most is part count = tt
stops TooMany left child among worlds most is part count = omega arith

-- where not even one may be visited, too few worlds are left
pub stops_soon : (s : Stopped) (most worlds : ℕ) → IsStop most 1 s → 0 < worlds → IsStop most worlds s
stops_soon NoMemory most worlds is some = tt
stops_soon TooMany most worlds is some = omega arith
