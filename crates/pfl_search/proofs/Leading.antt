-- The visits are exactly what runs of the choices lead to.
use Rattle.std.specs.Prelude.{◌≡◌, ◌↔◌, ℕ, zero, suc, ◌+◌, ◌-◌, ◌<◌, ◌≤◌, Bool, true, false, nat_eq, List, [], ◌∷◌, length, take, Contains, Option, Some, None}
use Rattle.std.specs.Prelude.{is_some, Result, Ok, Err, IsTrue, IsFalse, IfSome, IfNone, refl}
use Rattle.std.specs.List.{flat_map}
use Rattle.std.specs.Option.{option_map}
use Rattle.std.proofs.Common.{◌∙◌, ap, sym, subst, inl, inr, arith}
use Rattle.std.proofs.lemmas.List.{length-take-le}
use Rattle.std.proofs.lemmas.Bool.{eq-eqb, eqb-true}
use Rattle.pfl_base.specs.declared.refusal.Refusal.{Refusal}
use Rattle.pfl_language.specs.declared.event.Event.{Event}
use Rattle.pfl_world.specs.Events.{step}
use Rattle.pfl_world.specs.Meanings.{Stepped}
use Rattle.pfl_world.specs.Runs.{run}
use Rattle.pfl_world.specs.Worlds.{World, IsWorld}
use Rattle.pfl_search.proofs.Lists.{found_in, none_in, from_filter, from_flat_map, from_map, in_cons, in_filter, in_flat_map, in_front, in_map}
use Rattle.pfl_search.proofs.Lists.{in_rest, nothing_in, tally-counts, tally-zero}
use Rattle.pfl_search.proofs.Ordering.{ordered_run, run_of}
use Rattle.pfl_search.proofs.Turning.{has_turn, tried}
use Rattle.pfl_search.proofs.Visiting.{turn_visits}
use Rattle.pfl_search.specs.Choices.{Stage, start, taken, turn, turns}
use Rattle.pfl_search.specs.Goals.{is_asked, meets}
use Rattle.pfl_search.specs.Laws.{IsVisit, NeverAsked, NoneIsExhaustive, RunsAreVisited, RunsEnd, RunsLeadSomewhere, VisitsAreOfRuns, VisitsAreOrdered}
use Rattle.pfl_search.specs.Ordered.{IsOrdered}
use Rattle.pfl_search.specs.Orders.{in_phase, is_in_turn, last_of}
use Rattle.pfl_search.specs.Runs.{EndBefore, IsRun, IsRunOf, LeadsTo, NeverLeads, first_run}
use Rattle.pfl_search.specs.Visits.{Visit, after, asking, at_end, first_visit, here, in_turn, is_ended, onward, tally_of, visits, worlds_asked}
use Rattle.pfl_search.specs.declared.order.Last.{Last}
use Rattle.pfl_language.specs.declared.choice.Choice.{Choice}
use Rattle.pfl_language.specs.declared.goal.Goal.{Goal}
use Rattle.pfl_search.specs.declared.turns.Candidate.{Candidate}

run-none : (w : World) → run w [] ≡ Some w
unfolding run
run-none w = refl

run-next : (w : World) (e : Event) (es : List Event) (s : Stepped) → step w e ≡ Ok s → run w (e ∷ es) ≡ run s.world es
unfolding run
run-next w e es s h = rw h refl

-- ---- what is visited

-- a visit, by an ordered run
record Ordered (last : Option Last) (d : ℕ) (st : Stage) (w : World) (v : Visit) : Type 0 where
  pub ordered : IsOrdered last st w v.run
  pub within : length v.run + v.more ≡ d
  pub reached : run w v.run ≡ Some v.world

here-visit : (last : Option Last) (d : ℕ) (st : Stage) (w : World) (v : Visit) → here d w ≡ v → Ordered last d st w v
here-visit last d st w v e = subst (Ordered last d st w) e (record { ordered = tt; within = omega arith; reached = run-none w })

after-visit : (last : Option Last) (d : ℕ) (st : Stage) (w : World) (t : Candidate) (s : Stepped) (v : Visit)
    → Contains (in_turn last st.phase w (turns st w)) t
    → step w t.event ≡ Ok s
    → Ordered (Some (last_of w t.event)) d (taken st t.place t.phase) s.world v → Ordered last (suc d) st w (after t.event v)
after-visit last d st w t s v turned accepted later =
    let short = later.within in
    let kept = from_filter (λ (u : Candidate). is_in_turn (in_phase last st.phase u.phase) w u.event) (turns st w) t turned in
    let parts = tried st w t kept.0 in
    record {
      ordered = record {
        place = t.place;
        choice = parts.choice;
        at = parts.at;
        not_over = parts.not_over;
        left = parts.left;
        fits = parts.fits;
        gives = s;
        accepted = accepted;
        goes_on = (
          subst (λ (n : ℕ). IsTrue (is_in_turn (in_phase last st.phase n) w t.event)) parts.same_phase kept.1,
          subst (λ (n : ℕ). IsOrdered (Some (last_of w t.event)) (taken st t.place n) s.world v.run) parts.same_phase later.ordered,
        );
      };
      within = omega arith;
      reached = run-next w t.event v.run s accepted ∙ later.reached;
    }

onward-visit : (last : Option Last) (d : ℕ) (st : Stage) (w : World) (t : Candidate) → Contains (in_turn last st.phase w (turns st w)) t
    → ((latest : Option Last) (left : Stage) (u : World) (v : Visit) → Contains (visits latest d left u) v → Ordered latest d left u v)
    → (r : Result Stepped Refusal) → step w t.event ≡ r → (v : Visit)
    → Contains (onward t.event (λ u. visits (Some (last_of w t.event)) d (taken st t.place t.phase) u) r) v
    → Ordered last (suc d) st w v
onward-visit last d st w t there later (Ok s) is v h =
    let from = from_map (after t.event) (visits (Some (last_of w t.event)) d (taken st t.place t.phase) s.world) v h in
    subst (Ordered last (suc d) st w) from.2
    (after-visit last d st w t s from.0 there is (later (Some (last_of w t.event)) (taken st t.place t.phase) s.world from.0 from.1))
onward-visit last d st w t there later (Err why) is v h = absurd (nothing_in v h)

-- each visit is one
visit-sound : (last : Option Last) (d : ℕ) (st : Stage) (w : World) (v : Visit) → Contains (visits last d st w) v → Ordered last d st w v
unfolding visits
visit-sound last zero st w v h = elim (in_cons (here 0 w) [] v h) [ inl e ↦ here-visit last 0 st w v e | inr r ↦ absurd (nothing_in v r) ]
visit-sound last (suc d) st w v h =
    elim (in_cons (here (suc d) w) (flat_map (turn_visits d st w) (in_turn last st.phase w (turns st w))) v h) [
      | inl e ↦ here-visit last (suc d) st w v e
      | inr r ↦
          let from = from_flat_map (turn_visits d st w) (in_turn last st.phase w (turns st w)) v r in
          onward-visit last d st w from.0 from.1 (λ latest left u x k. visit-sound latest d left u x k) (step w from.0.event) refl v from.2
    ]

-- the visit of a run
abbrev by_run : List Event → World → ℕ → Visit
by_run es w more = record { run = es; world = w; more = more }

-- and each ordered run that is short enough leads to one
onward-has : (latest : Option Last) (d : ℕ) (left : Stage) (w : World) (e : Event) (s : Stepped) (es : List Event) (at : World) (more : ℕ)
    → step w e ≡ Ok s → Contains (visits latest d left s.world) (by_run es at more)
    → Contains (onward e (λ u. visits latest d left u) (step w e)) (by_run (e ∷ es) at more)
onward-has latest d left w e s es at more is h = rw is (in_map (after e) (visits latest d left s.world) (by_run es at more) h)

same_here : (d : ℕ) (w at : World) → run w [] ≡ Some at → here d w ≡ by_run [] at d
same_here d w at e =
    let same : w ≡ at = let h = run-none w in cc in
    ap (here d) same

first-has : (last : Option Last) (d : ℕ) (st : Stage) (w at : World) → run w [] ≡ Some at → Contains (visits last d st w) (by_run [] at d)
unfolding visits
first-has last zero st w at e = in_front (here 0 w) [] (by_run [] at 0) (same_here 0 w at e)
first-has last (suc d) st w at e =
    in_front (here (suc d) w) (flat_map (turn_visits d st w) (in_turn last st.phase w (turns st w))) (by_run [] at (suc d)) (same_here (suc d) w at e)

later-has : (last : Option Last) (d : ℕ) (st : Stage) (w : World) (e : Event) (es : List Event) (at : World) (more place phase : ℕ) (s : Stepped)
    → Contains (in_turn last st.phase w (turns st w)) (turn place phase e) → step w e ≡ Ok s
    → Contains (visits (Some (last_of w e)) d (taken st place phase) s.world) (by_run es at more)
    → Contains (visits last (suc d) st w) (by_run (e ∷ es) at more)
unfolding visits
later-has last d st w e es at more place phase s there accepted h =
    in_rest (here (suc d) w) (flat_map (turn_visits d st w) (in_turn last st.phase w (turns st w))) (by_run (e ∷ es) at more)
    (in_flat_map (turn_visits d st w) (in_turn last st.phase w (turns st w)) (turn place phase e) (by_run (e ∷ es) at more) there
    (onward-has (Some (last_of w e)) d (taken st place phase) w e s es at more accepted h))

visit-complete : (es : List Event) (last : Option Last) (d : ℕ) (st : Stage) (w at : World) (more : ℕ) → IsOrdered last st w es → length es + more ≡ d
    → run w es ≡ Some at
    → Contains (visits last d st w) (by_run es at more)
visit-complete [] last d st w at more ordered short e =
    let same : more ≡ d = omega arith in
    subst (λ (n : ℕ). Contains (visits last n st w) (by_run [] at more)) same (first-has last more st w at e)
visit-complete (e ∷ es) last zero st w at more ordered short leads = absurd (omega arith)
visit-complete (e ∷ es) last (suc d) st w at more ordered short leads =
    let turned = in_filter (λ (u : Candidate). is_in_turn (in_phase last st.phase u.phase) w u.event) (turns st w)
    (turn ordered.place ordered.choice.phase e)
    (has_turn st w ordered.place ordered.choice e ordered.at ordered.not_over ordered.left ordered.fits) ordered.goes_on.0 in
    later-has last d st w e es at more ordered.place ordered.choice.phase ordered.gives turned ordered.accepted
    (visit-complete es (Some (last_of w e)) d (taken st ordered.place ordered.choice.phase) ordered.gives.world at more ordered.goes_on.1 (omega arith)
    (sym (run-next w e es ordered.gives ordered.accepted) ∙ leads))

visit-of : (d : ℕ) (cs : List Choice) (w : World) (v : Visit) → Ordered None d (start cs) w v → IsVisit d cs w v
visit-of d cs w v h = record { is_run = run_of None (start cs) w v.run h.ordered; within = h.within; reached = h.reached }

-- ---- what the search returns

leads : (g : Goal) (d : ℕ) (cs : List Choice) (w : World) (es : List Event) (o : Option Visit) → first_visit g d cs w ≡ o
    → option_map (λ v. v.run) o ≡ Some es → LeadsTo g d cs w es
leads g d cs w es None is e = absurd cc
leads g d cs w es (Some v) is e =
    let found = found_in (λ u. meets g u.world) (visits None d (start cs) w) v is in
    let visit = visit-of d cs w v (visit-sound None d (start cs) w v found.0) in
    let same : v.run ≡ es = cc in
    let short = visit.within in
    subst (LeadsTo g d cs w) same
    (record { is_run = visit.is_run; within = omega arith; world = v.world; reached = visit.reached; met = found.1 })

-- the first run leads to the goal
pub first-leads : (g : Goal) (d : ℕ) (cs : List Choice) (w : World) (es : List Event) → first_run g d cs w ≡ Some es → LeadsTo g d cs w es
first-leads g d cs w es e = leads g d cs w es (first_visit g d cs w) refl e

no_visit : (o : Option Visit) → option_map (λ v. v.run) o ≡ None → o ≡ None
no_visit None e = refl
no_visit (Some v) e = absurd cc

-- where a run of the choices leads that is short enough, there is a visit
record Reaches (d : ℕ) (cs : List Choice) (w last : World) (es : List Event) : Type 0 where
  pub fs : List Event
  pub same_length : length fs ≡ length es
  pub visited : Contains (visits None d (start cs) w) (by_run fs last (d - length es))

reaches : (d : ℕ) (cs : List Choice) (w last : World) (es : List Event) → IsWorld w → IsRunOf cs w es → length es ≤ d → run w es ≡ Some last
    → Reaches d cs w last es
reaches d cs w last es known is short at =
    let other = ordered_run (start cs) w last es known is at in
    let long = other.same_length in
    record {
      fs = other.fs;
      same_length = other.same_length;
      visited = visit-complete other.fs None d (start cs) w last (d - length es) other.ordered (omega arith) other.same_world;
    }

-- where there is none, no run does
pub none-leads : (g : Goal) (d : ℕ) (cs : List Choice) (w : World) → IsWorld w → first_run g d cs w ≡ None → (es : List Event) → LeadsTo g d cs w es → ⊥
none-leads g d cs w known none es leads =
    let there = reaches d cs w leads.world es known leads.is_run leads.within leads.reached in
    let shut : meets g leads.world ≡ false =
    none_in (λ u. meets g u.world) (visits None d (start cs) w) (by_run there.fs leads.world (d - length es))
    (no_visit (first_visit g d cs w) none) there.visited in
    let met : meets g leads.world ≡ true = leads.met in
    absurd cc

-- ---- runs end

-- the first events of a run are one
take_run : (n : ℕ) (st : Stage) (w : World) (es : List Event) → IsRun st w es → IsRun st w (take n es)
take_run zero st w es h = tt
take_run (suc n) st w [] h = tt
take_run (suc n) st w (e ∷ es) h = record {
  place = h.place;
  choice = h.choice;
  at = h.at;
  not_over = h.not_over;
  left = h.left;
  fits = h.fits;
  gives = h.gives;
  accepted = h.accepted;
  goes_on = take_run n (taken st h.place h.choice.phase) h.gives.world es h.goes_on;
}

short_or_long : (n d : ℕ) → (d ≤ n → ⊥) → n < d
short_or_long n zero h = absurd (h (omega arith))
short_or_long zero (suc d) h = omega arith
short_or_long (suc n) (suc d) h = let lt = short_or_long n d (λ le. h (omega arith)) in omega arith

-- where no run has exactly this number of events, none has more
pub runs_end : RunsEnd
runs_end d cs w none es is =
    short_or_long (length es) d (λ long. none (take d es) (take_run d (start cs) w es is) (length-take-le d es long))

some_world : (o : Option World) → is_some o ≡ true → (v : World) × (o ≡ Some v)
some_world None h = absurd cc
some_world (Some v) h = (v, refl)

runs_on : (st : Stage) (w : World) (es : List Event) → IsRun st w es → is_some (run w es) ≡ true
runs_on st w [] is = rw (run-none w) refl
runs_on st w (e ∷ es) is = rw (run-next w e es is.gives is.accepted) (runs_on (taken st is.place is.choice.phase) is.gives.world es is.goes_on)

zero_is : (n : ℕ) → nat_eq n 0 ≡ true → n ≡ 0
zero_is n h = eqb-true n 0 h

-- where nothing is found, and no world is visited by a run of `d` events, each run has fewer
pub ends-before : (g : Goal) (d : ℕ) (cs : List Choice) (w : World) → IsWorld w → first_run g d cs w ≡ None → is_ended g d cs w ≡ true → EndBefore d cs w
ends-before g d cs w known none ended =
    runs_end d cs w (λ es is long.
    let at = some_world (run w es) (runs_on (start cs) w es is) in
    let there = reaches d cs w at.0 es known is (omega arith) at.1 in
    let last : d - length es ≡ 0 = omega arith in
    let some = tally-counts (λ v. at_end v.world v.more) (λ v. meets g v.world) (visits None d (start cs) w) (by_run there.fs at.0 (d - length es))
    (no_visit (first_visit g d cs w) none) there.visited (eq-eqb (d - length es) 0 last) in
    let no = zero_is (tally_of at_end g d cs w) ended in
    absurd (omega arith))

not_so : (b : Bool) → (b ≡ true → ⊥) → b ≡ false
not_so true h = absurd (h refl)
not_so false h = refl

no_more : (n : ℕ) → 0 < n → nat_eq n 0 ≡ false
no_more n h = not_so (nat_eq n 0) (λ e. let none = eqb-true n 0 e in absurd (omega arith))

-- where each run has fewer, none of them is
pub ended-before : (g : Goal) (d : ℕ) (cs : List Choice) (w : World) → EndBefore d cs w → is_ended g d cs w ≡ true
ended-before g d cs w short =
    let none = tally-zero (λ v. at_end v.world v.more) (λ v. meets g v.world) (visits None d (start cs) w)
    (λ v h. let visit = visit-of d cs w v (visit-sound None d (start cs) w v h) in
    let less = short v.run visit.is_run in
    let all = visit.within in
    no_more v.more (omega arith)) in
    eq-eqb (tally_of at_end g d cs w) 0 none

-- where each run is shorter than the search allows, and it finds none, there is none of any length
pub never-leads : (g : Goal) (d : ℕ) (cs : List Choice) (w : World) → IsWorld w → first_run g d cs w ≡ None → EndBefore d cs w → NeverLeads g cs w
never-leads g d cs w known none short depth es leads =
    let less = short es leads.is_run in
    none-leads g d cs w known none es
    (record { is_run = leads.is_run; within = omega arith; world = leads.world; reached = leads.reached; met = leads.met })

-- ---- where the question is asked

-- where nothing is found, and it is asked in no world that is visited, it is asked in none that a run leads to
pub asked-never : (g : Goal) (d : ℕ) (cs : List Choice) (w : World) → IsWorld w → first_run g d cs w ≡ None → worlds_asked g d cs w ≡ 0
    → NeverAsked g d cs w
asked-never g d cs w known none unasked es last is short at =
    let there = reaches d cs w last es known is short at in
    not_so (is_asked g.scope last) (λ asks.
    let some = tally-counts (λ v. asking g v.world v.more) (λ v. meets g v.world) (visits None d (start cs) w) (by_run there.fs last (d - length es))
    (no_visit (first_visit g d cs w) none) there.visited asks in
    absurd (omega arith))

-- where it is asked in none that a run leads to, it is asked in none that is visited
pub never-asked : (g : Goal) (d : ℕ) (cs : List Choice) (w : World) → NeverAsked g d cs w → worlds_asked g d cs w ≡ 0
never-asked g d cs w never =
    tally-zero (λ v. asking g v.world v.more) (λ v. meets g v.world) (visits None d (start cs) w)
    (λ v h. let visit = visit-of d cs w v (visit-sound None d (start cs) w v h) in
    let all = visit.within in
    never v.run v.world visit.is_run (omega arith) visit.reached)

-- ---- as a search returns

pub answer-found : {V : Type 0} (items : V → List Event) (g : Goal) (d : ℕ) (cs : List Choice) (w : World) (o : Option V)
    → option_map items o ≡ first_run g d cs w → IfSome o (λ v. LeadsTo g d cs w (items v))
answer-found items g d cs w None e = tt
answer-found items g d cs w (Some v) e = first-leads g d cs w (items v) (sym e)

pub answer-none : {V : Type 0} (items : V → List Event) (g : Goal) (d : ℕ) (cs : List Choice) (w : World) (o : Option V) → IsWorld w
    → option_map items o ≡ first_run g d cs w → IfNone o ((es : List Event) → ¬ (LeadsTo g d cs w es))
answer-none items g d cs w None known e = none-leads g d cs w known (sym e)
answer-none items g d cs w (Some v) known e = tt

pub answer-ended : {V : Type 0} (items : V → List Event) (g : Goal) (d : ℕ) (cs : List Choice) (w : World) (o : Option V) (ended : Bool) → IsWorld w
    → option_map items o ≡ first_run g d cs w → ended ≡ is_ended g d cs w → IfNone o (IsTrue ended ↔ EndBefore d cs w)
answer-ended items g d cs w None ended known e is =
    (λ yes. ends-before g d cs w known (sym e) (sym is ∙ yes), λ short. is ∙ ended-before g d cs w short)
answer-ended items g d cs w (Some v) ended known e is = tt

pub answer-never : {V : Type 0} (items : V → List Event) (g : Goal) (d : ℕ) (cs : List Choice) (w : World) (o : Option V) (ended : Bool) → IsWorld w
    → option_map items o ≡ first_run g d cs w → ended ≡ is_ended g d cs w → IfNone o (IsTrue ended → NeverLeads g cs w)
answer-never items g d cs w None ended known e is =
    λ yes. never-leads g d cs w known (sym e) (ends-before g d cs w known (sym e) (sym is ∙ yes))
answer-never items g d cs w (Some v) ended known e is = tt

-- ---- as laws

pub runs_lead : RunsLeadSomewhere
runs_lead cs w es is = runs_on (start cs) w es is

pub visits_of_runs : VisitsAreOfRuns
visits_of_runs d cs w v h = visit-of d cs w v (visit-sound None d (start cs) w v h)

pub runs_visited : RunsAreVisited
runs_visited d cs w at es known is short leads =
    let there = reaches d cs w at es known is short leads in
    record {
      visit = by_run there.fs at (d - length es);
      visited = there.visited;
      is_run = (visit-of d cs w (by_run there.fs at (d - length es)) (visit-sound None d (start cs) w (by_run there.fs at (d - length es)) there.visited)).is_run;
      as_long = there.same_length;
      same_world = refl;
    }

pub visits_ordered : VisitsAreOrdered
visits_ordered d cs w v = (
  λ h. let parts = visit-sound None d (start cs) w v h in (visit-of d cs w v parts, parts.ordered),
  λ p. visit-complete v.run None d (start cs) w v.world v.more p.1 p.0.within p.0.reached,
)

not_met : (b : Bool) → (IsTrue b → ⊥) → IsFalse b
not_met true h = absurd (h refl)
not_met false h = refl

pub none_exhaustive : NoneIsExhaustive
none_exhaustive g d cs w last es known none is short at =
    not_met (meets g last) (λ met. none-leads g d cs w known none es (record { is_run = is; within = short; world = last; reached = at; met = met }))
