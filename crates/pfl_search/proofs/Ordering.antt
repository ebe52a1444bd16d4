-- Each run of choices leads where a run leads whose events are in order: an event goes back over those that it comes first of.
use Rattle.std.specs.Prelude.{◌≡◌, ◌≤◌, ℕ, suc, Bool, true, false, cond, not, nat_eq, nat_lt, ◌&&◌, List, [], ◌∷◌, length, Option, Some, None, Ok, IsTrue, refl}
use Rattle.std.proofs.Common.{◌∙◌, ap, sym, subst, arith, ltb-true, lt-ltb}
use Rattle.std.proofs.lemmas.Bool.{eq-eqb, eqb-true, le-ltb}
use Rattle.pfl_language.specs.declared.event.Event.{Event}
use Rattle.pfl_language.specs.declared.event.Event.TheVariants.{At, Flush, Of, Restart}
use Rattle.pfl_world.specs.Events.{step}
use Rattle.pfl_world.specs.Meanings.{Stepped}
use Rattle.pfl_world.specs.Runs.{run}
use Rattle.pfl_world.specs.Worlds.{World}
use Rattle.pfl_search.proofs.Commuting.{Diamond, diamond}
use Rattle.pfl_search.proofs.Counting.{counted_after, link_is_counted}
use Rattle.pfl_search.proofs.Flying.{IsCounted}
use Rattle.pfl_search.proofs.Swapping.{begins_left, begun, left_after, left_before, used-swap}
use Rattle.pfl_search.specs.Choices.{Stage, stage, taken, used}
use Rattle.pfl_search.specs.Ordered.{IsOrdered, OrderedRunsSuffice}
use Rattle.pfl_search.specs.Orders.{comes_first, in_phase, is_in_turn, kind_of, last_of, may_pass, rank, stood_at}
use Rattle.pfl_search.specs.Runs.{Begins, IsRun}
use Rattle.pfl_language.specs.declared.choice.Choice.{Choice}
use Rattle.pfl_search.specs.declared.order.Last.{Last}

-- ---- runs

run-next : (w : World) (e : Event) (es : List Event) (s : Stepped) → step w e ≡ Ok s → run w (e ∷ es) ≡ run s.world es
unfolding run
run-next w e es s h = rw h refl

-- ---- turns

was_not : (b : Bool) → not b ≡ false → b ≡ true
was_not true h = refl
was_not false h = absurd cc

-- a test that fails less often
still_not : (a b c d : Bool) → (c ≡ true → d ≡ true) → not (a && b && d) ≡ true → not (a && b && c) ≡ true
still_not a b true d more h = subst (λ (x : Bool). not (a && b && x) ≡ true) (more refl) h
still_not true true false d more h = refl
still_not true false false d more h = refl
still_not false b false d more h = refl

stood_longer : (before next : ℕ) (e : Event) → before ≤ next → stood_at before e ≡ true → stood_at next e ≡ true
stood_longer before next (At id e) more h = refl
stood_longer before next (Flush id) more h = refl
stood_longer before next (Of ticket e) more h = let lt = ltb-true ticket before h in lt-ltb ticket next (omega arith)
stood_longer before next (Restart id) more h = refl

-- an event that is in turn after one is in turn after it in another world, where it has the same rank and no later ticket is the next
in_turn_after : (v w u : World) (l e : Event) → rank v l ≡ rank w l → v.link.next ≤ w.link.next → IsTrue (is_in_turn (Some (last_of w l)) u e)
    → IsTrue (is_in_turn (Some (last_of v l)) u e)
in_turn_after v w u l e same less h =
    let more = stood_longer v.link.next w.link.next e less in
    subst (λ (r : ℕ). not (nat_lt (rank u e) r && may_pass (kind_of l) (kind_of e) && stood_at v.link.next e) ≡ true) (sym same)
    (still_not (nat_lt (rank u e) (rank w l)) (may_pass (kind_of l) (kind_of e)) (stood_at v.link.next e) (stood_at w.link.next e) more h)

-- an event that has the same rank in another world is in turn there
in_turn_there : (last : Option Last) (v w : World) (e : Event) → rank v e ≡ rank w e → IsTrue (is_in_turn last w e) → IsTrue (is_in_turn last v e)
in_turn_there None v w e same h = refl
in_turn_there (Some l) v w e same h = subst (λ (r : ℕ). not (nat_lt r l.rank && may_pass l.kind (kind_of e) && stood_at l.next e) ≡ true) (sym same) h

no_test : (a b c : Bool) → a ≡ false → not (a && b && c) ≡ true
no_test true b c h = absurd cc
no_test false b c h = refl

-- an event of a higher rank is in turn
in_turn_above : (last : Last) (w : World) (e : Event) → last.rank ≤ rank w e → IsTrue (is_in_turn (Some last) w e)
in_turn_above last w e high = no_test (nat_lt (rank w e) last.rank) (may_pass last.kind (kind_of e)) (stood_at last.next e) (le-ltb (rank w e) last.rank high)

-- ---- phases

-- a test of the last event that is met by another one is met by it where both are looked at in their phases
turn_at : (l m : Option Last) (w : World) (e : Event) (b : Bool) → (IsTrue (is_in_turn l w e) → IsTrue (is_in_turn m w e))
    → IsTrue (is_in_turn (cond b l None) w e) → IsTrue (is_in_turn (cond b m None) w e)
turn_at l m w e true f h = f h
turn_at l m w e false f h = refl

turn_maps : (l m : Option Last) (w : World) (e : Event) (begun phase : ℕ) → (IsTrue (is_in_turn l w e) → IsTrue (is_in_turn m w e))
    → IsTrue (is_in_turn (in_phase l begun phase) w e) → IsTrue (is_in_turn (in_phase m begun phase) w e)
turn_maps l m w e begun phase f h = turn_at l m w e (nat_eq begun phase) f h

eased_at : (l : Option Last) (w : World) (e : Event) (b : Bool) → IsTrue (is_in_turn l w e) → IsTrue (is_in_turn (cond b l None) w e)
eased_at l w e true h = h
eased_at l w e false h = refl

-- what is in turn after an event is so in any phase
eased : (l : Option Last) (w : World) (e : Event) (begun phase : ℕ) → IsTrue (is_in_turn l w e) → IsTrue (is_in_turn (in_phase l begun phase) w e)
eased l w e begun phase h = eased_at l w e (nat_eq begun phase) h

-- an event that is not in turn is of the same phase, and comes first
record Turned (l : Last) (w : World) (e : Event) (begun phase : ℕ) : Type 0 where
  pub same : begun ≡ phase
  pub first : comes_first l w e ≡ true

turned_at : (l : Last) (w : World) (e : Event) (begun phase : ℕ) (b : Bool) → nat_eq begun phase ≡ b → is_in_turn (cond b (Some l) None) w e ≡ false
    → Turned l w e begun phase
turned_at l w e begun phase true is h = record { same = eqb-true begun phase is; first = was_not (comes_first l w e) h }
turned_at l w e begun phase false is h = absurd cc

turned : (l : Last) (w : World) (e : Event) (begun phase : ℕ) → is_in_turn (in_phase (Some l) begun phase) w e ≡ false → Turned l w e begun phase
turned l w e begun phase h = turned_at l w e begun phase (nat_eq begun phase) refl h

shut_at : (l : Option Last) (b : Bool) → b ≡ true → cond b l None ≡ l
shut_at l true is = refl
shut_at l false is = absurd cc

-- in one phase the last event is looked at
in_one : (l : Option Last) (begun phase : ℕ) → begun ≡ phase → in_phase l begun phase ≡ l
in_one l begun phase same = shut_at l (nat_eq begun phase) (eq-eqb begun phase same)

-- ---- orders

-- an event that may come after another last one begins a run in order there
ordered_after : (l m : Option Last) (st : Stage) (w : World) (es : List Event)
    → ((e : Event) (phase : ℕ) → IsTrue (is_in_turn (in_phase l st.phase phase) w e) → IsTrue (is_in_turn (in_phase m st.phase phase) w e))
    → IsOrdered l st w es → IsOrdered m st w es
ordered_after l m st w [] f h = tt
ordered_after l m st w (e ∷ es) f h = record {
  place = h.place;
  choice = h.choice;
  at = h.at;
  not_over = h.not_over;
  left = h.left;
  fits = h.fits;
  gives = h.gives;
  accepted = h.accepted;
  goes_on = (f e h.choice.phase h.goes_on.0, h.goes_on.1);
}

ordered_on : (l : Option Last) (st left : Stage) (w v : World) (es : List Event) → st ≡ left → w ≡ v → IsOrdered l st w es → IsOrdered l left v es
ordered_on l st left w v es same_stage same h =
    subst (λ (u : World). IsOrdered l left u es) same (subst (λ (s : Stage). IsOrdered l s w es) same_stage h)

-- a run in order is a run
pub run_of : (l : Option Last) (st : Stage) (w : World) (es : List Event) → IsOrdered l st w es → IsRun st w es
run_of l st w [] h = tt
run_of l st w (e ∷ es) h = record {
  place = h.place;
  choice = h.choice;
  at = h.at;
  not_over = h.not_over;
  left = h.left;
  fits = h.fits;
  gives = h.gives;
  accepted = h.accepted;
  goes_on = run_of (Some (last_of w e)) (taken st h.place h.choice.phase) h.gives.world es h.goes_on.1;
}

-- ---- an event in front of a run whose events are in order

-- it begins the run after the last event, and the others are in order as if it had not come
abbrev Fronts : Option Last → Stage → World → Event → List Event → Type 0
Fronts last st w f es =
    Begins st w f (λ left v. IsTrue (is_in_turn (in_phase last st.phase left.phase) w f) × IsOrdered (in_phase last st.phase left.phase) left v es)

-- a run of the same events in order
record Inserted (last : Option Last) (st : Stage) (w : World) (middle : World) (es : List Event) : Type 0 where
  pub events : List Event
  pub ordered : IsOrdered last st w events
  pub same_length : length events ≡ suc (length es)
  pub same_world : run w events ≡ run middle es

-- it stays in front
ahead : (last : Option Last) (st : Stage) (w : World) (f : Event) (es : List Event) (b : Fronts last st w f es)
    → IsOrdered (Some (last_of w f)) (taken st b.place b.choice.phase) b.gives.world es
    → Inserted last st w b.gives.world es
ahead last st w f es b h = record {
  events = f ∷ es;
  ordered = record {
    place = b.place;
    choice = b.choice;
    at = b.at;
    not_over = b.not_over;
    left = b.left;
    fits = b.fits;
    gives = b.gives;
    accepted = b.accepted;
    goes_on = (b.goes_on.0, h);
  };
  same_length = refl;
  same_world = run-next w f es b.gives b.accepted;
}

abbrev Inserts : List Event → Type 0
Inserts es = (last : Option Last) (st : Stage) (w : World) (f : Event) → IsCounted w.link → (b : Fronts last st w f es) → Inserted last st w b.gives.world es

-- or goes after the first of them
module _ (e : Event) (es : List Event) (inserts : Inserts es) (last : Option Last) (st : Stage) (w : World) (f : Event) (counted : IsCounted w.link)
    (b : Fronts last st w f (e ∷ es)) where
  abbrev second_rest : Stage → World → Type 0
  second_rest left v =
      IsTrue (is_in_turn (in_phase (in_phase last st.phase b.choice.phase) b.choice.phase left.phase) b.gives.world e)
      × IsOrdered (Some (last_of b.gives.world e)) left v es

  begins_second : Begins (taken st b.place b.choice.phase) b.gives.world e second_rest
  begins_second = b.goes_on.1

  behind : (same : b.choice.phase ≡ begins_second.choice.phase) → comes_first (last_of w f) b.gives.world e ≡ true
      → Inserted last st w b.gives.world (e ∷ es)
  behind same first =
      let c = begins_second in
      let s = b.gives.world in
      let t = c.gives.world in
      let of_f = b.choice.phase in
      let of_e = c.choice.phase in
      let d : Diamond w f e s t = diamond w f e b.gives c.gives counted b.accepted c.accepted first in
      let p = begins_left st w f b in
      let q = begins_left (taken st b.place of_f) s e c in
      let over_f = b.not_over in
      let over_e : st.phase ≤ of_e = omega arith in
      let still = left_after st.choices b.place c.place b.choice.what c.choice.what of_f of_e p q in
      let was = left_before st.choices b.place c.place c.choice.what of_e q in
      let both : taken (taken st b.place of_f) c.place of_e ≡ taken (taken st c.place of_e) b.place of_f =
      ap (λ (cs : List Choice). stage cs of_e) (used-swap st.choices b.place c.place)
      ∙ ap (λ (n : ℕ). stage (used (used st.choices c.place) b.place) n) (sym same) in
      let on : IsOrdered (Some (last_of s e)) (taken (taken st c.place of_e) b.place of_f) d.second.world es =
      ordered_on (Some (last_of s e)) (taken (taken st b.place of_f) c.place of_e) (taken (taken st c.place of_e) b.place of_f) t d.second.world es both
      (sym d.same) c.goes_on.1 in
      let there : IsOrdered (in_phase (Some (last_of w e)) of_e of_f) (taken (taken st c.place of_e) b.place of_f) d.second.world es =
      ordered_after (Some (last_of s e)) (in_phase (Some (last_of w e)) of_e of_f) (taken (taken st c.place of_e) b.place of_f) d.second.world es
      (λ x phase. turn_maps (Some (last_of s e)) (in_phase (Some (last_of w e)) of_e of_f) d.second.world x of_f phase
      (λ h. eased (Some (last_of w e)) d.second.world x of_e of_f (in_turn_after w s d.second.world e x d.same_rank d.no_later h))) on in
      let high : rank w e ≤ rank d.first.world f = let a = d.same_rank in let z = d.same_rank_after in let lt = d.lower in omega arith in
      let turn_on = eased (Some (last_of w e)) d.first.world f of_e of_f (in_turn_above (last_of w e) d.first.world f high) in
      let less : of_e ≤ of_f = omega arith in
      let later : Fronts (Some (last_of w e)) (taken st c.place of_e) d.first.world f es =
      begun (taken st c.place of_e) w d.first.world f b.place b.choice.what of_f d.second still less b.fits d.second_is (turn_on, there) in
      let rest = inserts (Some (last_of w e)) (taken st c.place of_e) d.first.world f (counted_after w e d.first counted d.first_is) later in
      let one = in_one (in_phase last st.phase of_f) of_f of_e same in
      let turn_here : IsTrue (is_in_turn (in_phase last st.phase of_f) s e) =
      subst (λ (l : Option Last). IsTrue (is_in_turn l s e)) one c.goes_on.0 in
      let turn_first : IsTrue (is_in_turn (in_phase last st.phase of_e) w e) =
      subst (λ (n : ℕ). IsTrue (is_in_turn (in_phase last st.phase n) w e)) same
      (in_turn_there (in_phase last st.phase of_f) w s e d.same_rank turn_here) in
      record {
        events = e ∷ rest.events;
        ordered = begun st s w e c.place c.choice.what of_e d.first was over_e c.fits d.first_is (turn_first, rest.ordered);
        same_length = ap suc rest.same_length;
        same_world =
            run-next w e rest.events d.first d.first_is ∙ rest.same_world ∙ ap (λ (v : World). run v es) d.same
            ∙ sym (run-next s e es c.gives c.accepted);
      }

  -- whichever of them comes first
  sorted : (b' : Bool) → is_in_turn (in_phase (Some (last_of w f)) b.choice.phase begins_second.choice.phase) b.gives.world e ≡ b'
      → Inserted last st w b.gives.world (e ∷ es)
  sorted true is =
      let c = begins_second in
      ahead last st w f (e ∷ es) b (record {
        place = c.place;
        choice = c.choice;
        at = c.at;
        not_over = c.not_over;
        left = c.left;
        fits = c.fits;
        gives = c.gives;
        accepted = c.accepted;
        goes_on = (is, c.goes_on.1);
      })
  sorted false is =
      let so = turned (last_of w f) b.gives.world e b.choice.phase begins_second.choice.phase is in
      behind so.same so.first

insert : (es : List Event) → Inserts es
unfolding begins_second
insert [] last st w f counted b = ahead last st w f [] b tt
insert (e ∷ es) last st w f counted b =
    sorted e es (λ last st w f counted b. insert es last st w f counted b) last st w f counted b
    (is_in_turn (in_phase (Some (last_of w f)) b.choice.phase b.goes_on.1.choice.phase) b.gives.world e) refl

-- ---- runs in order

-- a run of the same choices, as long, to the same world
record Sorted (st : Stage) (w : World) (es : List Event) : Type 0 where
  pub events : List Event
  pub ordered : IsOrdered None st w events
  pub same_length : length events ≡ length es
  pub same_world : run w events ≡ run w es

sort : (es : List Event) (st : Stage) (w : World) → IsCounted w.link → IsRun st w es → Sorted st w es
sort [] st w counted is = record { events = []; ordered = tt; same_length = refl; same_world = refl }
sort (e ∷ es) st w counted is =
    let left = taken st is.place is.choice.phase in
    let rest = sort es left is.gives.world (counted_after w e is.gives counted is.accepted) is.goes_on in
    let any : IsOrdered (in_phase None st.phase is.choice.phase) left is.gives.world rest.events =
    ordered_after None (in_phase None st.phase is.choice.phase) left is.gives.world rest.events
    (λ x phase. turn_maps None (in_phase None st.phase is.choice.phase) is.gives.world x is.choice.phase phase
    (λ h. eased None is.gives.world x st.phase is.choice.phase h)) rest.ordered in
    let b : Fronts None st w e rest.events = record {
      place = is.place;
      choice = is.choice;
      at = is.at;
      not_over = is.not_over;
      left = is.left;
      fits = is.fits;
      gives = is.gives;
      accepted = is.accepted;
      goes_on = (eased None w e st.phase is.choice.phase refl, any);
    } in
    let all = insert rest.events None st w e counted b in
    record {
      events = all.events;
      ordered = all.ordered;
      same_length = all.same_length ∙ ap suc rest.same_length;
      same_world = all.same_world ∙ rest.same_world ∙ sym (run-next w e es is.gives is.accepted);
    }

-- where a run of choices leads, a run leads whose events are in order
pub ordered_run : OrderedRunsSuffice
ordered_run st w v es is runs leads =
    let all = sort es st w (link_is_counted w.link is.link) runs in
    record { fs = all.events; ordered = all.ordered; same_length = all.same_length; same_world = all.same_world ∙ leads }
