-- The choices of two events that change places.
use Rattle.std.specs.Prelude.{◌≡◌, ◌<◌, ◌≤◌, ◌-◌, ℕ, zero, suc, true, List, [], ◌∷◌, Contains, slice_get, Option, Some, None, is_some, Result, Ok, Err, refl}
use Rattle.std.specs.Option.{option_map_or}
use Rattle.std.specs.Ordering.{nat_cmp}
use Rattle.std.proofs.Common.{◌∙◌, ap, sym, subst, arith}
use Rattle.std.proofs.lemmas.Map.Lookups.{exact_unsigned}
use Rattle.std.proofs.lemmas.Map.Views.{Contains-from_any}
use Rattle.pfl_base.specs.declared.refusal.Refusal.{Refusal}
use Rattle.pfl_base.specs.declared.refusal.Refusal.TheVariants.{NoSuchFrame}
use Rattle.pfl_edits.specs.Maps as maps
use Rattle.pfl_edits.proofs.ForCallers.{contains_key-keys, equal_is}
use Rattle.pfl_language.specs.declared.choice.Move.{Move}
use Rattle.pfl_language.specs.declared.choice.Move.TheVariants.{AnyFrame, Given}
use Rattle.pfl_language.specs.declared.event.Event.{Event}
use Rattle.pfl_language.specs.declared.event.Event.TheVariants.{Of}
use Rattle.pfl_language.specs.declared.event.FrameEvent.{FrameEvent}
use Rattle.pfl_language.specs.declared.event.FrameEvent.TheVariants as frame
use Rattle.pfl_link.specs.Links.{InFlight}
use Rattle.pfl_world.specs.Delivering.{deliver_step}
use Rattle.pfl_world.specs.Events.{step}
use Rattle.pfl_world.specs.Meanings.{Stepped}
use Rattle.pfl_world.specs.Tickets.{cut_step, lose_step, repeat_step}
use Rattle.pfl_world.specs.Worlds.{World}
use Rattle.pfl_search.proofs.Lists.{from_map, in_map}
use Rattle.pfl_search.specs.Choices.{Stage, instances, once_less, taken, tickets, used}
use Rattle.pfl_search.specs.Runs.{Begins}
use Rattle.pfl_language.specs.declared.choice.Choice.{Choice}

-- ---- uses

-- a use of this move, in this phase, is left at the place
pub record IsLeft (cs : List Choice) (place : ℕ) (what : Move) (phase : ℕ) : Type 0 where
  pub choice : Choice
  pub at : slice_get cs place ≡ Some choice
  pub left : 0 < choice.uses
  pub is : choice.what ≡ what
  pub of_phase : choice.phase ≡ phase

behind : (c d : Choice) (cs : List Choice) (p : ℕ) (m : Move) (f : ℕ) → IsLeft (c ∷ cs) (suc p) m f → IsLeft (d ∷ cs) (suc p) m f
behind c d cs p m f h = record { choice = h.choice; at = h.at; left = h.left; is = h.is; of_phase = h.of_phase }

under : (c : Choice) (cs : List Choice) (p : ℕ) (m : Move) (f : ℕ) → IsLeft cs p m f → IsLeft (c ∷ cs) (suc p) m f
under c cs p m f h = record { choice = h.choice; at = h.at; left = h.left; is = h.is; of_phase = h.of_phase }

out : (c : Choice) (cs : List Choice) (p : ℕ) (m : Move) (f : ℕ) → IsLeft (c ∷ cs) (suc p) m f → IsLeft cs p m f
out c cs p m f h = record { choice = h.choice; at = h.at; left = h.left; is = h.is; of_phase = h.of_phase }

first : (c : Choice) (cs ds : List Choice) (m : Move) (f : ℕ) → IsLeft (c ∷ cs) zero m f → IsLeft (c ∷ ds) zero m f
first c cs ds m f h = record { choice = h.choice; at = h.at; left = h.left; is = h.is; of_phase = h.of_phase }

-- the first choice had one use more
record Had (c : Choice) (m : Move) (f : ℕ) : Type 0 where
  pub some : 0 < c.uses - 1
  pub is : c.what ≡ m
  pub of_phase : c.phase ≡ f

more : (c : Choice) (cs : List Choice) (m : Move) (f : ℕ) → IsLeft (once_less c ∷ cs) zero m f → Had c m f
more c cs m f h =
    let same : h.choice ≡ once_less c = cc in
    record {
      some = subst (λ (d : Choice). 0 < d.uses) same h.left;
      is = ap (λ (d : Choice). d.what) (sym same) ∙ h.is;
      of_phase = ap (λ (d : Choice). d.phase) (sym same) ∙ h.of_phase;
    }

-- a use that is left after another one was left before it,
pub left_before : (cs : List Choice) (p q : ℕ) (m : Move) (f : ℕ) → IsLeft (used cs p) q m f → IsLeft cs q m f
unfolding used
left_before [] p q m f h = h
left_before (c ∷ cs) zero zero m f h =
    let was = more c cs m f h in
    let some = was.some in
    record { choice = c; at = refl; left = omega arith; is = was.is; of_phase = was.of_phase }
left_before (c ∷ cs) zero (suc q) m f h = behind (once_less c) c cs q m f h
left_before (c ∷ cs) (suc p) zero m f h = first c (used cs p) cs m f h
left_before (c ∷ cs) (suc p) (suc q) m f h = under c cs q m f (left_before cs p q m f (out c (used cs p) q m f h))

-- and the other one is left after it
pub left_after : (cs : List Choice) (p q : ℕ) (m n : Move) (f k : ℕ) → IsLeft cs p m f → IsLeft (used cs p) q n k → IsLeft (used cs q) p m f
unfolding used
left_after [] p q m n f k h g = h
left_after (c ∷ cs) zero zero m n f k h g =
    let same : h.choice ≡ c = let at = h.at in cc in
    record {
      choice = once_less c;
      at = refl;
      left = (more c cs n k g).some;
      is = ap (λ (d : Choice). d.what) (sym same) ∙ h.is;
      of_phase = ap (λ (d : Choice). d.phase) (sym same) ∙ h.of_phase;
    }
left_after (c ∷ cs) zero (suc q) m n f k h g = first c cs (used cs q) m f h
left_after (c ∷ cs) (suc p) zero m n f k h g = behind c (once_less c) cs p m f h
left_after (c ∷ cs) (suc p) (suc q) m n f k h g =
    under c (used cs q) p m f (left_after cs p q m n f k (out c cs p m f h) (out c (used cs p) q n k g))

-- the same choices are left
pub used-swap : (cs : List Choice) (p q : ℕ) → used (used cs p) q ≡ used (used cs q) p
unfolding used
used-swap [] p q = refl
used-swap (c ∷ cs) zero zero = refl
used-swap (c ∷ cs) zero (suc q) = refl
used-swap (c ∷ cs) (suc p) zero = refl
used-swap (c ∷ cs) (suc p) (suc q) = ap (λ (xs : List Choice). c ∷ xs) (used-swap cs p q)

-- ---- frames

some_frame : (o : Option InFlight) (done : InFlight → Result Stepped Refusal) (s : Stepped) → option_map_or done o (Err NoSuchFrame) ≡ Ok s
    → is_some o ≡ true
some_frame None done s h = absurd cc
some_frame (Some f) done s h = refl

-- what happens to a frame happens to one in flight
pub in_flight : (w : World) (ticket : ℕ) (e : FrameEvent) (s : Stepped) → step w (Of ticket e) ≡ Ok s → is_some (maps.get w.link.frames ticket) ≡ true
unfolding step deliver_step lose_step repeat_step cut_step
in_flight w ticket frame.Deliver s h = some_frame (maps.get w.link.frames ticket) _ s h
in_flight w ticket frame.Lose s h = some_frame (maps.get w.link.frames ticket) _ s h
in_flight w ticket frame.Repeat s h = some_frame (maps.get w.link.frames ticket) _ s h
in_flight w ticket (frame.Cut len) s h = some_frame (maps.get w.link.frames ticket) _ s h

among_tickets : (w : World) (ticket : ℕ) → is_some (maps.get w.link.frames ticket) ≡ true → Contains (tickets w) ticket
among_tickets w ticket h =
    Contains-from_any (λ p q e. exact_unsigned p q (equal_is (nat_cmp p q) e)) ticket (tickets w) (sym (contains_key-keys w.link.frames ticket) ∙ h)

-- an event of a move is one in each world that accepts it
pub instance_here : (v w : World) (m : Move) (e : Event) (s : Stepped) → Contains (instances v m) e → step w e ≡ Ok s → Contains (instances w m) e
instance_here v w (Given given) e s fits accepted = fits
instance_here v w (AnyFrame x) e s fits accepted =
    let from = from_map (λ (ticket : ℕ). Of ticket x) (tickets v) e fits in
    let there : is_some (maps.get w.link.frames from.0) ≡ true = in_flight w from.0 x s (subst (λ (d : Event). step w d ≡ Ok s) (sym from.2) accepted) in
    subst (λ (d : Event). Contains (instances w (AnyFrame x)) d) from.2
    (in_map (λ (ticket : ℕ). Of ticket x) (tickets w) from.0 (among_tickets w from.0 there))

-- ---- runs

module _ {rest : Stage → World → Type 0} where
  -- a run's first event is of a move that has a use left
  pub begins_left : (st : Stage) (w : World) (e : Event) (b : Begins st w e rest) → IsLeft st.choices b.place b.choice.what b.choice.phase
  begins_left st w e b = record { choice = b.choice; at = b.at; left = b.left; is = refl; of_phase = refl }

-- and such an event, where it is accepted and its phase is not over, begins a run
abbrev pub begun : {rest : Stage → World → Type 0} (st : Stage) (v w : World) (e : Event) (place : ℕ) (m : Move) (phase : ℕ) (s : Stepped)
    → IsLeft st.choices place m phase → st.phase ≤ phase → Contains (instances v m) e → step w e ≡ Ok s → rest (taken st place phase) s.world
    → Begins st w e rest
begun {rest} st v w e place m phase s left not_over fits accepted on = record {
  place = place;
  choice = left.choice;
  at = left.at;
  not_over = subst (λ (n : ℕ). st.phase ≤ n) (sym left.of_phase) not_over;
  left = left.left;
  fits = subst (λ (x : Move). Contains (instances w x) e) (sym left.is) (instance_here v w m e s fits accepted);
  gives = s;
  accepted = accepted;
  goes_on = subst (λ (n : ℕ). rest (taken st place n) s.world) (sym left.of_phase) on;
}
