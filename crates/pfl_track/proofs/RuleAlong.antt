-- What a packet keeps, whichever rules are the kernel's, packets keep that come one after the other.
use Rattle.std.specs.Prelude.{◌≡◌, ⊤, Option, Some, None, List, [], ◌∷◌, All, IfSome, fold, option_and_then, refl}
use Rattle.std.proofs.Common.{ap, subst, ◌∙◌, inl, inr}
use Rattle.std.proofs.lemmas.List.Elements.{All-head, All-tail}
use Rattle.pfl_base.specs.Packets.{IsPacket}
use Rattle.pfl_base.specs.declared.kernel.Kernel.{Kernel}
use Rattle.pfl_track.specs.declared.state.State.{State}
use Rattle.pfl_track.specs.declared.tracked.Tracked.TheVariants.{Moved}
use Rattle.pfl_track.specs.Laws.{Arrival}
use Rattle.pfl_track.specs.RuleLaws.{after_all_by, after_packet_by, LowersNoLevelAlongBy, OnlyMotionBy, StaysStateAlongBy}
use Rattle.pfl_track.specs.Rules.{tracked_by}
use Rattle.pfl_track.specs.States.{IsState}
use Rattle.pfl_track.specs.Tracking.{used}
use Rattle.pfl_track.proofs.Along.{left-cases, Risen, risen, rises-on}
use Rattle.pfl_track.proofs.RuleMoving.{ends-move}
use Rattle.pfl_track.proofs.RuleRising.{lowers-none, stays-state}

module _ (kernel : Kernel) (P : State → Type 0) (Q : Arrival → Type 0) (step : (m : State) (a : Arrival) (t : State) → Q a → P m
    → tracked_by kernel m a.packet a.dir a.now ≡ Moved t → P t) where
  one : (m : State) (a : Arrival) → Q a → P m → (at : Option State) → after_packet_by kernel m a ≡ at → IfSome at P
  one m a q p None e = tt
  one m a q p (Some t) e = elim (left-cases m (tracked_by kernel m a.packet a.dir a.now) t e) [
    | inl same ↦ subst P same p
    | inr moved ↦ step m a t q p moved
  ]

  next : (at : Option State) (a : Arrival) → Q a → IfSome at P → IfSome (option_and_then (λ t. after_packet_by kernel t a) at) P
  next None a q p = tt
  next (Some m) a q p = one m a q p (after_packet_by kernel m a) refl

  kept : (at : Option State) (run : List Arrival) → All Q run → IfSome at P
      → IfSome (fold (λ at a. option_and_then (λ t. after_packet_by kernel t a) at) at run) P
  kept at [] all p = p
  kept at (a ∷ run) all p = kept (option_and_then (λ t. after_packet_by kernel t a) at) run (All-tail Q a run all) (next at a (All-head Q a run all) p)

  -- what holds of a state, and what each packet that moves it keeps, holds after all
  along-by : (s : State) (run : List Arrival) (t : State) → All Q run → P s → after_all_by kernel s run ≡ Some t → P t
  along-by s run t all p e = subst (λ (at : Option State). IfSome at P) e (kept (Some s) run all p)

risen-by : (kernel : Kernel) (s m : State) (a : Arrival) (t : State) → IsPacket a.packet → Risen s m
    → tracked_by kernel m a.packet a.dir a.now ≡ Moved t → Risen s t
risen-by kernel s m a t packet risen e = record {
  is = stays-state kernel m a.packet a.dir a.now t risen.is packet e;
  rises = rises-on s m t risen.rises (lowers-none kernel m a.packet a.dir a.now t risen.is e);
}

risen-along-by : (kernel : Kernel) (s : State) (run : List Arrival) (t : State)
    → IsState s → All (λ a. IsPacket a.packet) run → after_all_by kernel s run ≡ Some t → Risen s t
risen-along-by kernel s run t is packets e = along-by kernel (Risen s) (λ a. IsPacket a.packet) (risen-by kernel s) s run t packets (risen s is) e

pub lowers-none-along : LowersNoLevelAlongBy
lowers-none-along kernel s run t is packets e = (risen-along-by kernel s run t is packets e).rises

pub stays-state-along : StaysStateAlongBy
stays-state-along kernel s run t is packets e = (risen-along-by kernel s run t is packets e).is

-- the state is s but for what packets move of it
abbrev IsMoved : State → State → Type 0
IsMoved s t = t ≡ record s { src = t.src; dst = t.dst; class = t.class; last = t.last }

moved-once : (kernel : Kernel) (m : State) (a : Arrival) (t : State) → tracked_by kernel m a.packet a.dir a.now ≡ Moved t → IsMoved m t
moved-once kernel m a t e = elim (ends-move kernel m a.packet a.dir a.now t e) [
  | inl ends ↦ of-used ends
  | inr ends ↦ of-touched ends
]
  where
    of-used : t ≡ used m t.src t.dst a.now → IsMoved m t
    of-used e = e ∙ cc

    of-touched : t ≡ record m { src = t.src; dst = t.dst } → IsMoved m t
    of-touched e = e ∙ cc

moved-on : (kernel : Kernel) (s m : State) (a : Arrival) (t : State) → IsMoved s m → tracked_by kernel m a.packet a.dir a.now ≡ Moved t → IsMoved s t
moved-on kernel s m a t before e =
    moved-once kernel m a t e ∙ ap (λ (u : State). record u { src = t.src; dst = t.dst; class = t.class; last = t.last }) before

pub only-motion : OnlyMotionBy
only-motion kernel s run t e = along-by kernel (IsMoved s) (λ a. ⊤) (λ m a t _. moved-on kernel s m a t) s run t (λ k d lt. tt) refl e
