-- What a packet keeps, packets keep that come one after the other.
use Rattle.std.specs.Prelude.{◌≡◌, ◌⊎◌, ⊤, ℕ, Option, Some, None, List, [], ◌∷◌, All, IfSome, fold, option_and_then, refl}
use Rattle.std.proofs.Common.{arith, inl, inr, ◌∙◌, ap, sym, subst}
use Rattle.std.proofs.lemmas.List.Elements.{All-head, All-tail}
use Rattle.pfl_base.specs.Packets.{IsPacket}
use Rattle.pfl_track.specs.declared.state.State.{State}
use Rattle.pfl_track.specs.declared.tracked.Tracked.{Tracked}
use Rattle.pfl_track.specs.declared.tracked.Tracked.TheVariants.{Moved, OutOfWindow, Reused}
use Rattle.pfl_track.specs.States.{IsState}
use Rattle.pfl_track.specs.Tracking.{used, tracked}
use Rattle.pfl_track.specs.Laws.{Arrival, left_of, after_packet, after_all, RisesInRange}
use Rattle.pfl_track.proofs.Keeping.{tracked-is}
use Rattle.pfl_track.proofs.Moving.{tracked-used}
use Rattle.pfl_track.proofs.Rising.{tracked-rises}

-- a packet that leaves a state leaves the same, or has moved it
pub left-cases : (m : State) (r : Tracked) (t : State) → left_of m r ≡ Some t → (m ≡ t) ⊎ (r ≡ Moved t)
left-cases m (Moved u) t e = let same : u ≡ t = cc in inr (ap (λ (v : State). Moved v) same)
left-cases m OutOfWindow t e = let same : m ≡ t = cc in inl same
left-cases m Reused t e = cc

module _ (P : State → Type 0) (Q : Arrival → Type 0) (step : (m : State) (a : Arrival) (t : State) → Q a → P m
    → tracked m a.packet a.dir a.now ≡ Moved t → P t) where
  one : (m : State) (a : Arrival) → Q a → P m → (at : Option State) → after_packet m a ≡ at → IfSome at P
  one m a q p None e = tt
  one m a q p (Some t) e = elim (left-cases m (tracked m a.packet a.dir a.now) t e) [
    | inl same ↦ subst P same p
    | inr moved ↦ step m a t q p moved
  ]

  next : (at : Option State) (a : Arrival) → Q a → IfSome at P → IfSome (option_and_then (λ t. after_packet t a) at) P
  next None a q p = tt
  next (Some m) a q p = one m a q p (after_packet m a) refl

  kept : (at : Option State) (run : List Arrival) → All Q run → IfSome at P → IfSome (fold (λ at a. option_and_then (λ t. after_packet t a) at) at run) P
  kept at [] all p = p
  kept at (a ∷ run) all p = kept (option_and_then (λ t. after_packet t a) at) run (All-tail Q a run all) (next at a (All-head Q a run all) p)

  -- what holds of a state, and what each packet that moves it keeps, holds after all
  along : (s : State) (run : List Arrival) (t : State) → All Q run → P s → after_all s run ≡ Some t → P t
  along s run t all p e = subst (λ (at : Option State). IfSome at P) e (kept (Some s) run all p)

-- a state whose levels have risen from those of s
pub record Risen (s t : State) : Type 0 where
  pub is : IsState t
  pub rises : RisesInRange s t

pub rises-on : (s m t : State) → RisesInRange s m → RisesInRange m t → RisesInRange s t
rises-on s m t h k = let src = h.src in let dst = h.dst in let src_on = k.src in let dst_on = k.dst in
    record { src = omega arith; dst = omega arith; src_most = k.src_most; dst_most = k.dst_most }

risen-on : (s m : State) (a : Arrival) (t : State) → IsPacket a.packet → Risen s m → tracked m a.packet a.dir a.now ≡ Moved t → Risen s t
risen-on s m a t packet risen e = record {
  is = tracked-is m a.packet a.dir a.now t risen.is packet e;
  rises = rises-on s m t risen.rises (tracked-rises m a.packet a.dir a.now t risen.is e);
}

pub risen : (s : State) → IsState s → Risen s s
risen s is = record { is = is; rises = record { src = omega arith; dst = omega arith; src_most = is.src.level; dst_most = is.dst.level } }

risen-along : (s : State) (run : List Arrival) (t : State) → IsState s → All (λ a. IsPacket a.packet) run → after_all s run ≡ Some t → Risen s t
risen-along s run t is packets e = along (Risen s) (λ a. IsPacket a.packet) (risen-on s) s run t packets (risen s is) e

pub levels-along : (s : State) (run : List Arrival) (t : State) → IsState s → All (λ a. IsPacket a.packet) run → after_all s run ≡ Some t → RisesInRange s t
levels-along s run t is packets e = (risen-along s run t is packets e).rises

pub states-along : (s : State) (run : List Arrival) (t : State) → IsState s → All (λ a. IsPacket a.packet) run → after_all s run ≡ Some t → IsState t
states-along s run t is packets e = (risen-along s run t is packets e).is

-- the state is s, or s with its own ends, used at its own time
abbrev IsUsedOrSame : State → State → Type 0
IsUsedOrSame s t = (t ≡ s) ⊎ (t ≡ used s t.src t.dst t.last)

last-is : (m : State) (now : ℕ) (t : State) → t ≡ used m t.src t.dst now → now ≡ t.last
last-is m now t e = sym (ap (λ (u : State). u.last) e)

ends-on : (s m : State) (a : Arrival) (t : State) → IsUsedOrSame s m → tracked m a.packet a.dir a.now ≡ Moved t → IsUsedOrSame s t
ends-on s m a t before e =
    let moved = tracked-used m a.packet a.dir a.now t e in
    let from_s : t ≡ used s t.src t.dst a.now = elim before [
      | inl same ↦ moved ∙ ap (λ (u : State). used u t.src t.dst a.now) same
      | inr ends ↦ moved ∙ ap (λ (u : State). used u t.src t.dst a.now) ends
    ] in
    inr (subst (λ (n : ℕ). t ≡ used s t.src t.dst n) (last-is m a.now t moved) from_s)

pub ends-along : (s : State) (run : List Arrival) (t : State) → after_all s run ≡ Some t → (t ≡ s) ⊎ (t ≡ used s t.src t.dst t.last)
ends-along s run t e = along (IsUsedOrSame s) (λ a. ⊤) (λ m a t _. ends-on s m a t) s run t (λ k d lt. tt) (inl refl) e
