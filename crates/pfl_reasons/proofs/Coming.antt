-- What comes of an event, and its explanation, by what its step gives.
use Rattle.std.specs.Prelude.{◌≡◌, ◌≢◌, IsOk, Result, Ok, Err, refl}
use Rattle.std.proofs.Common.{ap, subst, sym}
use Rattle.pfl_base.specs.declared.refusal.Refusal.{Refusal}
use Rattle.pfl_base.specs.declared.refusal.Refusal.TheVariants.{NoMemory}
use Rattle.pfl_language.specs.declared.event.Event.{Event}
use Rattle.pfl_world.specs.Events.{IsEventRefusal, IsRefusalOf, step}
use Rattle.pfl_world.specs.Meanings.{Stepped}
use Rattle.pfl_world.specs.Worlds.{World}
use Rattle.pfl_reasons.specs.Against.{StandsAgainst, against}
use Rattle.pfl_reasons.specs.Explaining.{Stopped, came_of, explained, explained_by, explained_outcome}
use Rattle.pfl_reasons.proofs.Refusing.{numbers-stand}

pub explained-ok : (w : World) (e : Event) (s : Stepped) → step w e ≡ Ok s → explained_outcome w e ≡ explained w e
unfolding explained
explained-ok w e s is = sym (ap (explained_by w e) is)

-- of one that is refused
pub came-err : (w : World) (e : Event) (why : Refusal) → step w e ≡ Err why → Err why ≡ came_of (step w e)
came-err w e why is = sym (ap came_of is)

pub explained-err : (w : World) (e : Event) (why : Refusal) → step w e ≡ Err why → Stopped (against w e why) ≡ explained w e
unfolding explained
explained-err w e why is = sym (ap (explained_by w e) is)

-- what is refused, and not for want of memory, is refused by its step
pub refused-by : (w : World) (e : Event) (why : Refusal) → IsEventRefusal w e why → why ≢ NoMemory → step w e ≡ Err why
refused-by w e why is not = by (step w e) is
  where
    by : (r : Result Stepped Refusal) → IsRefusalOf r why → r ≡ Err why
    by (Ok s) is = absurd (not is)
    by (Err first) is = ap Err (sym is)

no_memory : (w : World) (e : Event) → StandsAgainst w e (against w e NoMemory) NoMemory → ⊥
unfolding against
no_memory w e stands = stands

-- memory is wanting for an event that is accepted alone, since no step is refused for it
pub accepted-by : (w : World) (e : Event) → IsEventRefusal w e NoMemory → IsOk (step w e)
accepted-by w e is = by (step w e) refl is
  where
    by : (r : Result Stepped Refusal) → step w e ≡ r → IsRefusalOf r NoMemory → IsOk r
    by (Ok s) at is = refl
    by (Err first) at is = absurd (no_memory w e (subst (λ (why : Refusal). StandsAgainst w e (against w e why) why) (sym is) (numbers-stand w e first at)))
