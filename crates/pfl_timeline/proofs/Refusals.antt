-- Why an event is refused, by its step.
use Rattle.std.specs.Prelude.{◌≡◌, ◌≢◌, Result, Ok, Err}
use Rattle.std.proofs.Common.{sym, ap}
use Rattle.pfl_base.specs.declared.refusal.Refusal.{Refusal}
use Rattle.pfl_base.specs.declared.refusal.Refusal.TheVariants.{NoMemory}
use Rattle.pfl_language.specs.declared.event.Event.{Event}
use Rattle.pfl_search.specs.world.Events.{step, IsRefusalOf, IsEventRefusal}
use Rattle.pfl_search.specs.world.Meanings.{Stepped}
use Rattle.pfl_search.specs.world.Worlds.{World}

-- a refusal that is no want of memory is the step's
the-first : (at : Result Stepped Refusal) (why : Refusal) → IsRefusalOf at why → why ≢ NoMemory → at ≡ Err why
the-first (Ok s) why is other = absurd (other is)
the-first (Err first) why is other = ap Err (sym is)

pub refusal_is : (w : World) (e : Event) (why : Refusal) → IsEventRefusal w e why → why ≢ NoMemory → step w e ≡ Err why
refusal_is w e why is other = the-first (step w e) why is other
