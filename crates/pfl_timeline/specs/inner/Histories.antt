-- A history while another one is made of it.
use Rattle.std.specs.Prelude.{◌≡◌, ℕ, Bool, true, false, length, map, take, Some, Result, Ok, Err}
use Rattle.pfl_base.specs.declared.refusal.Refusal.{Refusal}
use Rattle.pfl_language.specs.declared.event.Event.{Event}
use Rattle.pfl_search.specs.world.Events.{step}
use Rattle.pfl_search.specs.world.Meanings.{Stepped}
use Rattle.pfl_search.specs.world.Worlds.{World}
use Rattle.pfl_timeline.specs.Excisions.{Sieved}
use Rattle.pfl_timeline.specs.Histories.{History, reached, continued}

-- the history with this many events standing
abbrev pub standing_at : History → ℕ → History
standing_at h cursor = record h { cursor = cursor }

-- its first events, all of which stand
abbrev pub first_of : History → ℕ → History
first_of h k = record h { events = take k h.events; cursor = k }

-- the event is kept after those that stand, or it is refused and falls out
abbrev pub SiftedBy : History → Event → History → Bool → Result Stepped Refusal → Type 0
SiftedBy old e new kept (Ok s) = (kept ≡ true) × (new ≡ continued old e)
SiftedBy old e new kept (Err why) = (kept ≡ false) × (new ≡ old)

-- so it is where it happens
abbrev pub Sifts : History → Event → History → Bool → Type 0
Sifts old e new kept = (w : World) × (reached old ≡ Some w) × SiftedBy old e new kept (step w e)

-- the history of what has happened so far, all of which stands
abbrev pub so_far : World → Sieved → History
so_far opening s = record { opening = opening; events = map (λ p. p.event) s.kept; cursor = length s.kept }
