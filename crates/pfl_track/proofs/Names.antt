-- What tracking leaves alone: the name, the keys and the direction of a state.
use Rattle.std.specs.Prelude.{◌≡◌}
use Rattle.pfl_track.specs.declared.state.State.{State}
use Rattle.pfl_track.specs.declared.tracked.Tracked.{Tracked}
use Rattle.pfl_track.specs.declared.tracked.Tracked.TheVariants.{Moved, OutOfWindow, Reused}

-- name, keys and direction are those of before
pub record Same (s t : State) : Type 0 where
  pub name : t.name ≡ s.name
  pub wire : t.wire ≡ s.wire
  pub stack : t.stack ≡ s.stack
  pub direction : t.direction ≡ s.direction

-- where the state moves, it stays the same
abbrev pub Stays : State → Tracked → Type 0
Stays s (Moved t) = Same s t
Stays s OutOfWindow = Unit {0}
Stays s Reused = Unit {0}
