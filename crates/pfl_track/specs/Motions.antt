-- What packets move of states: the name, the keys, the direction, the rule and `no_sync` stay, and so does what the peer does to a
-- state (pf.c; that it is kept apart is this project's profile).
use Rattle.pfl_track.specs.declared.motion.Motion.{Motion}
use Rattle.pfl_track.specs.declared.state.State.{State}

-- what packets move of the state
abbrev pub motion : State → Motion
motion s = record { src = s.src; dst = s.dst; class = s.class; last = s.last; updates = s.updates }

-- the state moved so
abbrev pub with_motion : Motion → State → State
with_motion m s = record s { src = m.src; dst = m.dst; class = m.class; last = m.last; updates = m.updates }
