-- What packets never do to states, in their own words (pf.c).
use Rattle.std.specs.Prelude.{◌≡◌, ◌≤◌, ◌⊎◌, ℕ, Bool, Option, Some, None, List, All, fold, option_and_then}
use Rattle.pfl_base.specs.declared.direction.Dir.{Dir}
use Rattle.pfl_base.specs.declared.flow.Key.{Key}
use Rattle.pfl_base.specs.declared.packet.Packet.{Packet}
use Rattle.pfl_base.specs.declared.state_name.StateName.{StateName}
use Rattle.pfl_base.specs.Packets.{IsPacket}
use Rattle.pfl_track.specs.declared.state.State.{State}
use Rattle.pfl_track.specs.declared.tracked.Tracked.{Tracked}
use Rattle.pfl_track.specs.declared.tracked.Tracked.TheVariants.{Moved, OutOfWindow, Reused}
use Rattle.pfl_track.specs.Keys.{AreKeys}
use Rattle.pfl_track.specs.States.{IsState}
use Rattle.pfl_track.specs.Tracking.{start_state, tracked, used}

-- a packet of a state's flow, its way, and the time at which it comes
pub record Arrival : Type 0 where
  pub packet : Packet
  pub dir : Dir
  pub now : ℕ

-- what a packet leaves of a state: one outside the window changes nothing, and a new connection over a closed one ends it
abbrev pub left_of : State → Tracked → Option State
left_of s (Moved t) = Some t
left_of s OutOfWindow = Some s
left_of s Reused = None

-- the state after a packet
abbrev pub after_packet : State → Arrival → Option State
after_packet s a = left_of s (tracked s a.packet a.dir a.now)

-- the state after packets that come one after the other, unless one of them ended it
abbrev pub after_all : State → List Arrival → Option State
after_all s run = fold (λ at a. option_and_then (λ t. after_packet t a) at) (Some s) run

-- both ends have at least their former levels, and at most that of TIME-WAIT
pub record RisesInRange (s t : State) : Type 0 where
  pub src : s.src.level ≤ t.src.level
  pub dst : s.dst.level ≤ t.dst.level
  pub src_most : t.src.level ≤ 10
  pub dst_most : t.dst.level ≤ 10

-- a packet lowers no level
abbrev pub PacketsLowerNoLevel : Type 0
PacketsLowerNoLevel = (s : State) (p : Packet) (dir : Dir) (now : ℕ) (t : State) → IsState s → tracked s p dir now ≡ Moved t → RisesInRange s t

-- nor do packets, one after the other
abbrev pub PacketsLowerNoLevelAlong : Type 0
PacketsLowerNoLevelAlong =
    (s : State) (run : List Arrival) (t : State) → IsState s → All (λ a. IsPacket a.packet) run → after_all s run ≡ Some t → RisesInRange s t

-- a packet changes the ends, the class that follows from their levels, and the last use, and leaves the rest: name, keys and all
abbrev pub OnlyEndsMove : Type 0
OnlyEndsMove = (s : State) (p : Packet) (dir : Dir) (now : ℕ) (t : State) → tracked s p dir now ≡ Moved t → t ≡ used s t.src t.dst now

-- after packets the state is the same, or has other ends, the class that follows from their levels, and another last use
abbrev pub OnlyEndsMoveAlong : Type 0
OnlyEndsMoveAlong = (s : State) (run : List Arrival) (t : State) → after_all s run ≡ Some t → (t ≡ s) ⊎ (t ≡ used s t.src t.dst t.last)

-- what a packet begins is a state
abbrev pub StatesBegin : Type 0
StatesBegin = (name : StateName) (wire stack : Key) (dir : Dir) (p : Packet) (rule : Option ℕ) (no_sync : Bool) (now : ℕ)
    → AreKeys wire stack → IsPacket p → IsState (start_state name wire stack dir p rule no_sync now)

-- what a packet makes of a state is a state
abbrev pub StatesStayStates : Type 0
StatesStayStates = (s : State) (p : Packet) (dir : Dir) (now : ℕ) (t : State) → IsState s → IsPacket p → tracked s p dir now ≡ Moved t → IsState t

-- what packets make of it, one after the other, is a state
abbrev pub StatesStayStatesAlong : Type 0
StatesStayStatesAlong = (s : State) (run : List Arrival) (t : State) → IsState s → All (λ a. IsPacket a.packet) run → after_all s run ≡ Some t → IsState t
