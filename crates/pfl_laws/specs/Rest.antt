-- What two copies of a state come to, where one node sends its copy, and whoever finds an end of what comes stale answers with what it
-- then has (this project's profile, and the rule of `merge` in its place: if_pfsync.c, as far as we know it).
use Rattle.std.specs.Prelude.{◌≡◌, ◌≤◌, ◌<◌, ◌^◌, ℕ, zero, suc, Bool, true, false, ◌&&◌, ◌||◌}
use Rattle.pfl_base.specs.declared.kernel.Kernel.{Kernel}
use Rattle.pfl_base.specs.Packets.{is_tcp}
use Rattle.pfl_base.specs.Sequence.{seq_gt}
use Rattle.pfl_world.specs.track.declared.state.State.{State}
use Rattle.pfl_world.specs.track.Levels.{syn_sent}
use Rattle.pfl_world.specs.merge.declared.received.Received.{Received}
use Rattle.pfl_world.specs.merge.declared.merged.Merged.{Merged}
use Rattle.pfl_world.specs.merge.Merging.{merged, stale_dst}

-- ---- messages

-- what an update says of a copy, with so many seconds left of it: both ends as they are
abbrev pub said : State → ℕ → Received
said s remaining = record { src = s.src; dst = s.dst; class = s.class; remaining = remaining }

-- how an update comes: the seconds that are left of the copy, the timeout of the state at the receiver, and the time there
pub record Coming : Type 0 where
  pub remaining : ℕ
  pub timeout : ℕ
  pub now : ℕ

-- what the receiver's copy becomes by an update of the sender's, and which of its ends were stale
abbrev pub updated : Kernel → State → State → Coming → Merged
updated k sender receiver c = merged k receiver (said sender c.remaining) c.timeout c.now

-- an end was stale: the receiver answers with what it has then
abbrev pub is_answered : Merged → Bool
is_answered m = m.stale_src || m.stale_dst

-- ---- rest

-- two copies of one state: they have one protocol, and their numbers are of 32 bits
pub record AreCopies (s t : State) : Type 0 where
  pub proto : t.wire.proto ≡ s.wire.proto
  pub s_src : s.src.lo < 2 ^ 32
  pub s_dst : s.dst.lo < 2 ^ 32
  pub t_src : t.src.lo < 2 ^ 32
  pub t_dst : t.dst.lo < 2 ^ 32

-- both ends of one are those of the other
pub record SameEnds (s t : State) : Type 0 where
  pub src : s.src ≡ t.src
  pub dst : s.dst ≡ t.dst

-- of so many messages, the first of which sends s to t and each other one answers the one before it, one is not answered, and then both
-- copies have the same ends; whatever time they take
abbrev pub RestWithin : Kernel → ℕ → State → State → Type 0
RestWithin k zero s t = ⊥
RestWithin k (suc more) s t = (c : Coming) → (is_answered (updated k s t c) ≡ false → SameEnds s (updated k s t c).state)
    × (is_answered (updated k s t c) ≡ true → RestWithin k more (updated k s t c).state s)

-- each of so many messages, the first of which sends s to t, is answered, and changes no destination; whatever time they take
abbrev pub GoOnFor : Kernel → ℕ → State → State → Type 0
GoOnFor k zero s t = Unit {0}
GoOnFor k (suc more) s t = (c : Coming) → (is_answered (updated k s t c) ≡ true) × ((updated k s t c).state.dst ≡ t.dst)
    × GoOnFor k more (updated k s t c).state s

-- each finds the destination of the other stale
abbrev pub are_crossed : State → State → Bool
are_crossed s t = stale_dst s (said t 0) && stale_dst t (said s 0)

-- with `merge` two copies come to rest after three messages at most, whatever each has that the other has not
abbrev pub CopiesComeToRest : Type 0
CopiesComeToRest = (k : Kernel) (s t : State) → k.merge ≡ true → AreCopies s t → RestWithin k 3 s t

-- without it they do after two, unless each finds the destination of the other stale
abbrev pub OthersComeToRest : Type 0
OthersComeToRest = (k : Kernel) (s t : State) → k.merge ≡ false → AreCopies s t → are_crossed s t ≡ false → RestWithin k 2 s t

-- those are answered without end, and each keeps its own destination
abbrev pub CrossedGoOn : Type 0
CrossedGoOn = (k : Kernel) (s t : State) (messages : ℕ) → k.merge ≡ false → are_crossed s t ≡ true → GoOnFor k messages s t

-- so it is of TCP where one is ahead in the level of the destination, and the other, at which that end has begun, in its number
abbrev pub LevelAndNumberCross : Type 0
LevelAndNumberCross = (s t : State) → AreCopies s t → is_tcp s.wire.proto ≡ true → t.dst.level < s.dst.level → syn_sent ≤ t.dst.level
    → seq_gt t.dst.lo s.dst.lo ≡ true → are_crossed s t ≡ true
