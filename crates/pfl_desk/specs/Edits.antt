-- The edits of a node: each names one place, its former value and its new one (this project's profile).
use Rattle.std.specs.Prelude.{◌≡◌, ◌≤◌, ℕ, ◌+◌, List, Some}
use Rattle.std.specs.Option.{option_map}
use Rattle.pfl_base.specs.declared.state_name.StateName.{StateName}
use Rattle.pfl_base.specs.Numbers.{greatest}
use Rattle.pfl_edits.specs.Changes.{LeadsBack}
use Rattle.pfl_edits.specs.Recorders.{Recorded}
use Rattle.pfl_edits.specs.Maps as maps
use Rattle.pfl_edits.specs.Maps.{set_at}
use Rattle.pfl_track.specs.declared.motion.Motion.{Motion}
use Rattle.pfl_track.specs.Motions.{motion, with_motion}
use Rattle.pfl_table.specs.Tables.{States}
use Rattle.pfl_queue.specs.Edits as queues
use Rattle.pfl_queue.specs.declared.edits.QueueEdit.{QueueEdit}
use Rattle.pfl_queue.specs.declared.edits.QueueEdit.TheVariants.{OfMark}
use Rattle.pfl_defer.specs.Edits as deferrals
use Rattle.pfl_desk.specs.declared.counters.Counters.{Counters}
use Rattle.pfl_desk.specs.declared.edit.Counter.{Counter}
use Rattle.pfl_desk.specs.declared.edit.Counter.TheVariants.{Passed, Blocked, Freed, Lost, Bad, Stale, Broken}
use Rattle.pfl_desk.specs.declared.edit.NodeEdit.{NodeEdit}
use Rattle.pfl_desk.specs.declared.edit.NodeEdit.TheVariants.{OfState, Moved, OfQueue, OfHeld, Server, Client, Clock, NextId, Push, Count}
use Rattle.pfl_desk.specs.Nodes.{Node, IsNode}

-- a number of the counters
abbrev pub count_of : Counter → Counters → ℕ
count_of Passed c = c.passed
count_of Blocked c = c.blocked
count_of Freed c = c.freed
count_of Lost c = c.lost
count_of Bad c = c.bad
count_of Stale c = c.stale
count_of Broken c = c.broken

-- the counters with this number
abbrev pub with_count : Counter → Counters → ℕ → Counters
with_count Passed c n = record c { passed = n }
with_count Blocked c n = record c { blocked = n }
with_count Freed c n = record c { freed = n }
with_count Lost c n = record c { lost = n }
with_count Bad c n = record c { bad = n }
with_count Stale c n = record c { stale = n }
with_count Broken c n = record c { broken = n }

-- the states with the one of this name moved so, if there is one
abbrev pub moved_at : States → StateName → Motion → States
moved_at m name to = set_at m name (option_map (with_motion to) (maps.get m name))

-- A number that is put back is past the greatest only where the one in its place is: so what an event counted that was not refused
-- is undone through nodes alone.
abbrev pub Stays : ℕ → ℕ → Type 0
Stays before after = after ≤ greatest → before ≤ greatest

-- the same of the next queueing number
abbrev pub NextStays : QueueEdit → Type 0
NextStays (OfMark name before after next_before next_after) = Stays next_before next_after
NextStays _ = Unit {0}

-- the edit's new value is in its place
abbrev pub Finds : NodeEdit → Node → Type 0
Finds (OfState e) n = maps.get n.states e.name ≡ e.after
Finds (Moved e) n = option_map motion (maps.get n.states e.name) ≡ Some e.after
Finds (OfQueue e) n = queues.Finds e n.queue × NextStays e
Finds (OfHeld e) n = deferrals.Finds e n.held
Finds (Server before after) n = n.server ≡ after
Finds (Client before after) n = n.client ≡ after
Finds (Clock before after) n = n.clock ≡ after
Finds (NextId before after) n = (n.next_id ≡ after) × Stays before after
Finds (Push before after) n = n.push ≡ after
Finds (Count counter before after) n = (count_of counter n.counters ≡ after) × Stays before after

-- its former value is
abbrev pub FindsFormer : NodeEdit → Node → Type 0
FindsFormer (OfState e) n = maps.get n.states e.name ≡ e.before
FindsFormer (Moved e) n = option_map motion (maps.get n.states e.name) ≡ Some e.before
FindsFormer (OfQueue e) n = queues.FindsFormer e n.queue × NextStays e
FindsFormer (OfHeld e) n = deferrals.FindsFormer e n.held
FindsFormer (Server before after) n = n.server ≡ before
FindsFormer (Client before after) n = n.client ≡ before
FindsFormer (Clock before after) n = n.clock ≡ before
FindsFormer (NextId before after) n = (n.next_id ≡ before) × Stays before after
FindsFormer (Push before after) n = n.push ≡ before
FindsFormer (Count counter before after) n = (count_of counter n.counters ≡ before) × Stays before after

-- the node with the former value in the place
abbrev pub put_back : NodeEdit → Node → Node
put_back (OfState e) n = record n { states = set_at n.states e.name e.before }
put_back (Moved e) n = record n { states = moved_at n.states e.name e.before }
put_back (OfQueue e) n = record n { queue = queues.put_back e n.queue }
put_back (OfHeld e) n = record n { held = deferrals.put_back e n.held }
put_back (Server before after) n = record n { server = before }
put_back (Client before after) n = record n { client = before }
put_back (Clock before after) n = record n { clock = before }
put_back (NextId before after) n = record n { next_id = before }
put_back (Push before after) n = record n { push = before }
put_back (Count counter before after) n = record n { counters = with_count counter n.counters before }

-- the node with the new value in the place
abbrev pub redone : NodeEdit → Node → Node
redone (OfState e) n = record n { states = set_at n.states e.name e.after }
redone (Moved e) n = record n { states = moved_at n.states e.name e.after }
redone (OfQueue e) n = record n { queue = queues.redone e n.queue }
redone (OfHeld e) n = record n { held = deferrals.redone e n.held }
redone (Server before after) n = record n { server = after }
redone (Client before after) n = record n { client = after }
redone (Clock before after) n = record n { clock = after }
redone (NextId before after) n = record n { next_id = after }
redone (Push before after) n = record n { push = after }
redone (Count counter before after) n = record n { counters = with_count counter n.counters after }

-- the edits, the oldest first, lead from one node to another and back
abbrev pub NodeLeadsBack : List NodeEdit → Node → Node → Type 0
NodeLeadsBack = LeadsBack Finds IsNode put_back

-- at most so many edits, which lead a node back, were recorded, each as the edit of a whole that `of` says
abbrev pub NodeRecorded : {W : Type 0} → (NodeEdit → W) → ℕ → Node → Node → List W → List W → Type 0
NodeRecorded of = Recorded Finds IsNode put_back of

-- all that a node counts, added up
unfoldable pub total : Node → ℕ
total n = n.next_id + n.queue.next + n.counters.passed + n.counters.blocked + n.counters.freed + n.counters.lost + n.counters.bad +
    n.counters.stale + n.counters.broken
