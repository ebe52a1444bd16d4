-- What the edits of the pair hold: the former value of the place and its new one, taken apart into what nodes and links are made
-- of (this project's profile).
use Rattle.std.specs.Prelude.{◌≡◌, ℕ, ◌+◌, Bool, true, false, List, [], ◌∷◌, ◌++◌, map, Option}
use Rattle.std.specs.Option.{option_to_list}
use Rattle.pfl_base.specs.declared.state_name.StateName.{StateName}
use Rattle.pfl_node.specs.track.declared.motion.Motion.{Motion}
use Rattle.pfl_node.specs.track.declared.state.State.{State}
use Rattle.pfl_wire.specs.declared.message.BulkStatus.{BulkStatus}
use Rattle.pfl_node.specs.queue.declared.Cleared.{Cleared}
use Rattle.pfl_node.specs.queue.declared.Mark.{Mark}
use Rattle.pfl_node.specs.queue.declared.edits.QueueEdit.{QueueEdit}
use Rattle.pfl_node.specs.queue.declared.edits.QueueEdit.TheVariants.{OfMark, OfName, OfRequest, OfStatus, OfClear}
use Rattle.pfl_node.specs.defer.declared.Held.{Held}
use Rattle.pfl_node.specs.defer.Edits as deferrals
use Rattle.pfl_node.specs.bulk.declared.BulkClient.{BulkClient}
use Rattle.pfl_node.specs.bulk.declared.BulkServer.{BulkServer}
use Rattle.pfl_language.specs.declared.event.Event.{Event}
use Rattle.pfl_language.specs.declared.event.Event.TheVariants as event
use Rattle.pfl_node.specs.desk.declared.edit.NodeEdit.{NodeEdit}
use Rattle.pfl_node.specs.desk.declared.edit.NodeEdit.TheVariants.{OfState, Moved, OfQueue, OfHeld, Server, Client, Clock, NextId, Push, Count}
use Rattle.pfl_node.specs.desk.Nodes.{Node}
use Rattle.pfl_node.specs.Events.{restarted}
use Rattle.pfl_link.specs.declared.change.LinkChange.{LinkChange}
use Rattle.pfl_link.specs.declared.change.LinkChange.TheVariants.{Sent, Taken, Cut}
use Rattle.pfl_link.specs.LinkEdits.{frame_before, frame_after}
use Rattle.pfl_link.specs.Links.{InFlight}
use Rattle.pfl_world.specs.declared.edit.WorldEdit.{WorldEdit}
use Rattle.pfl_world.specs.declared.edit.WorldEdit.TheVariants.{OfNode, OfLink, OfRestart}
use Rattle.pfl_world.specs.Restarts.{RestartEdit}

-- a thing that values are made of; a mark, a request, a status and a clear are entries of the queues
pub data Thing : Type 0 where
  AState : State → Thing
  AMotion : Motion → Thing
  AMark : Mark → Thing
  ARequest : StateName → Thing
  AStatus : BulkStatus → Thing
  AClear : Cleared → Thing
  APacket : Held → Thing
  AFrame : InFlight → Thing
  AServer : BulkServer → Thing
  AClient : BulkClient → Thing
  ANumber : ℕ → Thing
  AFlag : Bool → Thing
  ANode : Node → Thing

-- the two values of an edit's place
pub record Values : Type 0 where
  pub former : List Thing
  pub present : List Thing

-- what may be absent
abbrev pub things : {X : Type 0} → (X → Thing) → Option X → List Thing
things thing x = map thing (option_to_list x)

-- two values that may each be absent
abbrev pub either : {X : Type 0} → (X → Thing) → Option X → Option X → Values
either thing before after = record { former = things thing before; present = things thing after }

-- two values that are always there
abbrev pub both : {X : Type 0} → (X → Thing) → X → X → Values
both thing before after = record { former = thing before ∷ []; present = thing after ∷ [] }

-- of an edit of the queues; a mark that is set has the next number beside it
abbrev pub queue_values : QueueEdit → Values
queue_values (OfMark name before after next_before next_after) =
    record { former = things AMark before ++ ANumber next_before ∷ []; present = things AMark after ++ ANumber next_after ∷ [] }
queue_values (OfName name before after) = either AMark before after
queue_values (OfRequest position before after) = either ARequest before after
queue_values (OfStatus position before after) = either AStatus before after
queue_values (OfClear position before after) = either AClear before after

-- of an edit of a node
abbrev pub node_values : NodeEdit → Values
node_values (OfState e) = either AState e.before e.after
node_values (Moved e) = both AMotion e.before e.after
node_values (OfQueue e) = queue_values e
node_values (OfHeld e) = either APacket (deferrals.former e) (deferrals.present e)
node_values (Server before after) = both AServer before after
node_values (Client before after) = both AClient before after
node_values (Clock before after) = both ANumber before after
node_values (NextId before after) = both ANumber before after
node_values (Push before after) = both AFlag before after
node_values (Count counter before after) = both ANumber before after

-- of an edit of the link; a frame that is sent has the next ticket beside it
abbrev pub link_values : LinkChange → ℕ → InFlight → Values
link_values Sent ticket f = record { former = ANumber ticket ∷ []; present = AFrame f ∷ ANumber (ticket + 1) ∷ [] }
link_values Taken ticket f = either AFrame (frame_before Taken f) (frame_after Taken f)
link_values (Cut n) ticket f = either AFrame (frame_before (Cut n) f) (frame_after (Cut n) f)

-- of the edit of a restart: the node, and the number of the next boot beside it
abbrev pub restart_values : RestartEdit → Values
restart_values e = record { former = ANode e.former ∷ ANumber e.boot ∷ []; present = ANode (restarted e.former e.boot) ∷ ANumber (e.boot + 1) ∷ [] }

-- of an edit of the pair
abbrev pub edit_values : {M : Type 0} → WorldEdit M → Values
edit_values (OfNode id e) = node_values e
edit_values (OfLink e) = link_values e.change e.ticket e.frame
edit_values (OfRestart e) = restart_values e

-- an entry or a frame, and the next number beside it
abbrev pub is_numbered : Thing → List Thing → Bool
is_numbered (AMark m) (ANumber n ∷ []) = true
is_numbered (AFrame f) (ANumber n ∷ []) = true
is_numbered _ _ = false

-- not a whole node
abbrev pub is_part : Thing → Bool
is_part (ANode n) = false
is_part _ = true

-- one thing at most, but for the number beside it, and never a whole node
abbrev pub is_small : List Thing → Bool
is_small [] = true
is_small (t ∷ []) = is_part t
is_small (t ∷ u ∷ rest) = is_numbered t (u ∷ rest)

-- a whole node, and a number beside it
abbrev pub is_whole : List Thing → Bool
is_whole (ANode n ∷ ANumber boot ∷ []) = true
is_whole _ = false

-- both values of the edit are small
pub record HoldsLittle {M : Type 0} (e : WorldEdit M) : Type 0 where
  pub former : is_small (edit_values e).former ≡ true
  pub present : is_small (edit_values e).present ≡ true

-- both values of the edit are a node with the next boot
pub record HoldsNode {M : Type 0} (e : WorldEdit M) : Type 0 where
  pub former : is_whole (edit_values e).former ≡ true
  pub present : is_whole (edit_values e).present ≡ true

-- what an edit of an event holds: a restart's a whole node, that of every other event little
abbrev pub MayHold : {M : Type 0} → Event → WorldEdit M → Type 0
MayHold (event.Restart id) e = HoldsNode e
MayHold _ e = HoldsLittle e
