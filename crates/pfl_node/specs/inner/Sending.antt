-- The parts of a flush.
use Rattle.std.specs.Prelude.{IsSome, ℕ, List}
use Rattle.std.specs.List.{prefix_len, flat_map}
use Rattle.pfl_base.specs.declared.state_name.StateName.{StateName}
use Rattle.pfl_base.specs.Lists.{neighbours}
use Rattle.pfl_edits.specs.Maps as maps
use Rattle.pfl_wire.specs.declared.action.Action.{Action}
use Rattle.pfl_wire.specs.declared.message.Message.{Message}
use Rattle.pfl_wire.specs.Frames.{action_of, Frame}
use Rattle.pfl_receive.specs.queue.declared.Kind.{Kind}
use Rattle.pfl_receive.specs.queue.declared.Kind.TheVariants.{Delete}
use Rattle.pfl_receive.specs.queue.declared.Entry.{Entry}
use Rattle.pfl_receive.specs.queue.declared.Entry.TheVariants.{Marked}
use Rattle.pfl_receive.specs.queue.Taking.{entry_action, one_action}
use Rattle.pfl_receive.specs.desk.Nodes.{Node}
use Rattle.pfl_node.specs.Flushing.{messages_of}

-- what is sent of a name by the kind is there: its state, except of a deletion
abbrev pub HasState : Node → Kind → StateName → Type 0
HasState n Delete name = Unit {0}
HasState n _ name = IsSome (maps.get n.states name)

-- what is sent by the entry is there
abbrev pub IsTold : Node → Entry → Type 0
IsTold n (Marked kind number name) = HasState n kind name
IsTold n _ = Unit {0}

-- how many of the entries in front are sent by the action
abbrev pub run_of : Action → List Entry → ℕ
run_of action es = prefix_len (λ e. one_action (entry_action e) action) es

-- the groups of a frame of these entries
abbrev pub groups_of : Node → List Entry → List (List Message)
groups_of n es = neighbours (λ a b. one_action (action_of a) (action_of b)) (flat_map (messages_of n) es)

-- the frame of these entries
abbrev pub frame_with : Node → List Entry → Frame
frame_with n es = record { print = n.rules.print; groups = groups_of n es }
