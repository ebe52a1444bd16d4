-- How the records of a frame are carried out.
use Rattle.std.specs.Prelude.{ℕ, ◌≤◌, ◌+◌, ◌*◌, ◌/◌, List}
use Rattle.std.specs.List.{sum_by}
use Rattle.pfl_edits.specs.Maps as maps
use Rattle.pfl_wire.specs.declared.message.Message.{Message}
use Rattle.pfl_wire.specs.Actions.{record_len}
use Rattle.pfl_wire.specs.Frames.{action_of}
use Rattle.pfl_desk.specs.Drafts.{Draft}
use Rattle.pfl_desk.specs.Weights.{forgotten_edits}
use Rattle.pfl_receive.specs.Delivering.{record_edits}

-- a record pays for this many edits: for one by each four of its bytes
abbrev pub paid_edits : Message → ℕ
paid_edits m = record_len (action_of m) / 4

-- records pay for this many edits
abbrev pub paid_by : List Message → ℕ
paid_by messages = sum_by paid_edits messages

-- What was recorded is paid by this many edits, and by four for each state that was taken out: so a clear, which takes out states that
-- records before it brought, is paid by those.
abbrev pub IsPaid : ℕ → Draft → Draft → Type 0
IsPaid edits d e = 4 * maps.len e.node.states + d.edits.spare ≤ 4 * maps.len d.node.states + edits + e.edits.spare

-- the room for records that pay for this many edits, at a node with this many states: that of one record is left till the last
abbrev pub records_room : ℕ → ℕ → ℕ
records_room states edits = forgotten_edits * states + edits + record_edits

-- the room for the records of a frame of this many bytes
abbrev pub frame_room : ℕ → ℕ → ℕ
frame_room states bytes = records_room states (bytes / 4)
