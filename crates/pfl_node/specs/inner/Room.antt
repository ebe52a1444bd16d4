-- The room that a node keeps for the edits of an event (this project's profile).
use Rattle.std.specs.Prelude.{ℕ, ◌+◌, ◌*◌, max, ◌≡◌, []}
use Rattle.pfl_edits.specs.Changes.{Edits}
use Rattle.pfl_language.specs.declared.limits.Limits.{Limits}
use Rattle.pfl_receive.specs.desk.declared.edit.NodeEdit.{NodeEdit}
use Rattle.pfl_receive.specs.inner.Delivering.{frame_room}
use Rattle.pfl_node.specs.Weights.{packet_edits}

-- How many edits an event records at most: five for each state, two for each entry that is pending, and those of a packet; or those
-- of the longest frame, one for each four of its bytes, and eight, beside four for each state; or three for each held packet that goes out.
abbrev pub most_edits : Limits → ℕ
most_edits l = max (5 * l.states + 2 * l.queue + packet_edits) (max (frame_room l.states l.mtu) (3 * l.held))

-- between events nothing is recorded, and there is room for all that one records
pub record IsReady (l : Limits) (edits : Edits NodeEdit) : Type 0 where
  pub none : edits.list ≡ []
  pub room : edits.spare ≡ most_edits l
