-- A frame comes to a node, or one record by itself (if_pfsync.c; what refuses it is this project's profile). What records do stands in
-- pfl_receive.
use Rattle.std.specs.Prelude.{ℕ, ◌*◌, ◌+◌, ◌==◌, Bool, List, [], ◌∷◌, Option}
use Rattle.std.specs.Cmp.Lexicographic.{pointwise}
use Rattle.pfl_base.specs.declared.refusal.Refusal.{Refusal}
use Rattle.pfl_wire.specs.declared.message.Message.{Message}
use Rattle.pfl_wire.specs.Frames.{Frame}
use Rattle.pfl_receive.specs.desk.Changes.{count_broken}
use Rattle.pfl_receive.specs.desk.Nodes.{Node, points_refusal}
use Rattle.pfl_receive.specs.desk.Weights.{forgotten_edits}
use Rattle.pfl_receive.specs.Delivering.{receive_points, work_edits, frame_work, record_edits, cleared_by}
use Rattle.pfl_receive.specs.Receiving.{taken}

-- ---- a frame

-- each record of a frame can be taken
abbrev pub receive_refusal : Node → Frame → Option Refusal
receive_refusal n f = points_refusal (receive_points n f)

-- a frame that cannot be read can be counted
abbrev pub broken_refusal : Node → Option Refusal
broken_refusal n = points_refusal (count_broken n ∷ [])

-- a frame takes at most this many edits
abbrev pub frame_edits : Node → Frame → ℕ
frame_edits n f = work_edits * frame_work n f

-- ---- one record

-- the node's rules have the checksum
abbrev pub has_print : Node → List ℕ → Bool
has_print n print = pointwise ◌==◌ print n.rules.print

-- the node after one record of a peer whose rules have this checksum
abbrev pub message_taken : Node → Message → List ℕ → Node
message_taken n m print = taken n (has_print n print) m

-- why one record is refused: after it too much would be pending, or a number too high
abbrev pub message_refusal : Node → Message → List ℕ → Option Refusal
message_refusal n m print = points_refusal (message_taken n m print ∷ [])

-- one record takes at most this many edits
abbrev pub message_edits : Node → Message → ℕ
message_edits n m = record_edits + forgotten_edits * cleared_by n m
