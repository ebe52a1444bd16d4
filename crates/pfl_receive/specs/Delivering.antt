-- What the records of a frame do to a node, one after another, and how many edits they take (if_pfsync.c; that a frame is taken
-- whole or not at all is this project's profile).
use Rattle.std.specs.Prelude.{ℕ, ◌+◌, ◌==◌, Bool, List, ◌∷◌, length}
use Rattle.std.specs.List.{fold, zip, sum_by}
use Rattle.std.specs.Cmp.Lexicographic.{pointwise}
use Rattle.pfl_base.specs.Lists.{folds}
use Rattle.pfl_wire.specs.declared.message.Message.{Message}
use Rattle.pfl_wire.specs.declared.message.Message.TheVariants as message
use Rattle.pfl_wire.specs.Frames.{Frame, records_of}
use Rattle.pfl_desk.specs.Nodes.{Node}
use Rattle.pfl_desk.specs.Weights.{forgotten_edits}
use Rattle.pfl_receive.specs.Receiving.{taken, cleared_names, clear_bound}

-- ---- records

-- the node after each of the records
abbrev pub taken_points : Node → Bool → List Message → List Node
taken_points n same_rules messages = folds (λ m r. taken m same_rules r) n messages

-- the states that a clear removes
unfoldable pub cleared_by : Node → Message → ℕ
cleared_by n (message.Clear creator bound) = length (cleared_names n creator (clear_bound n bound))
cleared_by n _ = 0

-- what records are about: themselves, and the states that they clear
unfoldable pub records_work : Node → Bool → List Message → ℕ
records_work n same_rules messages =
    let nodes = n ∷ taken_points n same_rules messages in
    length messages + sum_by (λ at. cleared_by at.0 at.1) (zip nodes messages)

-- ---- edits

-- a record takes at most this many edits, beside those of the states that it clears: each of them is forgotten
abbrev pub record_edits : ℕ
record_edits = 8

-- this many edits pay for each thing that records are about
abbrev pub work_edits : ℕ
work_edits = record_edits + forgotten_edits

-- ---- frames

-- the sender has the node's own rules
abbrev pub same_rules : Node → Frame → Bool
same_rules n f = pointwise ◌==◌ f.print n.rules.print

-- the node after the records of a frame
abbrev pub received : Node → Frame → Node
received n f = fold (λ m r. taken m (same_rules n f) r) n (records_of f)

-- the points of a frame: one after each record
abbrev pub receive_points : Node → Frame → List Node
receive_points n f = taken_points n (same_rules n f) (records_of f)

-- what a frame is about: its records, and the states that they clear
abbrev pub frame_work : Node → Frame → ℕ
frame_work n f = records_work n (same_rules n f) (records_of f)
