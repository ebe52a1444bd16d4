-- What becomes of a frame that is delivered, in the parts of the delivery.
use Rattle.std.specs.Prelude.{ℕ, length, Result, Ok, Err}
use Rattle.pfl_wire.specs.declared.fault.BadFrame.{BadFrame}
use Rattle.pfl_wire.specs.Frames.{Frame, records_of}
use Rattle.pfl_language.specs.declared.outcome.Outcome.{Outcome}
use Rattle.pfl_language.specs.declared.outcome.Outcome.TheVariants.{Taken, Broken}
use Rattle.pfl_node.specs.desk.Nodes.{Node}
use Rattle.pfl_node.specs.desk.Changes.{count_broken}
use Rattle.pfl_node.specs.Delivering.{frame_edits}
use Rattle.pfl_node.specs.receive.Delivering.{received}

-- the node after a frame that it can read, or with one more counted that it cannot
abbrev pub arrived : Node → Result Frame BadFrame → Node
arrived n (Ok f) = received n f
arrived n (Err why) = count_broken n

-- how many records it took, or why it could read none
abbrev pub arrival : Result Frame BadFrame → Outcome
arrival (Ok f) = Taken (length (records_of f))
arrival (Err why) = Broken why

-- at most this many edits
abbrev pub arrival_edits : Node → Result Frame BadFrame → ℕ
arrival_edits n (Ok f) = frame_edits n f
arrival_edits n (Err why) = 1
