use Rattle.std.proofs.Common.{◌≡◌, take}
use Rattle.std.specs.List.{flat_map}
use Rattle.pfl_node.specs.Flushing.{messages_of}
use Rattle.pfl_node.proofs.flush.frame.messages_of.Given as goal

abbrev pub invariant-loop-entry : goal.invariant-loop-entry
invariant-loop-entry g l = l.messages.items ≡ flat_map (messages_of l.parts) (take l.entry-index l.entries)
