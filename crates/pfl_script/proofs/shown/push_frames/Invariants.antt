use Rattle.std.proofs.Common.{◌≡◌, ◌++◌, length}
use Rattle.std.specs.List.{flat_map}
use Rattle.pfl_link.specs.Framed.{entry_of}
use Rattle.pfl_script.specs.Shows.{frame_line}
use Rattle.pfl_script.proofs.shown.push_frames.Given as goal

abbrev pub invariant-loop-ticketed : goal.invariant-loop-ticketed
invariant-loop-ticketed g l =
    l.text.items ++ flat_map (λ t. frame_line (entry_of t)) l.frames ≡ l.initial.text.items ++ flat_map (λ t. frame_line (entry_of t)) l.initial.frames

abbrev pub decreases-loop-ticketed : goal.decreases-loop-ticketed
decreases-loop-ticketed g l = length l.frames
