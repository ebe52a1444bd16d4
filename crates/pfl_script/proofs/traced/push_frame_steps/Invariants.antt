use Rattle.std.proofs.Common.{◌≡◌, ◌++◌, take}
use Rattle.std.specs.List.{flat_map}
use Rattle.pfl_script.specs.Frames.{frame_step_lines}
use Rattle.pfl_script.proofs.traced.push_frame_steps.Given as goal

-- the lines of the events so far stand after the text
abbrev pub invariant-loop-step : goal.invariant-loop-step
invariant-loop-step g l = l.text.items ≡ l.initial.text.items ++ flat_map (frame_step_lines l.name) (take l.step-index l.steps)
