use Rattle.std.proofs.Common.{◌≡◌, ◌≤◌, ◌-◌, length, take}
use Rattle.std.specs.Io.KnownBytes.{Appends}
use Rattle.pfl_script.proofs.output.write_text.Given as goal

abbrev pub invariant-loop-done : goal.invariant-loop-done
invariant-loop-done g l = record {
  within : l.done ≤ length l.text;
  appends : Appends (g.W.Output.written l.fn.writer) (g.W.Output.written l.writer) (take l.done l.text);
  stays : g.W.Output.has_failed l.writer ≡ g.W.Output.has_failed l.fn.writer;
}

abbrev pub decreases-loop-done : goal.decreases-loop-done
decreases-loop-done g l = length l.text - l.done
