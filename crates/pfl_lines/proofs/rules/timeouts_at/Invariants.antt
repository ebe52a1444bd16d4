use Rattle.std.proofs.Common.{◌≡◌, length, take, drop}
use Rattle.pfl_base.specs.Classes.{classes}
use Rattle.pfl_lines.specs.Words.{words}
use Rattle.pfl_lines.specs.Rules.{timeouts_at}
use Rattle.pfl_lines.proofs.Timeouts.{behind_those}
use Rattle.pfl_lines.proofs.rules.timeouts_at.Given as goal

abbrev pub invariant-loop-i : goal.invariant-loop-i
invariant-loop-i l = record {
  read : timeouts_at classes (words l.line) ≡ behind_those (take l.i l.timeouts) (timeouts_at (drop l.i classes) (words l.rest));
  all : length l.timeouts ≡ 14;
}
