use Rattle.std.proofs.Common.{◌≡◌}
use Rattle.std.specs.Io.KnownBytes.{Keeps}
use Rattle.pfl_doors.specs.Screens.{left_in}
use Rattle.pfl_doors.proofs.Screening.{undecided}
use Rattle.pfl_doors.proofs.screened.Screened.judge.Given as goal

-- what is left to give stays the same
abbrev pub invariant-loop-self : goal.invariant-loop-self
invariant-loop-self g l = record {
  keeps : Keeps (left_in l.fn.self) (left_in l.self);
  stays : l.self.failed ≡ l.fn.self.failed;
}

-- the front grows while nothing is known
abbrev pub decreases-loop-self : goal.decreases-loop-self
decreases-loop-self g l = undecided l.self.verdict l.self.front
