use Rattle.pfl_doors.proofs.Refusing.{only_so}
use Rattle.pfl_doors.proofs.Requested.{turned_away}
use Rattle.pfl_doors.proofs.laws.requests_are_turned_away.Goals as goal

pub returns-clause-all : goal.returns-clause-all
returns-clause-all c = turned_away

pub returns-clause-only : goal.returns-clause-only
returns-clause-only c = only_so
