use Rattle.pfl_laws.proofs.Naming.{new-named}
use Rattle.pfl_laws.proofs.Numbers.{boots-opening, boots-later_opening, boots-step, names-once}
use Rattle.pfl_laws.proofs.laws.no_name_is_given_twice.Goals as goal

pub returns-clause-opening : goal.returns-clause-opening
returns-clause-opening c = boots-opening

pub returns-clause-later_opening : goal.returns-clause-later_opening
returns-clause-later_opening c = boots-later_opening

pub returns-clause-event : goal.returns-clause-event
returns-clause-event c = boots-step

pub returns-clause-named : goal.returns-clause-named
returns-clause-named c = new-named

pub returns-clause-along : goal.returns-clause-along
returns-clause-along c = names-once
