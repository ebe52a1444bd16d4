use Rattle.pfl_laws.proofs.Numbers.{tickets-once, boots-once}
use Rattle.pfl_laws.proofs.laws.no_number_is_given_twice.Goals as goal

pub returns-clause-ticket : goal.returns-clause-ticket
returns-clause-ticket c = tickets-once

pub returns-clause-boot : goal.returns-clause-boot
returns-clause-boot c = boots-once
