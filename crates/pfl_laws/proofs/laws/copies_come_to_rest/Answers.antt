use Rattle.pfl_laws.proofs.Rest.{copies-rest, others-rest, crossed-go-on, cross}
use Rattle.pfl_laws.proofs.laws.copies_come_to_rest.Goals as goal

pub returns-clause-merge : goal.returns-clause-merge
returns-clause-merge c = copies-rest

pub returns-clause-others : goal.returns-clause-others
returns-clause-others c = others-rest

pub returns-clause-crossed : goal.returns-clause-crossed
returns-clause-crossed c = crossed-go-on

pub returns-clause-cross : goal.returns-clause-cross
returns-clause-cross c = cross
