use Rattle.pfl_wire.proofs.Laws.{spelled_only, spelled_again}
use Rattle.pfl_wire.proofs.write_frame.encode.Goals as goal

pub returns-clause-only : goal.returns-clause-only
returns-clause-only g c = spelled_only c.spelled.result c.args.frame.now c.spelled.ensures

pub returns-clause-read : goal.returns-clause-read
returns-clause-read g c = spelled_again c.spelled.result c.args.frame.now c.spelled.ensures
