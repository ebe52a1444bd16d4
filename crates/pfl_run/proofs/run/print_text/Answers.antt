use Rattle.pfl_run.proofs.Runs.{printed_by}
use Rattle.pfl_run.proofs.run.print_text.Goals as goal

pub returns : goal.returns
returns g c = printed_by c.write_text.result _ _ _ _ c.write_text.ensures.whole c.write_text.ensures.part c.write_text.ensures.fails
