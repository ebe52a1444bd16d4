use Rattle.pfl_script.proofs.Pieces.{untouched-by}
use Rattle.pfl_script.proofs.output.write_reply.Goals as goal

-- a writer that failed is no want of memory
pub returns-in-Ok-clause-untouched : goal.returns-in-Ok-clause-untouched
returns-in-Ok-clause-untouched g c = untouched-by c.write.result _ c.write.ensures.fault
