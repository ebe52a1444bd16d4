use Rattle.pfl_lines.proofs.Searched.{parts-cut, parts-whole, cut-shorter}
use Rattle.pfl_lines.proofs.search.part_at.Goals as goal

pub returns-in-Ok-clause-parts : goal.returns-in-Ok-clause-parts
returns-in-Ok-clause-parts c = parts-cut c.args.text.now c.in-Ok.part.now c.in-Ok.rest.now c.in-Ok.ensures

pub returns-in-Ok-clause-shorter : goal.returns-in-Ok-clause-shorter
returns-in-Ok-clause-shorter c = cut-shorter 59 c.args.text.now c.in-Ok.part.now c.in-Ok.rest.now c.in-Ok.ensures

pub returns-in-Err-clause-parts : goal.returns-in-Err-clause-parts
returns-in-Err-clause-parts c = parts-whole c.args.text.now _ c.in-Err.ensures
