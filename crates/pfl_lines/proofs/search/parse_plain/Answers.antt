use Rattle.pfl_lines.proofs.Plain.{says_plain}
use Rattle.pfl_lines.proofs.search.parse_plain.Goals as goal

pub returns : goal.returns
returns c = says_plain c.args.line.now c.parse_line.result c.requires.plain c.parse_line.ensures
