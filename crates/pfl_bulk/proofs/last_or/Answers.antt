use Rattle.std.proofs.Common.{arith}
use Rattle.pfl_bulk.proofs.Turns.{last_is}
use Rattle.pfl_bulk.proofs.last_or.Goals as goal

pub returns-in-len1-up : goal.returns-in-len1-up
returns-in-len1-up c = record { last = last_is c.args.names.now _ c.args.otherwise (omega arith) }
