use Rattle.pfl_wire.proofs.Left.{first_left, record_stands}
use Rattle.pfl_wire.proofs.frame_bytes.first_of.Goals as goal

pub unreachable-requires : goal.unreachable-requires
unreachable-requires c = record_stands c.args.group c.args.bytes.now c.in-Err.field-0 c.requires.more c.in-Err.ensures c.requires.readable

pub returns : goal.returns
returns c = first_left c.args.group c.args.bytes.now (c.in-Ok.message, c.in-Ok.rest.now) c.requires.more c.in-Ok.ensures
