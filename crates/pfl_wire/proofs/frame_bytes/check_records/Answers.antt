use Rattle.std.proofs.Common.{None}
use Rattle.pfl_wire.specs.Reading.{records_at}
use Rattle.pfl_wire.proofs.Loop.{records_go_on, records_end, records_done}
use Rattle.pfl_wire.proofs.frame_bytes.check_records.Goals as goal

pub returns-in-Err : goal.returns-in-Err
returns-in-Err c =
    records_end None c.args.group.action c.args.group.count c.loop.counter c.loop.rest.now c.in-Err.bad
    (records_at c.args.group.action c.args.group.count c.args.bytes.now) c.loop-test.true c.in-Err.ensures c.loop.invariant

pub loop-preserved : goal.loop-preserved
loop-preserved c =
    records_go_on None None c.args.group.action c.args.group.count c.loop.counter c.loop.rest.now c.in-Ok.read.0 c.in-Ok.read.1.now
    (records_at c.args.group.action c.args.group.count c.args.bytes.now) c.loop-test.true c.in-Ok.ensures tt c.loop.invariant

pub returns : goal.returns
returns c = records_done None c.args.group.action c.args.group.count c.loop.counter c.loop.rest.now
    (records_at c.args.group.action c.args.group.count c.args.bytes.now) c.loop-test.false c.loop.invariant
