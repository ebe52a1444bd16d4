use Rattle.pfl_wire.specs.Reading.{records_at}
use Rattle.pfl_wire.specs.inner.Answers.{kept_items}
use Rattle.pfl_wire.proofs.Loop.{records_go_on, records_end, records_done}
use Rattle.pfl_wire.proofs.read_frame.read_records.Goals as goal

pub returns-in-Err : goal.returns-in-Err
returns-in-Err g c =
    records_end (kept_items c.loop.kept) c.args.group.action c.args.group.count c.loop.counter c.loop.rest.now c.in-Err.bad
    (records_at c.args.group.action c.args.group.count c.args.bytes.now) c.loop-test.true c.in-Err.ensures c.loop.invariant

pub loop-preserved : goal.loop-preserved
loop-preserved g c =
    records_go_on (kept_items c.loop.kept)
    (kept_items c.keep-kept.result) c.args.group.action c.args.group.count c.loop.counter c.loop.rest.now c.in-Ok.read.0
    c.in-Ok.read.1.now (records_at c.args.group.action c.args.group.count c.args.bytes.now) c.loop-test.true c.in-Ok.ensures
    c.keep-kept.ensures c.loop.invariant

pub returns : goal.returns
returns g c = records_done (kept_items c.loop.kept) c.args.group.action c.args.group.count c.loop.counter c.loop.rest.now
    (records_at c.args.group.action c.args.group.count c.args.bytes.now) c.loop-test.false c.loop.invariant
