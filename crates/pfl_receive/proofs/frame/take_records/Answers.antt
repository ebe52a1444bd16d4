use Rattle.std.proofs.Common.{arith}
use Rattle.std.proofs.lemmas.Result.{err_from_is_err_and}
use Rattle.pfl_receive.proofs.Delivered.{delivered-first, delivered-room, delivered-count, delivered-more, delivered-full, delivered-stops, delivered-all}
use Rattle.pfl_receive.proofs.frame.take_records.Goals as goal

pub loop-message-init : goal.loop-message-init
loop-message-init g c = rw c.into_iter-message-iterator.ensures.into_iter_gives (delivered-first c.args.desk.now c.args.same_rules c.args.records)

pub take_record-requires : goal.take_record-requires
take_record-requires g c = record { room = delivered-room _ _ _ _ _ _ _ c.loop-message.invariant _ _ c.in-Some.ensures.steps c.requires.room }

pub overflow_add-count : goal.overflow_add-count
overflow_add-count g c =
    let below = delivered-count _ _ _ _ _ _ _ c.loop-message.invariant _ _ c.in-Some.ensures.steps c.requires.room c.known.ensures.draft.room in
    omega (arith, below)

pub loop-message-preserved : goal.loop-message-preserved
loop-message-preserved g c =
    delivered-more _ _ _ _ _ _ _ c.loop-message.invariant _ _ c.in-Some.ensures.steps _ _ c.in_ok-take_record.ensures.node
    c.in_ok-take_record.ensures.paid c.take_record.ensures.writes c.is_overcounted-overcounted.ensures.room
    c.is_overcounted-overcounted.ensures.counted

pub returns-in_err-take_record : goal.returns-in_err-take_record
returns-in_err-take_record g c =
    let p = err_from_is_err_and c.from_residual.result c.from_residual.ensures.1 in
    let so = c.loop-message.invariant in
    record {
      went = rw p.1 (delivered-full _ _ _ _ _ _ _ so _ _ c.in-Some.ensures.steps c.in_err-take_record.ensures.full);
      node = rw p.1 tt;
      count = rw p.1 tt;
      writes = delivered-stops _ _ _ _ _ _ _ so _ _ c.in-Some.ensures.steps _ c.take_record.ensures.writes;
    }

pub returns : goal.returns
returns g c =
    let done = delivered-all _ _ _ _ _ _ _ c.loop-message.invariant c.in-None.ensures.steps.0 in
    record { went = (done.full, done.counted); node = done.node; count = done.whole; writes = done.writes }
