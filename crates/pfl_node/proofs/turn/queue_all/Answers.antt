use Rattle.std.proofs.lemmas.Result.{err_from_is_err_and}
use Rattle.pfl_node.proofs.Turned.{queued-first, queued-room, queued-next, queued-more, queued-full, queued-stops, queued-last}
use Rattle.pfl_node.proofs.turn.queue_all.Goals as goal

pub loop-name-init : goal.loop-name-init
loop-name-init g c = queued-first c.args.desk.now c.args.names.now

pub mark-requires : goal.mark-requires
mark-requires g c =
    let so = c.loop-name.invariant in
    record {
      room = queued-room _ _ _ _ so c.requires.room c.loop-name-test.true;
      may = queued-next _ _ _ _ so _ c.requires.may c.loop-name-test.true;
    }

pub returns-in_err-mark : goal.returns-in_err-mark
returns-in_err-mark g c =
    let p = err_from_is_err_and c.from_residual.result c.from_residual.ensures.1 in
    let so = c.loop-name.invariant in
    record {
      full = rw p.1 (queued-full _ _ _ _ so _ c.loop-name-test.true c.in_err-mark.ensures.full);
      node = rw p.1 tt;
      writes = queued-stops _ _ _ _ so _ c.loop-name-test.true c.mark.ensures.writes;
    }

pub loop-name-preserved : goal.loop-name-preserved
loop-name-preserved g c = queued-more _ _ _ _ c.loop-name.invariant _ _ c.loop-name-test.true c.in_ok-mark.ensures.node c.mark.ensures.writes

pub returns : goal.returns
returns g c =
    let done = queued-last _ _ _ _ c.loop-name.invariant c.loop-name-test.false in
    record { full = tt; node = done.0; writes = done.1 }
