use Rattle.pfl_node.proofs.Sent.{cleared-first, cleared-room, cleared-more, cleared-all}
use Rattle.pfl_node.proofs.flush.clear_counts.Goals as goal

pub loop-entry-init : goal.loop-entry-init
loop-entry-init g c = cleared-first c.args.desk.now c.args.entries.now

pub clear_count-requires : goal.clear_count-requires
clear_count-requires g c = record { room = cleared-room _ _ _ _ c.loop-entry.invariant c.requires.room c.loop-entry-test.true }

pub loop-entry-preserved : goal.loop-entry-preserved
loop-entry-preserved g c = cleared-more _ _ _ _ c.loop-entry.invariant _ _ c.loop-entry-test.true c.clear_count.ensures.node c.clear_count.ensures.writes

pub returns : goal.returns
returns g c =
    let done = cleared-all _ _ _ _ c.loop-entry.invariant c.loop-entry-test.false in
    record { node = done.0; writes = done.1 }
