use Rattle.std.proofs.Common.{◌<◌, subst, sym}
use Rattle.pfl_containers.specs.Lists.{links_of}
use Rattle.pfl_table.specs.inner.Dues.{AreDues}
use Rattle.pfl_table.proofs.Dues.{lag}
use Rattle.pfl_table.proofs.Settling.{may-move, settled, less-stale}
use Rattle.pfl_table.proofs.settle.settle.Goals as goal

pub at-row-requires : goal.at-row-requires
at-row-requires g c = record { stands = c.in-Some.ensures.stale.at }

pub file_anew-requires : goal.file_anew-requires
file_anew-requires g c =
    let stale = c.in-Some.ensures.stale in
    record {
      filed = may-move c.args.rows.now c.requires.rising c.known.ensures.lists c.loop-slot.expiries c.loop-slot.invariant
          c.in-Some.slot stale c.at-row.result.now (c.at-row.ensures.value stale.at);
    }

pub loop-slot-preserved : goal.loop-slot-preserved
loop-slot-preserved g c =
    let stale = c.in-Some.ensures.stale in
    subst (AreDues c.args.rows.now.limit (links_of c.args.rows.now 0)) (sym c.find_first-in-Some.ensures.same)
    (settled c.args.rows.now c.requires.rising c.known.ensures.lists c.loop-slot.expiries c.loop-slot.invariant c.in-Some.slot stale
    c.at-row.result.now (c.at-row.ensures.value stale.at) c.file_anew.new.self c.file_anew.ensures.moves)

pub loop-slot-smaller : goal.loop-slot-smaller
loop-slot-smaller g c =
    let stale = c.in-Some.ensures.stale in
    subst (λ d. lag d.filed (links_of c.args.rows.now 0) < lag c.loop-slot.expiries.filed (links_of c.args.rows.now 0))
    (sym c.find_first-in-Some.ensures.same)
    (less-stale c.args.rows.now c.requires.rising c.known.ensures.lists c.loop-slot.expiries c.loop-slot.invariant c.in-Some.slot stale
    c.at-row.result.now (c.at-row.ensures.value stale.at) c.file_anew.new.self c.file_anew.ensures.filed)
