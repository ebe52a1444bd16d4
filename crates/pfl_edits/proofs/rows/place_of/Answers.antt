use Rattle.std.proofs.Common.{arith}
use Rattle.pfl_edits.proofs.Sorted.{search_behind, search_before, search_here}
use Rattle.pfl_edits.proofs.rows.place_of.Goals as goal

pub loop-low-preserved-in-Less : goal.loop-low-preserved-in-Less
loop-low-preserved-in-Less g c =
    let k = g.X.Keyed in
    let l = g.met.X.Keyed in
    record {
      order = omega arith;
      within = omega arith;
      before = search_behind l.total l.exact k.key _ c.requires.rising _ (omega arith) _ c.index-rows-middle.is _ _ c.key.ensures.key c.in-Less.ensures.order;
      behind = c.loop-low.invariant.behind;
    }

pub returns-in-Equal : goal.returns-in-Equal
returns-in-Equal g c =
    let k = g.X.Keyed in
    let l = g.met.X.Keyed in
    record {
      place = search_here l.total l.exact k.key _ c.requires.rising _
          (omega arith) _ c.index-rows-middle.is _ _ c.key.ensures.key c.in-Equal.ensures.order;
    }

pub loop-low-preserved : goal.loop-low-preserved
loop-low-preserved g c =
    let k = g.X.Keyed in
    let l = g.met.X.Keyed in
    record {
      order = omega arith;
      within = omega arith;
      before = c.loop-low.invariant.before;
      behind = search_before l.total l.exact k.key _ c.requires.rising _
          (omega arith) _ c.index-rows-middle.is _ _ c.key.ensures.key c.in-Greater.ensures.order;
    }
