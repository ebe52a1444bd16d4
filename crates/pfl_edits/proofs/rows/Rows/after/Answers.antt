use Rattle.pfl_edits.proofs.Sorted.{after_row, after_gap}
use Rattle.pfl_edits.proofs.rows.Rows.after.Goals as goal

pub returns-in-Ok : goal.returns-in-Ok
returns-in-Ok g c =
    let k = g.X.Keyed in
    let l = g.met.X.Keyed in
    record {
      above = rw (← c.self.view_is, c.deref-in-Ok.ensures.value)
          (after_row l.total l.exact k.key _ c.self.invariant.1.rising c.args.key _ c.deref.ensures.value _ c.in-Ok.ensures.place);
    }

pub returns-in-Err : goal.returns-in-Err
returns-in-Err g c =
    let k = g.X.Keyed in
    let l = g.met.X.Keyed in
    record {
      above = rw (← c.self.view_is, c.deref-in-Err.ensures.value)
          (after_gap l.total l.exact k.key _ c.args.key _ c.deref.ensures.value _ c.in-Err.ensures.place);
    }
