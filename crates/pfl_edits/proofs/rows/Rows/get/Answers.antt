use Rattle.pfl_edits.proofs.Setting.{former_here, former_gap}
use Rattle.pfl_edits.proofs.rows.Rows.get.Goals as goal

pub returns-in-Ok : goal.returns-in-Ok
returns-in-Ok g c =
    let k = g.X.Keyed in
    let l = g.met.X.Keyed in
    record {
      found = rw (← c.self.view_is)
          (former_here l.total l.exact k.key _ c.self.invariant.1.rising c.args.key _ c.deref.ensures.value _ c.in-Ok.ensures.place _ c.index.ensures);
    }

pub returns-in-Err : goal.returns-in-Err
returns-in-Err g c =
    let k = g.X.Keyed in
    let l = g.met.X.Keyed in
    record {
      found = rw (← c.self.view_is)
          (former_gap l.total l.exact k.key _ c.self.invariant.1.rising c.args.key _ c.deref.ensures.value _ c.in-Err.ensures.place);
    }
