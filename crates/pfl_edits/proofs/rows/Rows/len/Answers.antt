use Rattle.std.proofs.Common.{length, sym, ◌∙◌, ap}
use Rattle.pfl_edits.proofs.RowMaps.{Distinct-rising, len-map_of}
use Rattle.pfl_edits.proofs.rows.Rows.len.Goals as goal

pub returns-clause-map : goal.returns-clause-map
returns-clause-map g c =
    let k = g.X.Keyed in
    let l = g.met.X.Keyed in
    ap length c.as_slice.ensures.rows ∙ sym (len-map_of l.total l.exact k.key _ (Distinct-rising k.order k.key _ c.as_slice.ensures.ordered.rising))
