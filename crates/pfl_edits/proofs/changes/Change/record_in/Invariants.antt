use Rattle.std.proofs.Common.{◌≡◌, ◌+◌, ◌++◌, map, take}
use Rattle.pfl_edits.proofs.changes.Change.record_in.Given as goal

abbrev pub invariant-loop-edit : goal.invariant-loop-edit
invariant-loop-edit g l =
    let r = g.R.Recorder in
    record {
      list : r.list l.to ≡ r.list l.fn.to ++ map (g.W.OfPart.of l.part) (take l.edit-index l.self.list);
      spare : r.spare l.to + l.edit-index ≡ r.spare l.fn.to;
    }
