use Rattle.std.proofs.Common.{◌≡◌, ◌+◌, length}
use Rattle.pfl_edits.specs.Changes.{back, Fits}
use Rattle.pfl_edits.proofs.reversible.take_back.Given as goal

abbrev pub invariant-loop-edit : goal.invariant-loop-edit
invariant-loop-edit g l =
    let r = g.T.Reversible in
    record {
      fits : Fits r.finds r.allows r.put_back l.change.list l.value;
      rest : back r.put_back l.change.list l.value ≡ back r.put_back l.fn.change.list l.fn.value;
      room : l.change.spare + length l.change.list ≡ l.fn.change.spare + length l.fn.change.list;
    }

abbrev pub decreases-loop-edit : goal.decreases-loop-edit
decreases-loop-edit g l = length l.change.list
