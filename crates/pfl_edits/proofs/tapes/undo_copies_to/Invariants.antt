use Rattle.std.proofs.Common.{◌≡◌, ◌≤◌, length}
use Rattle.pfl_edits.specs.Changes.{back, Fits}
use Rattle.pfl_edits.specs.Tapes.{above, below}
use Rattle.pfl_edits.proofs.tapes.undo_copies_to.Given as goal

-- the front has the oldest edits; those above it were taken back, and those of it above the mark lead where all of them led
abbrev pub invariant-loop-front : goal.invariant-loop-front
invariant-loop-front g l =
    let r = g.T.Reversible in
    record {
      oldest : l.front ≡ below (length l.front) l.tape.list;
      few : length l.front ≤ length l.tape.list;
      within : l.mark ≤ length l.front;
      so_far : l.value ≡ back r.put_back (above (length l.front) l.tape.list) l.fn.value;
      fits : Fits r.finds r.allows r.put_back (above l.mark l.front) l.value;
      rest : back r.put_back (above l.mark l.front) l.value ≡ back r.put_back (above l.mark l.fn.tape.list) l.fn.value;
    }

abbrev pub decreases-loop-front : goal.decreases-loop-front
decreases-loop-front g l = length l.front
