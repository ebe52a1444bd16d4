use Rattle.std.proofs.Common.{◌≡◌, ◌≤◌, length}
use Rattle.pfl_edits.specs.Changes.{back, Fits}
use Rattle.pfl_edits.specs.Tapes.{above, below}
use Rattle.pfl_edits.proofs.tapes.undo_to.Given as goal

-- the edits below the mark stand, and those left above it lead where all of them led
abbrev pub invariant-loop-tape : goal.invariant-loop-tape
invariant-loop-tape g l =
    let r = g.T.Reversible in
    record {
      within : l.mark ≤ length l.tape.list;
      kept : below l.mark l.tape.list ≡ below l.mark l.fn.tape.list;
      room : l.tape.spare ≡ l.fn.tape.spare;
      fits : Fits r.finds r.allows r.put_back (above l.mark l.tape.list) l.value;
      rest : back r.put_back (above l.mark l.tape.list) l.value ≡ back r.put_back (above l.mark l.fn.tape.list) l.fn.value;
    }

abbrev pub decreases-loop-tape : goal.decreases-loop-tape
decreases-loop-tape g l = length l.tape.list
