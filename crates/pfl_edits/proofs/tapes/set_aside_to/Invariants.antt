use Rattle.std.proofs.Common.{◌≡◌, ◌+◌, ◌≤◌, ◌++◌, length}
use Rattle.pfl_edits.specs.Changes.{back, Fits}
use Rattle.pfl_edits.specs.Redoing.{set_aside}
use Rattle.pfl_edits.specs.Tapes.{above, below}
use Rattle.pfl_edits.proofs.tapes.set_aside_to.Given as goal

-- the edits below the mark stand, those left above it lead where all of them led, and the others are kept
abbrev pub invariant-loop-tape : goal.invariant-loop-tape
invariant-loop-tape g l =
    let r = g.T.Reversible in
    let u = g.T.Redoable.undone in
    record {
      within : l.mark ≤ length l.tape.list;
      kept : below l.mark l.tape.list ≡ below l.mark l.fn.tape.list;
      room : l.tape.spare ≡ l.fn.tape.spare;
      fits : Fits r.finds r.allows r.put_back (above l.mark l.tape.list) l.value;
      rest : back r.put_back (above l.mark l.tape.list) l.value ≡ back r.put_back (above l.mark l.fn.tape.list) l.fn.value;
      left : l.undone.spare + length (above l.mark l.fn.tape.list) ≡ l.fn.undone.spare + length (above l.mark l.tape.list);
      enough : length (above l.mark l.tape.list) ≤ l.undone.spare;
      aside : l.undone.list ++ set_aside u (above l.mark l.tape.list) ≡ l.fn.undone.list ++ set_aside u (above l.mark l.fn.tape.list);
    }

abbrev pub decreases-loop-tape : goal.decreases-loop-tape
decreases-loop-tape g l = length l.tape.list
