use Rattle.std.proofs.Common.{◌≡◌, ◌+◌, ◌≤◌, ◌++◌, length}
use Rattle.pfl_edits.specs.Redoing.{AreUndone}
use Rattle.pfl_edits.proofs.tapes.redo_all.Given as goal

-- what is left is kept of edits that lead where all of them led, and the tape has the others
abbrev pub invariant-loop-kept : goal.invariant-loop-kept
invariant-loop-kept g l =
    let r = g.T.Reversible in
    let u = g.T.Redoable.undone in
    record {
      room : length l.undone.list ≤ l.tape.spare;
      spare : l.tape.spare + length l.fn.undone.list ≡ l.fn.tape.spare + length l.undone.list;
      some : AreUndone r.finds r.allows r.put_back u l.undone.list l.value;
      same : (of : AreUndone r.finds r.allows r.put_back u l.fn.undone.list l.fn.value)
          → (left : AreUndone r.finds r.allows r.put_back u l.undone.list l.value) × (left.led_to ≡ of.led_to)
          × (l.tape.list ++ left.edits ≡ l.fn.tape.list ++ of.edits);
    }

abbrev pub decreases-loop-kept : goal.decreases-loop-kept
decreases-loop-kept g l = length l.undone.list
