use Rattle.std.proofs.Common.{◌≡◌, take}
use Rattle.pfl_publish.specs.Views.{with_next}
use Rattle.pfl_publish.proofs.steps.store_words.Given as goal

abbrev pub invariant-loop-i : goal.invariant-loop-i
invariant-loop-i g l = (l.seat.table_id ≡ l.initial.seat.table_id)
    × (l.seat.me ≡ (with_next l.initial.seat.me.0 (take l.i l.fn.revision.words), l.initial.seat.me.1))
