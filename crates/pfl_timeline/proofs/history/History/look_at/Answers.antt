use Rattle.std.proofs.Common.{arith}
use Rattle.pfl_timeline.proofs.Looking.{seen-forward}
use Rattle.pfl_timeline.proofs.history.History.look_at.Goals as goal

pub returns-clause-seen : goal.returns-clause-seen
returns-clause-seen g c =
    seen-forward _ _ _ _ c.args.place c.cursor-cursor.result c.cursor-cursor.ensures.cursor
    (omega (arith, c.if-place-cursor.false)) c.in_ok-redo.ensures.history _ _ _ c.look_here-seen.ensures.seen
