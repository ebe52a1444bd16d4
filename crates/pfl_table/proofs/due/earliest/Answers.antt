use Rattle.std.proofs.Common.{◌≡◌, List, Some, sym, subst}
use Rattle.std.specs.Option.{option_copied}
use Rattle.pfl_table.specs.declared.row.Row.{Row}
use Rattle.pfl_table.specs.Tables.{row_before}
use Rattle.pfl_table.proofs.Earliest.{looked-next}
use Rattle.pfl_table.proofs.Foremost.{foremost, joined}
use Rattle.pfl_table.proofs.due.earliest.Goals as goal

pub loop-row-preserved : goal.loop-row-preserved
loop-row-preserved c =
    let before = row_before c.args.adaptive c.args.states in
    let first = option_copied c.loop-row.first in
    let was = subst (λ (rows : List Row). joined before first (foremost before rows)
    ≡ foremost before c.args.rows) c.in-Some.ensures.steps c.loop-row.invariant in
    subst (λ (r : Row). joined before (Some r) (foremost before c.next.new.self) ≡ foremost before c.args.rows) (sym c.sooner.ensures)
    (looked-next c.args.adaptive c.args.states first c.in-Some.row.now c.next.new.self c.args.rows was)
