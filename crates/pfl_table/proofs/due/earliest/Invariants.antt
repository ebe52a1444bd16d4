use Rattle.std.specs.Prelude.{◌≡◌, length}
use Rattle.std.specs.Option.{option_copied}
use Rattle.pfl_table.specs.Tables.{row_before}
use Rattle.pfl_table.proofs.Foremost.{foremost, joined}
use Rattle.pfl_table.proofs.due.earliest.Given as goal

-- the first of those that were looked at and of those that are left is the first of all
abbrev pub invariant-loop-row : goal.invariant-loop-row
invariant-loop-row l =
    joined (row_before l.adaptive l.states) (option_copied l.first) (foremost (row_before l.adaptive l.states) l.rows)
    ≡ foremost (row_before l.adaptive l.states) l.initial.rows

abbrev pub decreases-loop-row : goal.decreases-loop-row
decreases-loop-row l = length l.rows
