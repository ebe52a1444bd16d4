use Rattle.std.specs.Prelude.{if◌then◌else◌}
use Rattle.std.proofs.Common.{◌≡◌, None, Some, Option, true, false, Bool, ◌∙◌, ap, sym, ℕ}
use Rattle.std.specs.List.{slice_get}
use Rattle.std.specs.Option.{option_and_then}
use Rattle.pfl_rules.specs.declared.adaptive.Adaptive.{Adaptive}
use Rattle.pfl_rules.specs.Scaling.{scaled}
use Rattle.pfl_language.specs.declared.limits.Limits.{Limits}
use Rattle.pfl_language.specs.Limits.{adaptive}
use Rattle.pfl_track.specs.Tracking.{expired}
use Rattle.pfl_receive.specs.table.declared.row.Row.{Row}
use Rattle.pfl_receive.specs.table.Tables.{Table, States, states_of, first_expiring}
use Rattle.pfl_receive.proofs.ForCallers.table.{TimedBy}
use Rattle.pfl_receive.specs.desk.Nodes.{Node}
use Rattle.pfl_receive.specs.desk.inner.Kept.{timeout_by}
use Rattle.pfl_node.specs.Purging.{expired_among}
use Rattle.pfl_node.proofs.Expired.{due_state, first-row}
use Rattle.pfl_node.proofs.purge.first_expired.Goals as goal

-- the first that has expired is the state of the table's first row, if that has expired
first-due : (n : Node) (l : Limits) (a : Adaptive) (k : ℕ) (t : Table) (row : Option Row) → TimedBy (timeout_by n.rules) t
    → states_of t ≡ n.states → l ≡ n.limits → a ≡ adaptive l → row ≡ first_expiring a k t
    → option_and_then (due_state a k n.clock) row ≡ slice_get (expired_among k n) 0
first-due n l a k t row by states limits is first =
    ap (option_and_then (due_state a k n.clock)) first
    ∙ (ap (λ (b : Adaptive). option_and_then (due_state b k n.clock) (first_expiring b k t)) (is ∙ ap adaptive limits)
    ∙ (sym (first-row (timeout_by n.rules) (adaptive n.limits) k n.clock t by)
    ∙ ap (λ (m : States). slice_get (expired_among k (record n { states = m })) 0) states))

-- whether a row's state has expired
due-is : (a : Adaptive) (k clock seconds now : ℕ) (r : Row) (has : Bool) → seconds ≡ scaled r.timeout a k → now ≡ clock → has ≡ expired r.state seconds now
    → (if has then Some r.state else None) ≡ due_state a k clock r
due-is a k clock seconds now r has left at is = ap (λ b. if b then Some r.state else None) (is ∙ (λ i. expired r.state (left i) (at i)))

pub returns-in_err-row-clause-first : goal.returns-in_err-row-clause-first
returns-in_err-row-clause-first g c =
    c.from_residual.ensures
    ∙ first-due c.args.parts.now c.limits.result c.adaptive-adaptive.result c.args.states c.states-table.result.now None
    (record { each = c.states-table.ensures.timeouts }) c.states-table.ensures.states c.limits.ensures.limits
    c.adaptive-adaptive.ensures c.in_err-row.ensures.row

pub returns-then-expired-clause-first : goal.returns-then-expired-clause-first
returns-then-expired-clause-first g c =
    due-is c.adaptive-adaptive.result c.args.states c.args.parts.now.clock c.scaled-timeout.result c.clock.result c.in_ok-row.row.now
    true c.scaled-timeout.ensures c.clock.ensures.clock (sym c.if-expired.true ∙ c.expired.ensures)
    ∙ first-due c.args.parts.now c.limits.result c.adaptive-adaptive.result c.args.states c.states-table.result.now
    (Some c.in_ok-row.row.now)
    (record { each = c.states-table.ensures.timeouts }) c.states-table.ensures.states c.limits.ensures.limits
    c.adaptive-adaptive.ensures c.in_ok-row.ensures.row

pub returns-else-expired-clause-first : goal.returns-else-expired-clause-first
returns-else-expired-clause-first g c =
    due-is c.adaptive-adaptive.result c.args.states c.args.parts.now.clock c.scaled-timeout.result c.clock.result c.in_ok-row.row.now
    false c.scaled-timeout.ensures c.clock.ensures.clock (sym c.if-expired.false ∙ c.expired.ensures)
    ∙ first-due c.args.parts.now c.limits.result c.adaptive-adaptive.result c.args.states c.states-table.result.now
    (Some c.in_ok-row.row.now)
    (record { each = c.states-table.ensures.timeouts }) c.states-table.ensures.states c.limits.ensures.limits
    c.adaptive-adaptive.ensures c.in_ok-row.ensures.row
