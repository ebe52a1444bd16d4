use Rattle.std.specs.Option.{option_map}
use Rattle.std.proofs.Common.{List, map, ◌∙◌, ap, sym}
use Rattle.pfl_table.specs.declared.heads.Head.{Head}
use Rattle.pfl_table.specs.inner.Heads.{entry_of}
use Rattle.pfl_table.proofs.Earliest.{entry_before}
use Rattle.pfl_table.proofs.FirstOfEach.{heads-first}
use Rattle.pfl_table.proofs.Foremost.{foremost}
use Rattle.pfl_table.proofs.due_order.DueOrder.first_of_heads.Goals as goal

pub returns-in_err-slot : goal.returns-in_err-slot
returns-in_err-slot g c =
    let before = entry_before c.args.adaptive c.args.states in
    let all = c.first_due.ensures.first ∙ (ap (λ (hs : List Head). foremost before (map entry_of hs)) c.as_slice.ensures.rows
    ∙ (heads-first c.args.adaptive c.args.states c.self.inside.heads.list c.self.inside.order.list c.known.ensures.entries.sorted
    c.as_slice.ensures.ordered.rising c.self.invariant.1.first
    ∙ ap (λ d. foremost before d.list) c.self.view_is)) in
    record { first = c.from_residual.ensures ∙ ap (option_map (λ e. e.1)) (sym c.in_err-slot.was ∙ all) }

pub returns : goal.returns
returns g c =
    let before = entry_before c.args.adaptive c.args.states in
    let all = c.first_due.ensures.first ∙ (ap (λ (hs : List Head). foremost before (map entry_of hs)) c.as_slice.ensures.rows
    ∙ (heads-first c.args.adaptive c.args.states c.self.inside.heads.list c.self.inside.order.list c.known.ensures.entries.sorted
    c.as_slice.ensures.ordered.rising c.self.invariant.1.first
    ∙ ap (λ d. foremost before d.list) c.self.view_is)) in
    record { first = ap (option_map (λ e. e.1)) (sym c.in_ok-slot.was ∙ all) }
