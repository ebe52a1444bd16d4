use Rattle.std.proofs.Common.{◌∙◌, ap, sym, subst}
use Rattle.pfl_edits.specs.Maps.{set_at}
use Rattle.pfl_table.specs.Tables.{Table, states_of, row_with}
use Rattle.pfl_desk.specs.inner.Kept.{IsTimely}
use Rattle.pfl_desk.specs.Nodes.{Node, AreParts}
use Rattle.pfl_desk.proofs.Stating.{row_by, row-by, states-with, set-table, set-timely, whole-with}
use Rattle.pfl_desk.proofs.parts.Parts.set_state.Goals as goal

pub set-requires : goal.set-requires
set-requires g c = record {
  table =
      set-table c.args.self.now c.self.inside.table c.args.name c.args.at (row_with c.args.at c.timeout_of-timeout.result)
      (ap (λ (n : Node). n.states) (sym c.self.view_is))
      (c.self.invariant.0.room ∙ ap (λ (n : Node). n.limits.states) c.self.view_is)
      (row-by c.args.self.now.rules c.args.at c.timeout_of-timeout.result c.timeout_of-timeout.ensures.timeout) c.requires.node;
}

pub invariant_of-self : goal.invariant_of-self
invariant_of-self g c =
    let now = ap states_of c.set.ensures.set
    ∙ (states-with c.self.inside.table c.args.self.now.rules c.args.name c.args.at (row_with c.args.at c.timeout_of-timeout.result)
    (row-by c.args.self.now.rules c.args.at c.timeout_of-timeout.result c.timeout_of-timeout.ensures.timeout)
    ∙ ap (λ (n : Node). set_at n.states c.args.name c.args.at) c.self.view_is) in (
      subst (λ (t : Table). IsTimely c.self.inside.limits c.self.inside.rules t) (sym c.set.ensures.set)
          (set-timely c.self.inside.limits c.self.inside.rules c.self.inside.table c.args.name c.args.at
          (row_with c.args.at c.timeout_of-timeout.result) c.self.invariant.0
          ((row-by c.args.self.now.rules c.args.at c.timeout_of-timeout.result c.timeout_of-timeout.ensures.timeout)
          ∙ ap (λ (n : Node). row_by n.rules c.args.at) (sym c.self.view_is))),
      subst AreParts (sym (whole-with _ c.args.self.now (states_of c.set.new.self)
          (set_at c.args.self.now.states c.args.name c.args.at) c.self.view_is now)) c.requires.node,
    )

pub returns : goal.returns
returns g c =
    let now = ap states_of c.set.ensures.set
    ∙ (states-with c.self.inside.table c.args.self.now.rules c.args.name c.args.at (row_with c.args.at c.timeout_of-timeout.result)
    (row-by c.args.self.now.rules c.args.at c.timeout_of-timeout.result c.timeout_of-timeout.ensures.timeout)
    ∙ ap (λ (n : Node). set_at n.states c.args.name c.args.at) c.self.view_is) in
    record { node = whole-with _ c.args.self.now (states_of c.set.new.self) (set_at c.args.self.now.states c.args.name c.args.at) c.self.view_is now }
