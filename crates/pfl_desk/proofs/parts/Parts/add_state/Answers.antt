use Rattle.std.specs.Prelude.{Some, None, ◌∷◌, []}
use Rattle.std.proofs.Common.{◌∙◌, ap, sym, subst}
use Rattle.pfl_base.specs.declared.state_name.StateName.{StateName}
use Rattle.pfl_edits.specs.Maps.{set_at}
use Rattle.pfl_table.specs.Tables.{states_of}
use Rattle.pfl_desk.specs.declared.edit.NodeEdit.TheVariants.{OfState}
use Rattle.pfl_desk.specs.inner.Drafting.{Makes}
use Rattle.pfl_desk.specs.inner.Kept.{timeout_by}
use Rattle.pfl_desk.specs.Nodes.{Node, AreParts}
use Rattle.pfl_desk.proofs.Recording.{makes_as}
use Rattle.pfl_desk.proofs.Stating.{addable, written-states, written-timely, whole-with}
use Rattle.pfl_desk.proofs.parts.Parts.add_state.Goals as goal

pub add-requires : goal.add-requires
add-requires g c =
    let room = c.self.invariant.0.room ∙ ap (λ (n : Node). n.limits.states) c.self.view_is in
    record { may = addable c.args.self.now c.self.inside.table c.args.state (ap (λ (n : Node). n.states) (sym c.self.view_is)) room c.requires.may }

pub invariant_of-self : goal.invariant_of-self
invariant_of-self g c =
    let n = c.args.self.now in
    let s = c.args.state in
    let t = c.self.inside.table in
    let now = written-states t c.add.new.self s.name (Some s) c.rule_timeout-timeout.result c.add.ensures.added
    ∙ ap (λ (m : Node). set_at m.states s.name (Some s)) c.self.view_is in (
      written-timely c.self.inside.limits c.self.inside.rules t c.add.new.self s.name (Some s) c.rule_timeout-timeout.result c.self.invariant.0
          (c.rule_timeout-timeout.ensures.timeout ∙ ap (λ (m : Node). timeout_by m.rules s) (sym c.self.view_is)) c.add.ensures.added,
      subst AreParts (sym (whole-with _ n (states_of c.add.new.self) (set_at n.states s.name (Some s)) c.self.view_is now)) c.requires.parts,
    )

pub returns-clause-node : goal.returns-clause-node
returns-clause-node g c =
    let n = c.args.self.now in
    let s = c.args.state in
    let now = written-states c.self.inside.table c.add.new.self s.name (Some s) c.rule_timeout-timeout.result c.add.ensures.added
    ∙ ap (λ (m : Node). set_at m.states s.name (Some s)) c.self.view_is in
    whole-with _ n (states_of c.add.new.self) (set_at n.states s.name (Some s)) c.self.view_is now

pub returns-clause-makes : goal.returns-clause-makes
returns-clause-makes g c =
    let n = c.args.self.now in
    let s = c.args.state in
    let now = written-states c.self.inside.table c.add.new.self s.name (Some s) c.rule_timeout-timeout.result c.add.ensures.added
    ∙ ap (λ (m : Node). set_at m.states s.name (Some s)) c.self.view_is in
    let whole = whole-with _ n (states_of c.add.new.self) (set_at n.states s.name (Some s)) c.self.view_is now in
    let edit = λ (name : StateName). OfState (record { name = name; before = None; after = Some s }) in
    subst (λ (m : Node). Makes (edit c.name.result ∷ []) n m) (sym whole)
    (makes_as n (edit c.name.result) (edit s.name) (ap edit c.name.ensures) (subst AreParts c.self.view_is c.self.invariant.1) c.requires.may.fresh tt)
