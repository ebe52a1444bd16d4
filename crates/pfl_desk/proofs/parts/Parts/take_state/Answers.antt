use Rattle.std.specs.Prelude.{Some, None, ◌≡◌, ◌∷◌, []}
use Rattle.std.proofs.Common.{◌∙◌, ap, sym, subst}
use Rattle.pfl_base.proofs.ForCallers.{names_total, names_exact}
use Rattle.pfl_edits.specs.Maps as maps
use Rattle.pfl_edits.specs.Maps.{set_at}
use Rattle.pfl_edits.proofs.ForCallers.{set_at-same}
use Rattle.pfl_table.specs.Tables.{States, states_of}
use Rattle.pfl_desk.specs.declared.edit.NodeEdit.TheVariants.{OfState}
use Rattle.pfl_desk.specs.inner.Drafting.{Makes}
use Rattle.pfl_desk.specs.Nodes.{Node, AreParts}
use Rattle.pfl_desk.proofs.Recording.{makes_as}
use Rattle.pfl_desk.proofs.Stating.{written-states, written-timely, whole-with}
use Rattle.pfl_desk.proofs.parts.Parts.take_state.Goals as goal

pub invariant_of-self : goal.invariant_of-self
invariant_of-self g c =
    let n = c.args.self.now in
    let name = c.args.name in
    let t = c.self.inside.table in
    let now = written-states t c.take_at.new.self name None 0 c.take_at.ensures.taken ∙ ap (λ (m : Node). set_at m.states name None) c.self.view_is in (
      written-timely c.self.inside.limits c.self.inside.rules t c.take_at.new.self name None 0 c.self.invariant.0 tt c.take_at.ensures.taken,
      subst AreParts (sym (whole-with _ n (states_of c.take_at.new.self) (set_at n.states name None) c.self.view_is now)) c.requires.parts,
    )

pub returns-in_err-state-clause-node : goal.returns-in_err-state-clause-node
returns-in_err-state-clause-node g c =
    let n = c.args.self.now in
    let name = c.args.name in
    let now = written-states c.self.inside.table c.take_at.new.self name None 0 c.take_at.ensures.taken
    ∙ ap (λ (m : Node). set_at m.states name None) c.self.view_is in
    whole-with _ n (states_of c.take_at.new.self) (set_at n.states name None) c.self.view_is now

pub returns-in_err-state-clause-makes : goal.returns-in_err-state-clause-makes
returns-in_err-state-clause-makes g c =
    let n = c.args.self.now in
    let name = c.args.name in
    let now = written-states c.self.inside.table c.take_at.new.self name None 0 c.take_at.ensures.taken
    ∙ ap (λ (m : Node). set_at m.states name None) c.self.view_is in
    let none : maps.get n.states name ≡ None = ap (λ (m : Node). maps.get m.states name) (sym c.self.view_is) ∙ sym c.in_err-state.ensures.state in
    let same = whole-with _ n (states_of c.take_at.new.self) (set_at n.states name None) c.self.view_is now
    ∙ ap (λ (m : States). record n { states = m }) (set_at-same names_total names_exact n.states name None none) in
    rw c.from_residual.ensures same

pub invariant_of-self-2 : goal.invariant_of-self-2
invariant_of-self-2 g c =
    let n = c.args.self.now in
    let name = c.args.name in
    let t = c.self.inside.table in
    let now = written-states t c.take_at.new.self name None 0 c.take_at.ensures.taken ∙ ap (λ (m : Node). set_at m.states name None) c.self.view_is in (
      written-timely c.self.inside.limits c.self.inside.rules t c.take_at.new.self name None 0 c.self.invariant.0 tt c.take_at.ensures.taken,
      subst AreParts (sym (whole-with _ n (states_of c.take_at.new.self) (set_at n.states name None) c.self.view_is now)) c.requires.parts,
    )

pub returns-clause-node : goal.returns-clause-node
returns-clause-node g c =
    let n = c.args.self.now in
    let name = c.args.name in
    let now = written-states c.self.inside.table c.take_at.new.self name None 0 c.take_at.ensures.taken
    ∙ ap (λ (m : Node). set_at m.states name None) c.self.view_is in
    whole-with _ n (states_of c.take_at.new.self) (set_at n.states name None) c.self.view_is now

pub returns-clause-makes : goal.returns-clause-makes
returns-clause-makes g c =
    let n = c.args.self.now in
    let name = c.args.name in
    let now = written-states c.self.inside.table c.take_at.new.self name None 0 c.take_at.ensures.taken
    ∙ ap (λ (m : Node). set_at m.states name None) c.self.view_is in
    let whole = whole-with _ n (states_of c.take_at.new.self) (set_at n.states name None) c.self.view_is now in
    let edit = OfState (record { name = name; before = Some c.in_ok-state.state; after = None }) in
    let former : maps.get n.states name ≡ Some c.in_ok-state.state = ap (λ (m : Node). maps.get m.states name) (sym c.self.view_is)
    ∙ sym c.in_ok-state.ensures.state in
    subst (λ (m : Node). Makes (edit ∷ []) n m) (sym whole) (makes_as n edit edit (λ _. edit) (subst AreParts c.self.view_is c.self.invariant.1) former tt)
