use Rattle.std.specs.Prelude.{◌≡◌, ◌∷◌, []}
use Rattle.std.proofs.Common.{◌∙◌, ap, sym, subst}
use Rattle.pfl_base.specs.declared.state_name.StateName.{StateName}
use Rattle.pfl_edits.specs.Maps as maps
use Rattle.pfl_desk.specs.Changes.{put_state}
use Rattle.pfl_desk.specs.Edits.{moved_at}
use Rattle.pfl_desk.specs.inner.Drafting.{Makes}
use Rattle.pfl_desk.specs.Nodes.{Node, AreParts}
use Rattle.pfl_desk.proofs.Putting.{replaced-node}
use Rattle.pfl_desk.proofs.Replacing.{put_again, replaced-makes, replaced-moved}
use Rattle.pfl_desk.proofs.parts.Parts.replace_state.Goals as goal

pub returns-in_err-edit-clause-node : goal.returns-in_err-edit-clause-node
returns-in_err-edit-clause-node g c = put_again c.args.self.now c.args.state c.in_err-edit.ensures.same

pub set_motion-requires : goal.set_motion-requires
set_motion-requires g c =
    let n = c.args.self.now in
    let s = c.args.state in
    let was = c.in_ok-edit.ensures.replaced in
    record {
      node = rw c.name-name.ensures
          (subst AreParts (sym (replaced-moved n was.0 s c.in_ok-edit.edit c.in-Some.moved c.in-Some.ensures was.2 was.1))
          (replaced-node n s c.known.ensures.parts c.requires.may));
    }

pub returns-in-Some-clause-makes : goal.returns-in-Some-clause-makes
returns-in-Some-clause-makes g c =
    let n = c.args.self.now in
    let s = c.args.state in
    let was = c.in_ok-edit.ensures.replaced in
    let now : c.set_motion.new.self ≡ put_state n s = c.set_motion.ensures.node
    ∙ (ap (λ (name : StateName). record n { states = moved_at n.states name c.in-Some.moved.after }) c.name-name.ensures
    ∙ replaced-moved n was.0 s c.in_ok-edit.edit c.in-Some.moved c.in-Some.ensures was.2 was.1) in
    subst (λ (m : Node). Makes (c.in_ok-edit.edit ∷ []) n m) (sym now) (replaced-makes n was.0 s c.in_ok-edit.edit was.2 c.known.ensures.parts was.1)

pub set_state-requires : goal.set_state-requires
set_state-requires g c =
    record { node = rw c.name-name.ensures (replaced-node c.args.self.now c.args.state c.known.ensures.parts c.requires.may) }

pub returns-clause-makes : goal.returns-clause-makes
returns-clause-makes g c =
    let n = c.args.self.now in
    let s = c.args.state in
    let was = c.in_ok-edit.ensures.replaced in
    let now : c.set_state.new.self ≡ put_state n s = c.set_state.ensures.node
    ∙ ap (λ (name : StateName). record n { states = maps.insert n.states name s }) c.name-name.ensures in
    subst (λ (m : Node). Makes (c.in_ok-edit.edit ∷ []) n m) (sym now) (replaced-makes n was.0 s c.in_ok-edit.edit was.2 c.known.ensures.parts was.1)

pub returns-in-Some-clause-node : goal.returns-in-Some-clause-node
returns-in-Some-clause-node g c =
    let n = c.args.self.now in
    let s = c.args.state in
    let was = c.in_ok-edit.ensures.replaced in
    c.set_motion.ensures.node ∙ (ap (λ (name : StateName). record n { states = moved_at n.states name c.in-Some.moved.after }) c.name-name.ensures
    ∙ replaced-moved n was.0 s c.in_ok-edit.edit c.in-Some.moved c.in-Some.ensures was.2 was.1)
