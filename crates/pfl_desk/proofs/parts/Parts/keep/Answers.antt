use Rattle.std.proofs.Common.{◌≡◌, ◌<◌, None, length, List, ◌∙◌, ap, sym, subst, arith}
use Rattle.pfl_defer.specs.declared.edits.DeferEdit.{DeferEdit}
use Rattle.pfl_defer.specs.Deferring.{Deferrals, held_of, with_held}
use Rattle.pfl_defer.specs.Edits.{DefersBack}
use Rattle.pfl_desk.specs.Nodes.{Node, IsGiven}
use Rattle.pfl_desk.proofs.Deferred.{held-node, one_edit, stays-roomy}
use Rattle.pfl_desk.proofs.Recording.{makes_held}
use Rattle.pfl_desk.proofs.parts.Parts.keep.Goals as goal

pub hold-edits-requires : goal.hold-edits-requires
hold-edits-requires g c =
    let free = subst (λ (m : Node). length m.held.list < m.held.limit) (sym c.self.view_is) c.requires.free in
    record {
      some = omega (arith, free);
      fresh = subst (λ (m : Node). held_of m.held c.args.name ≡ None) (sym c.self.view_is) c.requires.fresh;
      later = λ i h at. (c.self.invariant.1.held i h at).1;
    }

pub invariant_of-self : goal.invariant_of-self
invariant_of-self g c =
    let free = subst (λ (m : Node). length m.held.list < m.held.limit) (sym c.self.view_is) c.requires.free in
    let fresh = subst (λ (m : Node). held_of m.held c.args.name ≡ None) (sym c.self.view_is) c.requires.fresh in
    let given = subst (λ (m : Node). IsGiven m c.args.name) (sym c.self.view_is) c.requires.given in
    let held = c.hold-edits.ensures.deferrals ∙ ap (λ (d : Deferrals). with_held d c.args.name c.args.packet.now c.self.inside.clock)
    (stays-roomy c.self.inside.held free).1 in
    (c.self.invariant.0, rw held (held-node _ c.args.name c.args.packet.now c.self.invariant.1 given free fresh))

pub returns-clause-node : goal.returns-clause-node
returns-clause-node g c =
    let free = subst (λ (m : Node). length m.held.list < m.held.limit) (sym c.self.view_is) c.requires.free in
    let held = c.hold-edits.ensures.deferrals ∙ ap (λ (d : Deferrals). with_held d c.args.name c.args.packet.now c.self.inside.clock)
    (stays-roomy c.self.inside.held free).1 in
    rw held (ap (λ (m : Node). record m { held = with_held m.held c.args.name c.args.packet.now m.clock }) c.self.view_is)

pub returns-clause-makes : goal.returns-clause-makes
returns-clause-makes g c =
    let free = subst (λ (m : Node). length m.held.list < m.held.limit) (sym c.self.view_is) c.requires.free in
    let one = one_edit c.hold-edits.result.1.released c.hold-edits.result.1.held (c.hold-edits.ensures.edit ∙ (stays-roomy c.self.inside.held free).0) in
    let back = subst (λ (es : List DeferEdit). DefersBack es c.self.inside.held c.hold-edits.new.self) one c.hold-edits.ensures.leads_back in
    rw (← c.self.view_is) (makes_held _ c.hold-edits.result.1.held c.hold-edits.new.self c.self.invariant.1 back)
