use Rattle.std.proofs.Common.{◌<◌, ◌+◌, ◌∙◌, sym, ap, subst}
use Rattle.std.specs.Prelude.{[], ◌∷◌, ◌++◌, List}
use Rattle.pfl_base.specs.Numbers.{greatest}
use Rattle.pfl_node.specs.desk.Nodes.{Node}
use Rattle.pfl_node.specs.Events.{restarted}
use Rattle.pfl_world.specs.declared.edit.WorldEdit.{WorldEdit}
use Rattle.pfl_world.specs.declared.edit.WorldEdit.TheVariants.{OfRestart}
use Rattle.pfl_world.specs.WorldEdits.{with_boot}
use Rattle.pfl_world.specs.Worlds.{World, IsWorld, joined}
use Rattle.pfl_world.proofs.Restarted.{begun, recorded_restart, begun-agrees}
use Rattle.pfl_world.proofs.Recording.{recorded-as}
use Rattle.pfl_world.proofs.world.World.begin_anew.Goals as goal

-- what stands in the node's place is the new one
pub invariant_of-self : goal.invariant_of-self
invariant_of-self g c =
    let w = joined c.self.inside.nodes c.self.inside.link c.self.inside.next_boot in
    let fresh = c.swap.ensures.x_after
    ∙ (c.as_mut.ensures.value
    ∙ (c.in_ok-other.ensures.value
    ∙ (c.in_ok-fresh.ensures.restarted ∙ ap (λ (n : Node). restarted n c.self.inside.next_boot) c.at.ensures.node))) in
    let low = subst (λ (v : World). v.next_boot < greatest) (sym c.self.view_is) c.requires.countable in
    rw fresh (begun-agrees w c.self.invariant c.args.node low)

pub returns-clause-world : goal.returns-clause-world
returns-clause-world g c =
    let fresh = c.swap.ensures.x_after
    ∙ (c.as_mut.ensures.value
    ∙ (c.in_ok-other.ensures.value
    ∙ (c.in_ok-fresh.ensures.restarted ∙ ap (λ (n : Node). restarted n c.self.inside.next_boot) c.at.ensures.node))) in
    rw fresh (ap (λ (v : World). begun v c.args.node) c.self.view_is)

pub returns-clause-recorded : goal.returns-clause-recorded
returns-clause-recorded g c =
    let w = joined c.self.inside.nodes c.self.inside.link c.self.inside.next_boot in
    let fresh = c.swap.ensures.x_after
    ∙ (c.as_mut.ensures.value
    ∙ (c.in_ok-other.ensures.value
    ∙ (c.in_ok-fresh.ensures.restarted ∙ ap (λ (n : Node). restarted n c.self.inside.next_boot) c.at.ensures.node))) in
    let former = c.swap.ensures.y_after ∙ c.at_mut.ensures.node in
    let edit = c.new.ensures.edit ∙ ap (λ (n : Node). record { node = c.args.node; former = n; boot = c.self.inside.next_boot }) former in
    let list = c.push.ensures.list ∙ ap (λ (es : List (WorldEdit _)). es ++ OfRestart c.new.result ∷ []) c.reserve.ensures.list in
    recorded-as (recorded_restart _ _ w (subst IsWorld (sym c.self.view_is) c.known.ensures.world) c.args.node c.new.result edit list) c.self.view_is
    (sym (ap (λ (n : Node). with_boot w c.args.node n (c.self.inside.next_boot + 1)) fresh))
