-- A restart in words of what is put in place.
use Rattle.std.specs.Prelude.{◌≡◌, ◌<◌, ◌+◌, ℕ, Bool, true, false, nat_le, List, [], ◌∷◌, ◌++◌, Result, Err, refl}
use Rattle.std.proofs.Common.{ap, sym, subst, arith}
use Rattle.std.proofs.lemmas.Bool.Decides.{nat_tests}
use Rattle.pfl_base.specs.declared.node_id.NodeId.{NodeId}
use Rattle.pfl_base.specs.declared.refusal.Refusal.{Refusal}
use Rattle.pfl_base.specs.declared.refusal.Refusal.TheVariants.{CountFull}
use Rattle.pfl_base.specs.Numbers.{greatest}
use Rattle.pfl_edits.proofs.ForCallers.{LeadsBack-one}
use Rattle.pfl_language.specs.declared.event.Event.{Event}
use Rattle.pfl_language.specs.declared.event.Event.TheVariants as event
use Rattle.pfl_language.specs.declared.outcome.Outcome.TheVariants as outcome
use Rattle.pfl_node.specs.desk.Nodes.{Node}
use Rattle.pfl_node.specs.Events.{restarted}
use Rattle.pfl_world.specs.declared.edit.WorldEdit.{WorldEdit}
use Rattle.pfl_world.specs.declared.edit.WorldEdit.TheVariants.{OfRestart}
use Rattle.pfl_world.specs.Events.{step, IsRefusalOf}
use Rattle.pfl_world.specs.Meanings.{Stepped}
use Rattle.pfl_world.specs.Restarts.{RestartEdit}
use Rattle.pfl_world.specs.Tickets.{step_unless}
use Rattle.pfl_world.specs.Restarting.{restart_step}
use Rattle.pfl_world.specs.Values.{HoldsNode}
use Rattle.pfl_world.specs.WorldEdits.{Finds, put_back, with_boot, WorldLeadsBack}
use Rattle.pfl_world.specs.inner.BothWays.{edit-both_ways}
use Rattle.pfl_world.specs.inner.Recording.{Recorded}
use Rattle.pfl_world.specs.Worlds.{World, IsWorld, PartsAgree, node_at}
use Rattle.pfl_world.proofs.Leads.{agrees_with}
use Rattle.pfl_world.proofs.Stepping.{accepted}

-- the world in which the node began anew
abbrev pub begun : World → NodeId → World
begun w id = with_boot w id (restarted (node_at w id) w.next_boot) (w.next_boot + 1)

-- ---- the step

-- by whether a number is left
abbrev counted : World → NodeId → Bool → Result Stepped Refusal
counted w id out = step_unless ((out, CountFull) ∷ []) (begun w id) (outcome.Boot w.next_boot)

pub restart_step-begun : (w : World) (id : NodeId) → nat_le greatest w.next_boot ≡ false → restart_step w id ≡ accepted (begun w id) (outcome.Boot w.next_boot)
unfolding restart_step
restart_step-begun w id left = ap (counted w id) left

pub restart_step-out : (w : World) (id : NodeId) → nat_le greatest w.next_boot ≡ true → restart_step w id ≡ Err CountFull
unfolding restart_step
restart_step-out w id out = ap (counted w id) out

pub restart_out : (w : World) (id : NodeId) → nat_le greatest w.next_boot ≡ true → IsRefusalOf (restart_step w id) CountFull
restart_out w id out = subst (λ (v : Result Stepped Refusal). IsRefusalOf v CountFull) (sym (restart_step-out w id out)) refl

pub is_left : (boot : ℕ) → nat_le greatest boot ≡ false → boot < greatest
is_left boot left = grind (arith, nat_tests)

-- ---- the edit

abbrev pub edit_of : World → NodeId → RestartEdit
edit_of w id = record { node = id; former = node_at w id; boot = w.next_boot }

pub begun-leads_back : {M : Type 0} (w : World) → IsWorld w → (id : NodeId) → WorldLeadsBack {M = M} (OfRestart (edit_of w id) ∷ []) w (begun w id)
begun-leads_back {M = M} w is id =
    let e : WorldEdit M = OfRestart (edit_of w id) in
    let both = edit-both_ways e in
    LeadsBack-one Finds IsWorld put_back e w (begun w id) (both.redone_finds w (record { node = refl; next = refl })) is
    (both.put_back_redone w (record { node = refl; next = refl }))

pub whole : {M : Type 0} (e : RestartEdit) → HoldsNode {M = M} (OfRestart e)
whole e = record { former = refl; present = refl }

-- what a restart recorded
pub recorded_restart : {M : Type 0} (before after : List (WorldEdit M)) (w : World) → IsWorld w → (id : NodeId) (e : RestartEdit)
    → e ≡ edit_of w id → after ≡ before ++ OfRestart e ∷ []
    → Recorded HoldsNode w (begun w id) before after
recorded_restart {M = M} before after w is id e same list = record {
  edits = OfRestart e ∷ [];
  appended = list;
  leads_back = subst (λ (f : RestartEdit). WorldLeadsBack {M = M} (OfRestart f ∷ []) w (begun w id)) (sym same) (begun-leads_back w is id);
  kind = (whole e, tt);
}

-- ---- the parts agree

-- a restart keeps the limits
limits-restarted : (n : Node) (boot : ℕ) → (restarted n boot).limits ≡ n.limits
unfolding restarted
limits-restarted n boot = refl

pub begun-agrees : (w : World) → PartsAgree w → (id : NodeId) → w.next_boot < greatest → PartsAgree (begun w id)
begun-agrees w is id low =
    let agree = agrees_with w is id (restarted (node_at w id) w.next_boot) (limits-restarted (node_at w id) w.next_boot) in
    record { nodes = agree.nodes; link = agree.link; mtu = agree.mtu; countable = omega (arith, low) }

-- ---- the event

pub step_restart : (w : World) (e : Event) (id : NodeId) → e ≡ event.Restart id → step w e ≡ restart_step w id
unfolding step
step_restart w e id is = ap (step w) is
