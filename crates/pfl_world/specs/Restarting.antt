-- A node begins anew as the next boot (this project's profile).
use Rattle.std.specs.Prelude.{◌+◌, nat_le, [], ◌∷◌, Result}
use Rattle.pfl_base.specs.Numbers.{greatest}
use Rattle.pfl_base.specs.declared.refusal.Refusal.{Refusal}
use Rattle.pfl_base.specs.declared.refusal.Refusal.TheVariants.{CountFull}
use Rattle.pfl_base.specs.declared.node_id.NodeId.{NodeId}
use Rattle.pfl_language.specs.declared.outcome.Outcome.TheVariants.{Boot}
use Rattle.pfl_node.specs.Events.{restarted}
use Rattle.pfl_world.specs.Meanings.{Meaning, Stepped}
use Rattle.pfl_world.specs.Tickets.{step_unless}
use Rattle.pfl_world.specs.Worlds.{World, node_at, with_node}

-- a node begins anew as the next boot
unfoldable pub restart_step : World → NodeId → Result Stepped Refusal
restart_step w node =
    step_unless ((nat_le greatest w.next_boot, CountFull) ∷ [])
    (record (with_node w node (restarted (node_at w node) w.next_boot)) { next_boot = w.next_boot + 1 }) (Boot w.next_boot)

-- what a restart means
abbrev pub restart_meaning : World → NodeId → Meaning
restart_meaning w node = record {
  gives = restart_step w node;
  points = λ at. node_at (with_node w node (restarted (node_at w node) w.next_boot)) at ∷ [];
  work = 0;
}
