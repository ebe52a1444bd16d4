-- Why a packet has its fate, by the state that was found and what tracking makes of it.
use Rattle.std.specs.Prelude.{◌≡◌, ◌≢◌, Option, Some, None, refl}
use Rattle.std.proofs.Common.{◌∙◌, ap}
use Rattle.pfl_base.specs.declared.direction.Dir.{Dir}
use Rattle.pfl_base.specs.declared.flow.Key.{Key}
use Rattle.pfl_base.specs.declared.packet.Packet.{Packet}
use Rattle.pfl_base.specs.Keys.{key}
use Rattle.pfl_track.specs.declared.state.State.{State}
use Rattle.pfl_track.specs.declared.tracked.Tracked.{Tracked}
use Rattle.pfl_track.specs.declared.tracked.Tracked.TheVariants.{Moved, OutOfWindow, Reused}
use Rattle.pfl_track.specs.Rules.{tracked_by}
use Rattle.pfl_world.specs.desk.Changes.{deleted}
use Rattle.pfl_world.specs.desk.Nodes.{Node}
use Rattle.pfl_world.specs.table.Tables.{States, found}
use Rattle.pfl_reasons.specs.declared.packet_reason.PacketReason.TheVariants.{ByRules, OfState}
use Rattle.pfl_reasons.specs.Packets.{by_found, by_tracked, judged_reason, packet_reason, tested}

-- what the table of the node found
pub found-is : (n lent : Node) (states : States) (k : Key) (dir : Dir) (p : Packet) (given : Option State) → given ≡ found states k dir
    → states ≡ lent.states → lent ≡ n → k ≡ key p dir
    → given ≡ found n.states (key p dir) dir
found-is n lent states k dir p given is of node of_packet = is ∙ λ i. found ((of ∙ ap (λ (m : Node). m.states) node) i) (of_packet i) dir

module _ (n : Node) (dir : Dir) (p : Packet) where
  pub of_no_state : found n.states (key p dir) dir ≡ None → packet_reason n dir p ≡ ByRules None (judged_reason n dir p)
  unfolding packet_reason
  of_no_state none = ap (by_found n dir p) none

  module _ (s : State) (at : found n.states (key p dir) dir ≡ Some s) (x : Tracked)
      (is : tracked_by n.limits.kernel s p dir n.clock ≡ x) where
    of_found : packet_reason n dir p ≡ by_tracked n dir p s x
    unfolding packet_reason
    of_found = ap (by_found n dir p) at ∙ ap (by_tracked n dir p s) is

    pub of_closed : x ≡ Reused → packet_reason n dir p ≡ ByRules (Some s.name) (judged_reason (deleted n s) dir p)
    of_closed reused = of_found ∙ ap (by_tracked n dir p s) reused

    pub of_state : x ≢ Reused → packet_reason n dir p ≡ OfState s.name (tested n.limits.kernel s dir p)
    of_state other = of_found ∙ by x other
      where
        by : (y : Tracked) → y ≢ Reused → by_tracked n dir p s y ≡ OfState s.name (tested n.limits.kernel s dir p)
        by (Moved t) other = refl
        by OutOfWindow other = refl
        by Reused other = absurd (other refl)
