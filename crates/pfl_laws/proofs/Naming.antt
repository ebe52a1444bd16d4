-- A state that is new at a node has a name that the node gives, unless a frame brings it.
use Rattle.std.specs.Prelude.{◌≡◌, ◌≤◌, ◌+◌, ◌==◌, ◌⊎◌, ℕ, Bool, true, false, nat_lt, Some, None, refl}
use Rattle.std.proofs.Common.{◌∙◌, ap, sym, arith, inl, inr}
use Rattle.std.proofs.lemmas.Bool.Decides.{nat_tests}
use Rattle.pfl_base.specs.declared.node_id.NodeId.{NodeId}
use Rattle.pfl_base.specs.declared.node_id.NodeId.TheVariants.{A, B}
use Rattle.pfl_base.specs.declared.state_name.StateName.{StateName}
use Rattle.pfl_edits.specs.Maps as maps
use Rattle.pfl_edits.proofs.ForCallers.{some_is_none}
use Rattle.pfl_world.specs.track.declared.state.State.{State}
use Rattle.pfl_language.specs.declared.event.Event.{Event}
use Rattle.pfl_language.specs.declared.event.Event.TheVariants as event
use Rattle.pfl_language.specs.declared.event.FrameEvent.TheVariants as frame
use Rattle.pfl_world.specs.desk.Nodes.{Node, IsNode, IsGiven}
use Rattle.pfl_world.specs.node.Events.{restarted}
use Rattle.pfl_world.specs.Worlds.{World, node_at, with_node}
use Rattle.pfl_laws.specs.Laws.{Gives, IsDelivery, NewStatesAreNamed}
use Rattle.pfl_laws.proofs.Restarting.{restarted-none}
use Rattle.pfl_laws.proofs.Running.{node-is, given_at}
use Rattle.pfl_laws.proofs.Stepping.{turned, IsLocal, turned-keeps, stepped-node}

-- a name was given, or is one of the node's next
given-or-next : (n : Node) (name : StateName) → IsGiven n name ⊎ ((name.creator ≡ n.creator) × (n.next_id ≤ name.id))
given-or-next n name = by (name.creator == n.creator) refl (nat_lt name.id n.next_id) refl
  where
    by : (own : Bool) → (name.creator == n.creator) ≡ own → (low : Bool) → nat_lt name.id n.next_id ≡ low
        → IsGiven n name ⊎ ((name.creator ≡ n.creator) × (n.next_id ≤ name.id))
    by false e low l = inl (λ same. absurd (grind (arith, nat_tests)))
    by true e true l = inl (λ same. grind (arith, nat_tests))
    by true e false l = inr (grind (arith, nat_tests), grind (arith, nat_tests))

-- where a state is new, its name was not given before
local-next : (w : World) (e : Event) (at : NodeId) (m : Node) (name : StateName) (s : State) → IsLocal e → IsNode (node_at w at) → turned w e at ≡ m
    → maps.get (node_at w at).states name ≡ None → maps.get m.states name ≡ Some s → (name.creator ≡ (node_at w at).creator)
    × ((node_at w at).next_id ≤ name.id)
local-next w e at m name s local is turns none some = elim (given-or-next (node_at w at) name) [
  | inl given ↦
      let keeps = turned-keeps name w e at local is.parts.states given in
      let from = keeps.comes s (ap (λ (k : Node). maps.get k.states name) turns ∙ some) in
      absurd (some_is_none from.state (sym from.at ∙ none))
  | inr next ↦ next
]

local-boot : (w : World) (e : Event) (at : NodeId) (m : Node) → IsLocal e → IsNode (node_at w at) → turned w e at ≡ m → m.creator ≡ (node_at w at).creator
local-boot w e at m local is turns =
    let other : StateName = record { creator = (node_at w at).creator + 1; id = 0 } in
    let keeps = turned-keeps other w e at local is.parts.states (λ own. absurd (omega arith)) in
    ap (λ (k : Node). k.creator) (sym turns) ∙ keeps.creator

local-names : (w : World) (e : Event) (at : NodeId) (m : Node) (name : StateName) (s : State) → IsLocal e → IsNode (node_at w at) → IsNode m → turned w e at ≡ m
    → maps.get (node_at w at).states name ≡ None → maps.get m.states name ≡ Some s → Gives (node_at w at) m name ⊎ IsDelivery e
local-names w e at m name s local is is_m turns none some =
    let next = local-next w e at m name s local is turns none some in
    let boot = local-boot w e at m local is turns in
    inl (record { boot = boot; own = next.0; before = next.1; after = given_at m name s is_m some (next.0 ∙ sym boot) })

-- a node that begins anew has no state
anew-none : (w : World) (id at : NodeId) (boot : ℕ) (name : StateName) (s : State)
    → maps.get (node_at w at).states name ≡ None → maps.get (node_at (with_node w id (restarted (node_at w id) boot)) at).states name ≡ Some s → ⊥
anew-none w A A boot name s none some = absurd (some_is_none s (sym some ∙ restarted-none w.a boot name))
anew-none w A B boot name s none some = absurd (some_is_none s (sym some ∙ none))
anew-none w B A boot name s none some = absurd (some_is_none s (sym some ∙ none))
anew-none w B B boot name s none some = absurd (some_is_none s (sym some ∙ restarted-none w.b boot name))

turned-named : (w : World) (e : Event) (at : NodeId) (m : Node) (name : StateName) (s : State) → IsNode (node_at w at) → IsNode m → turned w e at ≡ m
    → maps.get (node_at w at).states name ≡ None → maps.get m.states name ≡ Some s → Gives (node_at w at) m name ⊎ IsDelivery e
turned-named w (event.At id e) at m name s is is_m turns none some = local-names w (event.At id e) at m name s tt is is_m turns none some
turned-named w (event.Flush id) at m name s is is_m turns none some = local-names w (event.Flush id) at m name s tt is is_m turns none some
turned-named w (event.Of ticket frame.Deliver) at m name s is is_m turns none some = inr tt
turned-named w (event.Of ticket frame.Lose) at m name s is is_m turns none some =
    local-names w (event.Of ticket frame.Lose) at m name s tt is is_m turns none some
turned-named w (event.Of ticket frame.Repeat) at m name s is is_m turns none some =
    local-names w (event.Of ticket frame.Repeat) at m name s tt is is_m turns none some
turned-named w (event.Of ticket (frame.Cut len)) at m name s is is_m turns none some =
    local-names w (event.Of ticket (frame.Cut len)) at m name s tt is is_m turns none some
turned-named w (event.Restart id) at m name s is is_m turns none some =
    absurd (anew-none w id at w.next_boot name s none (ap (λ (k : Node). maps.get k.states name) turns ∙ some))

pub new-named : NewStatesAreNamed
new-named w e v is is_v accepted id name s none some =
    turned-named w e id (node_at v id) name s (node-is w id is) (node-is v id is_v) (stepped-node w e v id accepted) none some
