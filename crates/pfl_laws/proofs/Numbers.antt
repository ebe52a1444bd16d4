-- Names, tickets and boot numbers: each event leaves them or goes on from the next one, so that none is given twice.
use Rattle.std.specs.Prelude.{◌≡◌, ◌≤◌, ◌<◌, ◌+◌, ◌⊎◌, Bool, true, false, List, [], ◌∷◌, Option, Some, None, refl}
use Rattle.std.proofs.Common.{◌∙◌, T, ap, sym, subst, arith, inl, inr}
use Rattle.pfl_base.specs.declared.node_id.NodeId.{NodeId}
use Rattle.pfl_base.specs.declared.node_id.NodeId.TheVariants.{A, B}
use Rattle.pfl_base.specs.declared.state_name.StateName.{StateName}
use Rattle.pfl_edits.specs.Maps as maps
use Rattle.pfl_world.specs.table.Tables.{AreStates}
use Rattle.pfl_world.specs.wire.Reading.{reading}
use Rattle.pfl_language.specs.declared.event.Event.{Event}
use Rattle.pfl_language.specs.declared.event.Event.TheVariants as event
use Rattle.pfl_language.specs.declared.event.FrameEvent.TheVariants as frame
use Rattle.pfl_world.specs.link.Links.{InFlight}
use Rattle.pfl_world.specs.desk.Nodes.{Node, IsGiven}
use Rattle.pfl_world.specs.node.Events.{restarted}
use Rattle.pfl_world.specs.Events.{step}
use Rattle.pfl_world.specs.Runs.{run, world_after}
use Rattle.pfl_world.specs.Worlds.{World, node_at, with_node}
use Rattle.pfl_laws.specs.Laws.{AreBoots, OpeningsAreBoots, LaterOpeningsAreBoots, EventsKeepBoots, NoNameIsGivenTwice, NoTicketIsGivenTwice}
use Rattle.pfl_laws.specs.Laws.{NoBootIsGivenTwice}
use Rattle.pfl_laws.proofs.Delivering.{Ids, ids, received, received-ids}
use Rattle.pfl_laws.proofs.Restarting.{restarted-creator}
use Rattle.pfl_laws.proofs.Running.{on-run, at-end}
use Rattle.pfl_laws.proofs.Stepping.{turned, arrived, IsLocal, turned-keeps, stepped-node, stepped-apart}
use Rattle.pfl_laws.proofs.Stepped.{result, of_frame, stepped-world}

-- ---- tickets and boots

-- the next ticket and the next boot go on
record GoesOn (w v : World) : Type 0 where
  ticket : w.link.next ≤ v.link.next
  boot : w.next_boot ≤ v.next_boot

stays : (w : World) → GoesOn w w
stays w = record { ticket = omega arith; boot = omega arith }

frame-on : (w : World) (o : Option InFlight) (done : InFlight → World) → ((f : InFlight) → GoesOn w (done f)) → GoesOn w (of_frame w o done)
frame-on w None done on = stays w
frame-on w (Some f) done on = on f

result-on : (w : World) (e : Event) → GoesOn w (result w e)
result-on w (event.At id e) = record { ticket = omega arith; boot = omega arith }
result-on w (event.Flush id) = record { ticket = omega arith; boot = omega arith }
result-on w (event.Of ticket frame.Deliver) = frame-on w (maps.get w.link.frames ticket) _ (λ f. record { ticket = omega arith; boot = omega arith })
result-on w (event.Of ticket frame.Lose) = frame-on w (maps.get w.link.frames ticket) _ (λ f. record { ticket = omega arith; boot = omega arith })
result-on w (event.Of ticket frame.Repeat) = frame-on w (maps.get w.link.frames ticket) _ (λ f. record { ticket = omega arith; boot = omega arith })
result-on w (event.Of ticket (frame.Cut len)) = frame-on w (maps.get w.link.frames ticket) _ (λ f. record { ticket = omega arith; boot = omega arith })
result-on w (event.Restart id) = record { ticket = omega arith; boot = omega arith }

goes-on : (w : World) (e : Event) (v : World) → world_after (step w e) ≡ Some v → GoesOn w v
goes-on w e v accepted = subst (GoesOn w) (stepped-world w e v accepted) (result-on w e)

then-on : (u v w : World) → GoesOn u v → GoesOn v w → GoesOn u w
then-on u v w first next =
    let a = first.ticket in
    let b = first.boot in
    let c = next.ticket in
    let d = next.boot in
    record { ticket = omega arith; boot = omega arith }

along-on : (es : List Event) (w v : World) → run w es ≡ Some v → GoesOn w v
along-on [] w v ran = subst (GoesOn w) (at-end w v ran) (record { ticket = omega arith; boot = omega arith })
along-on (e ∷ es) w v ran = on-run (GoesOn w v) w v e es ran (λ u accepted rest. then-on w u v (goes-on w e u accepted) (along-on es u v rest))

pub tickets-once : NoTicketIsGivenTwice
tickets-once w first v es u last x accepted ran later ticket gives again =
    let on = (along-on es v u ran).ticket in
    let low = gives.after in
    let high = again.before in
    omega arith

pub boots-once : NoBootIsGivenTwice
boots-once w first v es u last x accepted ran later boot gives again =
    let on = (along-on es v u ran).boot in
    let low = gives.after in
    let high = again.before in
    omega arith

-- ---- the boots of the nodes

pub boots-opening : OpeningsAreBoots
boots-opening l a b = record { apart = λ e. absurd (omega arith); a = omega arith; b = omega arith }

pub boots-later_opening : LaterOpeningsAreBoots
boots-later_opening l a b start from = record { apart = λ e. absurd (omega arith); a = omega arith; b = omega arith }

-- the node is in its boot still, and its ids go on; or it begins the next boot
abbrev Names : World → Event → NodeId → Node → Type 0
Names w e at m = ((m.creator ≡ (node_at w at).creator) × ((node_at w at).next_id ≤ m.next_id)) ⊎ ((m.creator ≡ w.next_boot) × (e ≡ event.Restart at))

local-names : (w : World) (e : Event) (at : NodeId) → IsLocal e → AreStates (node_at w at).states → Names w e at (turned w e at)
local-names w e at local are =
    let other : StateName = record { creator = (node_at w at).creator + 1; id = 0 } in
    let keeps = turned-keeps other w e at local are (λ own. absurd (omega arith)) in
    inl (keeps.creator, keeps.next)

same-names : (w : World) (e : Event) (at : NodeId) (m : Node) → ids m ≡ ids (node_at w at) → Names w e at m
same-names w e at m same =
    let next : m.next_id ≡ (node_at w at).next_id = ap (λ (i : Ids). i.1) same in
    inl (ap (λ (i : Ids). i.0) same, omega arith)

arrived-names : (w : World) (e : Event) (o : Option InFlight) (at : NodeId) → Names w e at (arrived w at o)
arrived-names w e None at = same-names w e at (node_at w at) refl
arrived-names w e (Some f) at = by f.to at
  where
    by : (to at : NodeId) → Names w e at (node_at (with_node w to (received (node_at w to) (reading f.bytes))) at)
    by A A = same-names w e A (received w.a (reading f.bytes)) (received-ids w.a (reading f.bytes))
    by A B = same-names w e B w.b refl
    by B A = same-names w e A w.a refl
    by B B = same-names w e B (received w.b (reading f.bytes)) (received-ids w.b (reading f.bytes))

anew-names : (w : World) (id at : NodeId) → Names w (event.Restart id) at (node_at (with_node w id (restarted (node_at w id) w.next_boot)) at)
anew-names w A A = inr (restarted-creator w.a w.next_boot, refl)
anew-names w A B = same-names w (event.Restart A) B w.b refl
anew-names w B A = same-names w (event.Restart B) A w.a refl
anew-names w B B = inr (restarted-creator w.b w.next_boot, refl)

turned-names : (w : World) (e : Event) (at : NodeId) → AreStates (node_at w at).states → Names w e at (turned w e at)
turned-names w (event.At id e) at are = local-names w (event.At id e) at tt are
turned-names w (event.Flush id) at are = local-names w (event.Flush id) at tt are
turned-names w (event.Of ticket frame.Deliver) at are = arrived-names w (event.Of ticket frame.Deliver) (maps.get w.link.frames ticket) at
turned-names w (event.Of ticket frame.Lose) at are = local-names w (event.Of ticket frame.Lose) at tt are
turned-names w (event.Of ticket frame.Repeat) at are = local-names w (event.Of ticket frame.Repeat) at tt are
turned-names w (event.Of ticket (frame.Cut len)) at are = local-names w (event.Of ticket (frame.Cut len)) at tt are
turned-names w (event.Restart id) at are = anew-names w id at

stepped-names : (w : World) (e : Event) (v : World) (at : NodeId) → world_after (step w e) ≡ Some v → AreStates (node_at w at).states
    → Names w e at (node_at v at)
stepped-names w e v at accepted are = subst (Names w e at) (stepped-node w e v at accepted) (turned-names w e at are)

-- a restart takes a boot number
boot-up : (w : World) (id : NodeId) (v : World) → world_after (step w (event.Restart id)) ≡ Some v → w.next_boot < v.next_boot
boot-up w id v accepted = subst (λ (u : World). w.next_boot < u.next_boot) (stepped-world w (event.Restart id) v accepted) (omega arith)

taken-boot : (w : World) (e : Event) (v : World) (at : NodeId) → world_after (step w e) ≡ Some v → e ≡ event.Restart at → w.next_boot < v.next_boot
taken-boot w e v at accepted same = boot-up w at v (ap (λ (x : Event). world_after (step w x)) (sym same) ∙ accepted)

-- an event restarts one node
abbrev restarts_a : Event → Bool
restarts_a (event.Restart A) = true
restarts_a _ = false

boots-by : (w : World) (e : Event) (v : World) → world_after (step w e) ≡ Some v → GoesOn w v → AreBoots w → Names w e A v.a → Names w e B v.b → AreBoots v
boots-by w e v accepted on boots (inl a) (inl b) =
    let go = on.boot in
    let low_a = boots.a in
    let low_b = boots.b in
    let same_a : v.a.creator ≡ w.a.creator = a.0 in
    let same_b : v.b.creator ≡ w.b.creator = b.0 in
    record { apart = λ same. boots.apart (sym same_a ∙ (same ∙ same_b)); a = omega arith; b = omega arith }
boots-by w e v accepted on boots (inl a) (inr b) =
    let up = taken-boot w e v B accepted b.1 in
    let low_a = boots.a in
    let same_a : v.a.creator ≡ w.a.creator = a.0 in
    let new_b : v.b.creator ≡ w.next_boot = b.0 in
    record { apart = λ same. absurd (omega arith); a = omega arith; b = omega arith }
boots-by w e v accepted on boots (inr a) (inl b) =
    let up = taken-boot w e v A accepted a.1 in
    let low_b = boots.b in
    let new_a : v.a.creator ≡ w.next_boot = a.0 in
    let same_b : v.b.creator ≡ w.b.creator = b.0 in
    record { apart = λ same. absurd (omega arith); a = omega arith; b = omega arith }
boots-by w e v accepted on boots (inr a) (inr b) = absurd (subst (λ (x : Event). T (restarts_a x)) (sym a.1 ∙ b.1) tt)

boots-on : (w : World) (e : Event) (v : World) → AreStates w.a.states → AreStates w.b.states → AreBoots w → world_after (step w e) ≡ Some v → AreBoots v
boots-on w e v a b boots accepted = boots-by w e v accepted (goes-on w e v accepted) boots (stepped-names w e v A accepted a) (stepped-names w e v B accepted b)

pub boots-step : EventsKeepBoots
boots-step w e v is boots accepted = boots-on w e v is.a.parts.states is.b.parts.states boots accepted

-- ---- names

-- the name was given: neither node gives it again in this boot, and its boot is past
record Spent (w : World) (name : StateName) : Type 0 where
  past : name.creator < w.next_boot
  a : IsGiven w.a name
  b : IsGiven w.b name

given-by : (w : World) (e : Event) (v : World) (at : NodeId) (name : StateName) (m : Node) → name.creator < w.next_boot
    → IsGiven (node_at w at) name → Names w e at m → IsGiven m name
given-by w e v at name m past given (inl same) =
    λ own. let low = given (own ∙ same.0) in let up = same.1 in omega arith
given-by w e v at name m past given (inr anew) = λ own. let new = anew.0 in absurd (omega arith)

spent-on : (w : World) (e : Event) (v : World) (name : StateName) → AreStates w.a.states → AreStates w.b.states → Spent w name
    → world_after (step w e) ≡ Some v → Spent v name
spent-on w e v name a b spent accepted =
    let on = (goes-on w e v accepted).boot in
    let low = spent.past in
    record {
      past = omega arith;
      a = given-by w e v A name v.a spent.past spent.a (stepped-names w e v A accepted a);
      b = given-by w e v B name v.b spent.past spent.b (stepped-names w e v B accepted b);
    }

spent-along : (es : List Event) (w v : World) (name : StateName) → AreStates w.a.states → AreStates w.b.states → Spent w name → run w es ≡ Some v → Spent v name
spent-along [] w v name a b spent ran = subst (λ (u : World). Spent u name) (at-end w v ran) spent
spent-along (e ∷ es) w v name a b spent ran = on-run (Spent v name) w v e es ran (λ u accepted rest.
    spent-along es u v name (stepped-apart w e u A accepted a) (stepped-apart w e u B accepted b) (spent-on w e u name a b spent accepted) rest)

-- after a name was given, it is spent: the other node is of another boot
spends : (v : World) (id : NodeId) (name : StateName) → AreBoots v → name.creator ≡ (node_at v id).creator → name.id < (node_at v id).next_id → Spent v name
spends v A name boots own low =
    let past = boots.a in
    record { past = omega arith; a = λ same. low; b = λ same. absurd (boots.apart (sym own ∙ same)) }
spends v B name boots own low =
    let past = boots.b in
    record { past = omega arith; a = λ same. absurd (boots.apart (sym same ∙ own)); b = λ same. low }

given-at : (u : World) (id : NodeId) (name : StateName) → Spent u name → IsGiven (node_at u id) name
given-at u A name spent = spent.a
given-at u B name spent = spent.b

pub names-once : NoNameIsGivenTwice
names-once w first v es u last x is boots accepted ran later id again name gives twice =
    let a = is.a.parts.states in
    let b = is.b.parts.states in
    let boots_on = boots-on w first v a b boots accepted in
    let spent = spends v id name boots_on (gives.own ∙ sym gives.boot) gives.after in
    let still = spent-along es v u name (stepped-apart w first v A accepted a) (stepped-apart w first v B accepted b) spent ran in
    let low = given-at u again name still twice.own in
    let high = twice.before in
    omega arith
