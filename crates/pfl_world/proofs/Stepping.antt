-- The steps of the pair, and why they are refused.
use Rattle.std.specs.Prelude.{◌≡◌, ◌≤◌, ◌+◌, ℕ, Option, Some, None, Result, Ok, Err, IfErr, refl}
use Rattle.std.proofs.Common.{◌∙◌, ap, sym, subst, arith}
use Rattle.pfl_base.specs.declared.refusal.Refusal.{Refusal}
use Rattle.pfl_base.specs.declared.refusal.Refusal.TheVariants.{NoMemory}
use Rattle.pfl_base.specs.declared.node_id.NodeId.{NodeId}
use Rattle.pfl_language.specs.declared.node_event.NodeEvent.{NodeEvent}
use Rattle.pfl_language.specs.declared.node_event.NodeOutcome.{NodeOutcome}
use Rattle.pfl_language.specs.declared.event.Event.{Event}
use Rattle.pfl_language.specs.declared.event.Event.TheVariants as event
use Rattle.pfl_language.specs.declared.event.FrameEvent.{FrameEvent}
use Rattle.pfl_language.specs.declared.outcome.Outcome.{Outcome}
use Rattle.pfl_language.specs.declared.outcome.Outcome.TheVariants.{At}
use Rattle.pfl_node.specs.desk.Nodes.{Node, IsRefusal, unless_refused}
use Rattle.pfl_node.specs.Stepping.{NodeStepped, node_after, node_edits, node_meaning, node_refusal, node_step, node_weight}
use Rattle.pfl_node.proofs.ForCallers.{events-light}
use Rattle.pfl_world.specs.Events.{step, IsRefusalOf, IsEventRefusal, frame_event}
use Rattle.pfl_world.specs.Meanings.{Stepped}
use Rattle.pfl_world.specs.AtNodes.{from_node, node_event}
use Rattle.pfl_world.specs.Worlds.{World, node_at, with_node}

-- what is accepted
abbrev pub accepted : World → Outcome → Result Stepped Refusal
accepted w o = Ok (record { world = w; outcome = o })

-- a refusal that is reported is that of the step
pub refusal_of : (o : Option Refusal) (s : Stepped) (r : Refusal) → IsRefusal o r → IsRefusalOf (unless_refused o s) r
refusal_of (Some first) s r is = is
refusal_of None s r is = is

pub refused_as : {X : Type 0} (o : Option Refusal) (s : Stepped) (at : Result Stepped Refusal) → at ≡ unless_refused o s
    → (result : Result X Refusal) → IfErr result (IsRefusal o) → IfErr result (IsRefusalOf at)
refused_as o s at is (Ok x) r = tt
refused_as o s at is (Err given) r = subst (λ (v : Result Stepped Refusal). IsRefusalOf v given) (sym is) (refusal_of o s given r)

-- an event that is accepted may want memory
pub event_wants : (w : World) (e : Event) (s : Stepped) → step w e ≡ Ok s → IsEventRefusal w e NoMemory
event_wants w e s is = subst (λ (v : Result Stepped Refusal). IsRefusalOf v NoMemory) (sym is) refl

-- ---- what a node refuses, at the pair

refused_at : (w : World) (id : NodeId) (o : Option Refusal) (s : NodeStepped) (r : Refusal) → IsRefusal o r
    → IsRefusalOf (from_node w id (unless_refused o s)) r
refused_at w id (Some first) s r is = is
refused_at w id None s r is = is

-- the node was lent, and its refusal is that of the pair
pub refused_from : (w old : World) (id : NodeId) (e : NodeEvent) (was : Node) (r : Refusal) → was ≡ node_at w id → w ≡ old
    → IsRefusal (node_refusal was e) r → IsRefusalOf (node_event old id e) r
refused_from w old id e was r at view is =
    subst (λ (v : World). IsRefusalOf (node_event v id e) r) view
    (refused_at w id (node_refusal (node_at w id) e) (node_after (node_at w id) e) r (subst (λ (n : Node). IsRefusal (node_refusal n e) r) at is))

-- what it gives is what the pair gives
pub gives_from : (w old : World) (id : NodeId) (e : NodeEvent) (was n : Node) (o : NodeOutcome) → was ≡ node_at w id → w ≡ old
    → node_refusal was e ≡ None → n ≡ (node_meaning was e).after → o ≡ (node_meaning was e).outcome
    → node_event old id e ≡ accepted (with_node w id n) (At o)
gives_from w old id e was n o at view free node answer =
    let here : node_step was e ≡ Ok (record { node = n; outcome = o }) = ap (λ (r : Option Refusal). unless_refused r (node_after was e)) free
    ∙ (λ i. Ok (record { node = sym node i; outcome = sym answer i })) in
    subst (λ (v : World). node_event v id e ≡ accepted (with_node w id n) (At o)) view
    (ap (λ (m : Node). from_node w id (node_step m e)) (sym at) ∙ ap (from_node w id) here)

-- and its edits are as few
pub few_from : (w old : World) (id : NodeId) (e : NodeEvent) (was : Node) (before after : ℕ) → was ≡ node_at w id → w ≡ old
    → after ≤ before + node_edits was e → after ≤ before + node_weight (node_at old id) e
few_from w old id e was before after at view few =
    let light : node_edits was e ≤ node_weight was e = events-light was e in
    subst (λ (n : Node). after ≤ before + node_weight n e) (at ∙ ap (λ (v : World). node_at v id) view) (omega (arith, few, light))

-- ---- by the parts of the event

pub step_at : (w : World) (e : Event) (id : NodeId) (at : NodeEvent) → e ≡ event.At id at → step w e ≡ node_event w id at
unfolding step
step_at w e id at is = ap (step w) is

pub step_of : (w : World) (e : Event) (ticket : ℕ) (of : FrameEvent) → e ≡ event.Of ticket of → step w e ≡ frame_event w ticket of
unfolding step
step_of w e ticket of is = ap (step w) is
