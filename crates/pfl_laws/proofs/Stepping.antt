-- What an event of the pair keeps under one name of one of its nodes.
use Rattle.std.specs.Prelude.{◌≡◌, ◌+◌, ℕ, nat_le, [], ◌∷◌, length, Option, Some, None, Result, Ok, Err, refl}
use Rattle.std.specs.List.{fold}
use Rattle.std.specs.Option.{option_map_or}
use Rattle.std.proofs.Common.{◌∙◌, ap, sym, subst}
use Rattle.pfl_base.specs.Lists.{folds}
use Rattle.pfl_base.specs.declared.node_id.NodeId.{NodeId}
use Rattle.pfl_base.specs.declared.node_id.NodeId.TheVariants.{A, B}
use Rattle.pfl_base.specs.declared.refusal.Refusal.{Refusal}
use Rattle.pfl_base.specs.declared.refusal.Refusal.TheVariants.{NoSuchFrame, LinkFull, CountFull}
use Rattle.pfl_base.specs.declared.state_name.StateName.{StateName}
use Rattle.pfl_base.specs.Numbers.{greatest}
use Rattle.pfl_edits.specs.Maps as maps
use Rattle.pfl_edits.proofs.ForCallers.{some_is_none}
use Rattle.pfl_world.specs.wire.declared.fault.BadFrame.{BadFrame}
use Rattle.pfl_world.specs.wire.Frames.{Frame, records_of}
use Rattle.pfl_world.specs.wire.Reading.{reading}
use Rattle.pfl_language.specs.declared.node_event.NodeEvent.{NodeEvent}
use Rattle.pfl_language.specs.declared.node_event.NodeEvent.TheVariants as own
use Rattle.pfl_language.specs.declared.event.Event.{Event}
use Rattle.pfl_language.specs.declared.event.Event.TheVariants as event
use Rattle.pfl_language.specs.declared.event.FrameEvent.TheVariants as frame
use Rattle.pfl_language.specs.declared.outcome.Outcome.TheVariants as outcome
use Rattle.pfl_language.specs.declared.outcome.Outcome.{Outcome}
use Rattle.pfl_world.specs.link.Links.{Link, InFlight, is_full, is_counted_out, sent, without_frame, with_frame, cut_to}
use Rattle.pfl_world.specs.track.declared.state.State.{State}
use Rattle.pfl_world.specs.table.Tables.{AreStates}
use Rattle.pfl_world.specs.desk.Nodes.{Node, IsGiven, refused_by, full_tests, unless_refused}
use Rattle.pfl_world.specs.desk.Changes.{count_broken}
use Rattle.pfl_world.specs.node.Stepping.{NodeStepped, node_refusal, node_after}
use Rattle.pfl_world.specs.node.Flushing.{flushed}
use Rattle.pfl_world.specs.node.Purging.{purged}
use Rattle.pfl_world.specs.node.Releasing.{released_due}
use Rattle.pfl_world.specs.node.Killing.{killed}
use Rattle.pfl_world.specs.node.Clearing.{cleared}
use Rattle.pfl_world.specs.node.Events.{restarted}
use Rattle.pfl_world.specs.node.Turning as turning
use Rattle.pfl_world.specs.node.Retrying.{retried_client}
use Rattle.pfl_world.proofs.ForCallers.node.{handled-apart}
use Rattle.pfl_world.specs.receive.Receiving.{taken}
use Rattle.pfl_world.specs.Events.{step}
use Rattle.pfl_world.specs.Meanings.{Stepped}
use Rattle.pfl_world.specs.Runs.{world_after}
use Rattle.pfl_world.specs.receive.Delivering.{same_rules}
use Rattle.pfl_world.specs.AtNodes.{from_node}
use Rattle.pfl_world.specs.Flushing.{flush_refusal, sent_frame, flush_step}
use Rattle.pfl_world.specs.Delivering.{read_taken, deliver_step}
use Rattle.pfl_world.specs.Tickets.{lose_step, repeat_step, cut_step, without_ticket}
use Rattle.pfl_world.specs.Restarting.{restart_step}
use Rattle.pfl_world.specs.Worlds.{World, node_at, with_node, with_link}
use Rattle.pfl_laws.specs.Laws.{IsEvent, IsNodeEvent}
use Rattle.pfl_laws.proofs.Following.{Alike, Follows, alike-follows, inner}
use Rattle.pfl_laws.proofs.Keeping.{Keeps, keeps-as, keeps-itself}
use Rattle.pfl_laws.proofs.Handling.{handled-keeps}
use Rattle.pfl_laws.proofs.Flushing.{flushed-keeps, flushed-apart}
use Rattle.pfl_laws.proofs.Releasing.{released_due-keeps, released_due-apart}
use Rattle.pfl_laws.proofs.Clearing.{purged-keeps, purged-apart, killed-keeps, killed-apart, cleared-keeps, cleared-apart}
use Rattle.pfl_laws.proofs.Delivering.{received, received-apart}
use Rattle.pfl_laws.proofs.Restarting.{restarted-apart}
use Rattle.pfl_laws.proofs.Asking.{turned-basis, retried-basis, basis-keeps, basis-apart}

-- ---- the pair

-- each node after what is there of a frame came to its receiver
abbrev pub arrived : World → NodeId → Option InFlight → Node
arrived w at None = node_at w at
arrived w at (Some f) = node_at (with_node w f.to (received (node_at w f.to) (reading f.bytes))) at

-- each node after the event
abbrev pub turned : World → Event → NodeId → Node
turned w (event.At id e) at = node_at (with_node w id (node_after (node_at w id) e).node) at
turned w (event.Flush id) at = node_at (with_node w id (flushed (node_at w id))) at
turned w (event.Of ticket frame.Deliver) at = arrived w at (maps.get w.link.frames ticket)
turned w (event.Of ticket e) at = node_at w at
turned w (event.Restart id) at = node_at (with_node w id (restarted (node_at w id) w.next_boot)) at

-- the world after an event that is accepted
pub answered-world : (o : Option Refusal) (s : Stepped) (v : World) → world_after (unless_refused o s) ≡ Some v → s.world ≡ v
answered-world None s v e = inner s.world v e
answered-world (Some r) s v e = absurd (some_is_none v (sym e))

answered-node : (o : Option Refusal) (s : Stepped) (v : World) (at : NodeId) → world_after (unless_refused o s) ≡ Some v → node_at s.world at ≡ node_at v at
answered-node o s v at e = ap (λ (u : World). node_at u at) (answered-world o s v e)

-- another link leaves the nodes
pub link-node : (w : World) (l : Link) (at : NodeId) → node_at w at ≡ node_at (with_link w l) at
link-node w l A = refl
link-node w l B = refl

-- what becomes of a frame leaves them
frame-node : (w : World) (frame : Option InFlight) (o : Option Refusal) (l : InFlight → Link) (out : InFlight → Outcome) (v : World) (at : NodeId)
    → world_after (option_map_or (λ f. unless_refused o (record { world = with_link w (l f); outcome = out f })) frame (Err NoSuchFrame))
    ≡ Some v → node_at w at ≡ node_at v at
frame-node w None o l out v at e = absurd (some_is_none v (sym e))
frame-node w (Some f) o l out v at e = link-node w (l f) at ∙ answered-node o (record { world = with_link w (l f); outcome = out f }) v at e

-- a node takes the place that it was lent from
pub own-world : (w : World) (id : NodeId) (o : Option Refusal) (s : NodeStepped) (v : World)
    → world_after (from_node w id (unless_refused o s)) ≡ Some v → with_node w id s.node ≡ v
own-world w id None s v e = inner (with_node w id s.node) v e
own-world w id (Some r) s v e = absurd (some_is_none v (sym e))

-- neither the link nor the next boot is a node's
other-link : (w : World) (l : Link) (id : NodeId) (n : Node) (at : NodeId) → node_at (with_node w id n) at ≡ node_at (with_node (with_link w l) id n) at
other-link w l A n A = refl
other-link w l A n B = refl
other-link w l B n A = refl
other-link w l B n B = refl

other-boot : (w : World) (boot : ℕ) (at : NodeId) → node_at w at ≡ node_at (record w { next_boot = boot }) at
other-boot w boot A = refl
other-boot w boot B = refl

-- a frame comes to its receiver
read-node : (w : World) (ticket : ℕ) (to : NodeId) (r : Result Frame BadFrame) (v : World) (at : NodeId)
    → world_after (read_taken (without_ticket w ticket) to (node_at w to) r) ≡ Some v → node_at (with_node w to (received (node_at w to) r)) at ≡ node_at v at
read-node w ticket to (Ok f) v at e =
    let n = node_at w to in
    let m = fold (λ k r. taken k (same_rules n f) r) n (records_of f) in
    other-link w (without_frame w.link ticket) to m at
    ∙ answered-node (refused_by (full_tests (folds (λ k r. taken k (same_rules n f) r) n (records_of f))))
    (record { world = with_node (without_ticket w ticket) to m; outcome = outcome.Taken (length (records_of f)) }) v at e
read-node w ticket to (Err why) v at e =
    let m = count_broken (node_at w to) in
    other-link w (without_frame w.link ticket) to m at
    ∙ answered-node (refused_by (full_tests (m ∷ []))) (record { world = with_node (without_ticket w ticket) to m; outcome = outcome.Broken why }) v at e

arrived-node : (w : World) (ticket : ℕ) (o : Option InFlight) (v : World) (at : NodeId)
    → world_after (option_map_or (λ f. read_taken (without_ticket w ticket) f.to (node_at w f.to) (reading f.bytes)) o (Err NoSuchFrame))
    ≡ Some v → arrived w at o ≡ node_at v at
arrived-node w ticket None v at e = absurd (some_is_none v (sym e))
arrived-node w ticket (Some f) v at e = read-node w ticket f.to (reading f.bytes) v at e

pub stepped-node : (w : World) (e : Event) (v : World) (at : NodeId) → world_after (step w e) ≡ Some v → turned w e at ≡ node_at v at
unfolding step flush_step deliver_step lose_step repeat_step cut_step restart_step
stepped-node w (event.At id e) v at is =
    ap (λ (u : World). node_at u at) (own-world w id (node_refusal (node_at w id) e) (node_after (node_at w id) e) v is)
stepped-node w (event.Flush id) v at e =
    link-node (with_node w id (flushed (node_at w id))) (sent w.link (sent_frame w id)) at
    ∙ answered-node (flush_refusal w id)
    (record {
      world = with_link (with_node w id (flushed (node_at w id))) (sent w.link (sent_frame w id));
      outcome = outcome.Sent w.link.next (length (sent_frame w id).bytes);
    }) v at e
stepped-node w (event.Of ticket frame.Deliver) v at e = arrived-node w ticket (maps.get w.link.frames ticket) v at e
stepped-node w (event.Of ticket frame.Lose) v at e = frame-node w (maps.get w.link.frames ticket) None (λ f. without_frame w.link ticket)
    (λ f. outcome.Lost) v at e
stepped-node w (event.Of ticket frame.Repeat) v at e =
    frame-node w (maps.get w.link.frames ticket) (refused_by ((is_full w.link, LinkFull) ∷ (is_counted_out w.link, CountFull) ∷ []))
    (λ f. sent w.link f) (λ f. outcome.Sent w.link.next (length f.bytes)) v at e
stepped-node w (event.Of ticket (frame.Cut len)) v at e =
    frame-node w (maps.get w.link.frames ticket) None (λ f. with_frame w.link ticket (cut_to f len)) (λ f. outcome.CutTo (length (cut_to f len).bytes)) v at e
stepped-node w (event.Restart id) v at e =
    let anew = with_node w id (restarted (node_at w id) w.next_boot) in
    other-boot anew (w.next_boot + 1) at
    ∙ answered-node (refused_by ((nat_le greatest w.next_boot, CountFull) ∷ []))
    (record { world = record anew { next_boot = w.next_boot + 1 }; outcome = outcome.Boot w.next_boot }) v at e

-- one node of it is another one, and the other node stays
put-keeps : (R : State → State → Type 0) (q : StateName) (w : World) (id : NodeId) (m : Node) (at : NodeId) → ((s : State) → R s s)
    → (AreStates (node_at w id).states → IsGiven (node_at w id) q → Keeps R q (node_at w id) m)
    → AreStates (node_at w at).states → IsGiven (node_at w at) q → Keeps R q (node_at w at) (node_at (with_node w id m) at)
put-keeps R q w A m A itself keeps are given = keeps are given
put-keeps R q w A m B itself keeps are given = keeps-itself R q w.b itself
put-keeps R q w B m A itself keeps are given = keeps-itself R q w.a itself
put-keeps R q w B m B itself keeps are given = keeps are given

put-apart : (w : World) (id : NodeId) (m : Node) (at : NodeId) → (AreStates (node_at w id).states → AreStates m.states)
    → AreStates (node_at w at).states → AreStates (node_at (with_node w id m) at).states
put-apart w A m A apart are = apart are
put-apart w A m B apart are = are
put-apart w B m A apart are = are
put-apart w B m B apart are = apart are

-- a state follows itself
itself : (s : State) → Follows (Unit {0}) s s
itself s = alike-follows (Unit {0}) s s refl

-- it keeps what is alike
put-alike : (q : StateName) (w : World) (id : NodeId) (m : Node) (at : NodeId) → (AreStates (node_at w id).states → Keeps Alike q (node_at w id) m)
    → AreStates (node_at w at).states → IsGiven (node_at w at) q → Keeps (Follows (Unit {0})) q (node_at w at) (node_at (with_node w id m) at)
put-alike q w id m at keeps =
    put-keeps (Follows (Unit {0})) q w id m at itself
    (λ are given. keeps-as Alike (Follows (Unit {0})) q (node_at w id) m (alike-follows (Unit {0})) (keeps are))

-- a node's own event
after-alike : (q : StateName) (n m : Node) → Keeps Alike q n m → Keeps (Follows (Unit {0})) q n m
after-alike q n m keeps = keeps-as Alike (Follows (Unit {0})) q n m (alike-follows (Unit {0})) keeps

pub after-keeps : (q : StateName) (n : Node) (e : NodeEvent) → AreStates n.states → IsGiven n q → Keeps (Follows (IsNodeEvent e)) q n (node_after n e).node
after-keeps q n (own.Packet dir p) are given = handled-keeps q n dir p are given
after-keeps q n (own.Tick ms) are given = keeps-itself (Follows (Unit {0})) q n itself
after-keeps q n own.Purge are given = after-alike q n (purged n) (purged-keeps q n)
after-keeps q n own.Release are given = after-alike q n (released_due n) (released_due-keeps q n are)
after-keeps q n (own.Kill name) are given = after-alike q n (killed n name) (killed-keeps q n name)
after-keeps q n own.Clear are given = after-alike q n (cleared n) (cleared-keeps q n)
after-keeps q n own.BulkTurn are given = after-alike q n (turning.turned n) (basis-keeps q n (turning.turned n) (turned-basis n))
after-keeps q n own.BulkRetry are given = after-alike q n (retried_client n) (basis-keeps q n (retried_client n) (retried-basis n))

pub after-apart : (n : Node) (e : NodeEvent) → AreStates n.states → AreStates (node_after n e).node.states
after-apart n (own.Packet dir p) are = handled-apart n dir p are
after-apart n (own.Tick ms) are = are
after-apart n own.Purge are = purged-apart n are
after-apart n own.Release are = released_due-apart n are
after-apart n (own.Kill name) are = killed-apart n name are
after-apart n own.Clear are = cleared-apart n are
after-apart n own.BulkTurn are = basis-apart n (turning.turned n) (turned-basis n) are
after-apart n own.BulkRetry are = basis-apart n (retried_client n) (retried-basis n) are

-- a node does it for itself: no record of the peer's brings a state, and it stays in its boot
abbrev pub IsLocal : Event → Type 0
IsLocal (event.Of ticket frame.Deliver) = ⊥
IsLocal (event.Restart id) = ⊥
IsLocal _ = Unit {0}

pub turned-keeps : (q : StateName) (w : World) (e : Event) (at : NodeId) → IsLocal e → AreStates (node_at w at).states
    → IsGiven (node_at w at) q → Keeps (Follows (IsEvent e)) q (node_at w at) (turned w e at)
turned-keeps q w (event.At id e) at local are given =
    put-keeps (Follows (IsNodeEvent e)) q w id (node_after (node_at w id) e).node at (λ s. alike-follows (IsNodeEvent e) s s refl)
    (after-keeps q (node_at w id) e) are given
turned-keeps q w (event.Flush id) at local are given = put-alike q w id (flushed (node_at w id)) at (flushed-keeps q (node_at w id)) are given
turned-keeps q w (event.Of ticket frame.Deliver) at local are given = absurd local
turned-keeps q w (event.Of ticket frame.Lose) at local are given = keeps-itself (Follows (Unit {0})) q (node_at w at) itself
turned-keeps q w (event.Of ticket frame.Repeat) at local are given = keeps-itself (Follows (Unit {0})) q (node_at w at) itself
turned-keeps q w (event.Of ticket (frame.Cut len)) at local are given = keeps-itself (Follows (Unit {0})) q (node_at w at) itself
turned-keeps q w (event.Restart id) at local are given = absurd local

arrived-apart : (w : World) (at : NodeId) (o : Option InFlight) → AreStates (node_at w at).states → AreStates (arrived w at o).states
arrived-apart w at None are = are
arrived-apart w at (Some f) are = put-apart w f.to (received (node_at w f.to) (reading f.bytes)) at (received-apart (node_at w f.to) (reading f.bytes)) are

pub turned-apart : (w : World) (e : Event) (at : NodeId) → AreStates (node_at w at).states → AreStates (turned w e at).states
turned-apart w (event.At id e) at are = put-apart w id (node_after (node_at w id) e).node at (after-apart (node_at w id) e) are
turned-apart w (event.Flush id) at are = put-apart w id (flushed (node_at w id)) at (flushed-apart (node_at w id)) are
turned-apart w (event.Of ticket frame.Deliver) at are = arrived-apart w at (maps.get w.link.frames ticket) are
turned-apart w (event.Of ticket frame.Lose) at are = are
turned-apart w (event.Of ticket frame.Repeat) at are = are
turned-apart w (event.Of ticket (frame.Cut len)) at are = are
turned-apart w (event.Restart id) at are = put-apart w id (restarted (node_at w id) w.next_boot) at (λ a. restarted-apart (node_at w id) w.next_boot) are

-- each state stands under its own name and keys after an event that is accepted
pub stepped-apart : (w : World) (e : Event) (v : World) (at : NodeId) → world_after (step w e) ≡ Some v → AreStates (node_at w at).states
    → AreStates (node_at v at).states
stepped-apart w e v at accepted are =
    subst (λ (m : Node). AreStates m.states) (stepped-node w e v at accepted) (turned-apart w e at are)
