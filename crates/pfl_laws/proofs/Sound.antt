-- Between events states wait for acknowledgements exactly while their packets are held, and names were given: each event of the
-- pair keeps that of its nodes, and so do runs of events.
use Rattle.std.specs.Prelude.{◌≡◌, ℕ, false, List, [], ◌∷◌, Option, Some, None, IfSome, Result, option_and_then, refl}
use Rattle.std.specs.List.{fold}
use Rattle.std.proofs.Common.{◌∙◌, ap, sym, subst}
use Rattle.pfl_base.specs.declared.direction.Dir.{Dir}
use Rattle.pfl_base.specs.declared.node_id.NodeId.{NodeId}
use Rattle.pfl_base.specs.declared.node_id.NodeId.TheVariants.{A, B}
use Rattle.pfl_base.specs.declared.packet.Packet.{Packet}
use Rattle.pfl_base.specs.declared.state_name.StateName.{StateName}
use Rattle.pfl_base.specs.Keys.{key}
use Rattle.pfl_base.specs.Packets.{IsPacket}
use Rattle.pfl_base.specs.Names.{name_cmp}
use Rattle.pfl_edits.specs.Maps as maps
use Rattle.pfl_edits.proofs.ForCallers.{get-empty, some_is_none}
use Rattle.pfl_world.specs.track.declared.state.State.{State}
use Rattle.pfl_world.specs.track.declared.tracked.Tracked.{Tracked}
use Rattle.pfl_world.specs.track.declared.tracked.Tracked.TheVariants.{Moved, OutOfWindow, Reused}
use Rattle.pfl_world.proofs.ForCallers.track.{Stays, tracked_by-stays}
use Rattle.pfl_world.specs.table.Tables.{AreStates, found}
use Rattle.pfl_world.proofs.ForCallers.table.{found-stands}
use Rattle.pfl_world.specs.wire.declared.fault.BadFrame.{BadFrame}
use Rattle.pfl_world.specs.wire.Frames.{Frame}
use Rattle.pfl_world.specs.wire.Reading.{reading}
use Rattle.pfl_language.specs.declared.node_event.NodeEvent.{NodeEvent}
use Rattle.pfl_language.specs.declared.node_event.NodeEvent.TheVariants as own
use Rattle.pfl_language.specs.declared.event.Event.{Event}
use Rattle.pfl_language.specs.declared.event.Event.TheVariants as event
use Rattle.pfl_language.specs.declared.event.FrameEvent.TheVariants as frame
use Rattle.pfl_world.specs.link.Links.{InFlight}
use Rattle.pfl_world.specs.queue.declared.Entry.{Entry}
use Rattle.pfl_world.specs.queue.declared.Entry.TheVariants.{Marked, Request, Status, Clear}
use Rattle.pfl_world.specs.queue.Taking.{next_frame, left_by}
use Rattle.pfl_world.specs.desk.Nodes.{Node}
use Rattle.pfl_world.specs.desk.Changes.{put_state, count_blocked, is_held, deleted}
use Rattle.pfl_world.specs.node.Stepping.{node_after}
use Rattle.pfl_world.specs.node.Ticking.{ticked}
use Rattle.pfl_world.specs.node.Purging.{purged}
use Rattle.pfl_world.specs.node.Releasing.{released_due}
use Rattle.pfl_world.specs.node.Killing.{killed}
use Rattle.pfl_world.specs.node.Clearing.{cleared}
use Rattle.pfl_world.specs.node.Events.{restarted}
use Rattle.pfl_world.specs.node.Turning as turning
use Rattle.pfl_world.specs.node.Retrying.{retried_client}
use Rattle.pfl_world.specs.node.Flushing.{flushed, update_count_cleared}
use Rattle.pfl_world.specs.node.Packets.{handled, handled_by, followed, accepted, tracked_at}
use Rattle.pfl_world.proofs.ForCallers.node.{handled-apart}
use Rattle.pfl_world.specs.Events.{step}
use Rattle.pfl_world.specs.Runs.{run, world_after}
use Rattle.pfl_world.specs.rules.Rules.{Rules}
use Rattle.pfl_language.specs.declared.limits.Limits.{Limits}
use Rattle.pfl_world.specs.Worlds.{World, IsWorld, node_at, with_node, opening_world}
use Rattle.pfl_laws.specs.Laws.{waits_for_ack, IsTied, AreTied, OpeningsAreTied, LaterOpeningsAreTied, EventsKeepTied, EventsKeepTiedAlong}
use Rattle.pfl_laws.proofs.Following.{Alike, Follows, Filed}
use Rattle.pfl_laws.proofs.Keeping.{deleted-keeps}
use Rattle.pfl_laws.proofs.Handling.{filed-without, accepted-keeps}
use Rattle.pfl_laws.proofs.Flushing.{entry-apart, flushed-keeps, flushed-apart}
use Rattle.pfl_laws.proofs.Releasing.{released_due-keeps, released_due-apart, released_due-tied}
use Rattle.pfl_laws.proofs.Clearing.{purged-keeps, purged-apart, purged-tied, killed-keeps, killed-apart, killed-tied, cleared-keeps, cleared-apart}
use Rattle.pfl_laws.proofs.Clearing.{cleared-tied}
use Rattle.pfl_laws.proofs.Asking.{basis, turned-basis, retried-basis, basis-keeps, basis-apart, basis-tied}
use Rattle.pfl_laws.proofs.Delivering.{received, received-apart, received-given, received-tied}
use Rattle.pfl_laws.proofs.Restarting.{restarted-apart, restarted-given, restarted-tied}
use Rattle.pfl_laws.proofs.Stepping.{turned, arrived, stepped-node}
use Rattle.pfl_laws.proofs.Running.{node-is, given_at}
use Rattle.pfl_laws.proofs.Tied.{waits, tied-same, tied-put, tied-some, tied-deleted}
use Rattle.pfl_laws.proofs.Waiting.{AreGiven, given-keeps, judged-given, judged-tied, accepted-tied}

-- what each event keeps of a node
pub record Sound (n : Node) : Type 0 where
  pub states : AreStates n.states
  pub given : AreGiven n
  pub tied : IsTied n

followed-sound : (n : Node) (dir : Dir) (p : Packet) (s : State) (x : Tracked) → Sound n → maps.get n.states s.name ≡ Some s → Stays s x
    → tracked_at n s p dir ≡ x
    → AreGiven (followed n dir p s x).node × IsTied (followed n dir p s x).node
followed-sound n dir p s (Moved t) is at stays e =
    (given-keeps (Follows (IsPacket p)) n (accepted n t).node (λ q. accepted-keeps q n dir p s t at stays.name e) is.given, accepted-tied n t is.tied)
followed-sound n dir p s OutOfWindow is at stays e = (is.given, tied-same n (count_blocked n) is.tied refl refl)
followed-sound n dir p s Reused is at stays e =
    let filed = filed-without n s is.states.filed in
    let given = given-keeps Alike n (deleted n s) (λ q. deleted-keeps q n s) is.given in
    let tied = tied-deleted n s is.tied in
    (judged-given (deleted n s) dir p filed given, judged-tied (deleted n s) dir p filed given tied)

handled-sound : (n : Node) (dir : Dir) (p : Packet) → Sound n → Sound (handled n dir p).node
unfolding handled
handled-sound n dir p is =
    let both = by (found n.states (key p dir) dir) refl in
    record { states = handled-apart n dir p is.states; given = both.0; tied = both.1 }
  where
    by : (o : Option State) → found n.states (key p dir) dir ≡ o → AreGiven (handled_by n dir p o).node × IsTied (handled_by n dir p o).node
    by None e = (judged-given n dir p is.states.filed is.given, judged-tied n dir p is.states.filed is.given is.tied)
    by (Some s) e = followed-sound n dir p s (tracked_at n s p dir) is (found-stands n.states (key p dir) dir s is.states e)
        (tracked_by-stays n.limits.kernel s p dir n.clock) refl

-- an entry that was sent clears a count of updates
entry-tied : (n : Node) (e : Entry) → Filed n.states → IsTied n → IsTied (update_count_cleared n e)
entry-tied n (Marked kind number name) filed tied =
    tied-some (maps.get n.states name) (λ s. put_state n (record s { updates = 0 })) n
    (λ s at. tied-put n (put_state n (record s { updates = 0 })) (record s { updates = 0 }) tied refl refl
    (ap waits (sym at) ∙ ap (λ (k : StateName). waits (maps.get n.states k)) (sym (filed name s at)) ∙ sym (tied s.name)))
    tied
entry-tied n (Request name) filed tied = tied
entry-tied n (Status status) filed tied = tied
entry-tied n (Clear creator bound) filed tied = tied

entries-tied : (es : List Entry) (n : Node) → AreStates n.states → IsTied n → IsTied (fold update_count_cleared n es)
entries-tied [] n are tied = tied
entries-tied (e ∷ es) n are tied = entries-tied es (update_count_cleared n e) (entry-apart n e are) (entry-tied n e are.filed tied)

flushed-tied : (n : Node) → AreStates n.states → IsTied n → IsTied (flushed n)
unfolding flushed
flushed-tied n are tied =
    let entries = next_frame n.queue n.limits.mtu in
    let m = record n { queue = left_by n.queue entries; push = false } in
    entries-tied entries m are (tied-same n m tied refl refl)

flushed-sound : (n : Node) → Sound n → Sound (flushed n)
flushed-sound n is = record {
  states = flushed-apart n is.states;
  given = given-keeps Alike n (flushed n) (λ q. flushed-keeps q n is.states) is.given;
  tied = flushed-tied n is.states is.tied;
}

purged-sound : (n : Node) → Sound n → Sound (purged n)
purged-sound n is = record {
  states = purged-apart n is.states;
  given = given-keeps Alike n (purged n) (λ q. purged-keeps q n) is.given;
  tied = purged-tied n is.tied;
}

released_due-sound : (n : Node) → Sound n → Sound (released_due n)
released_due-sound n is = record {
  states = released_due-apart n is.states;
  given = given-keeps Alike n (released_due n) (λ q. released_due-keeps q n is.states) is.given;
  tied = released_due-tied n is.states is.tied;
}

killed-sound : (n : Node) (name : StateName) → Sound n → Sound (killed n name)
killed-sound n name is = record {
  states = killed-apart n name is.states;
  given = given-keeps Alike n (killed n name) (λ q. killed-keeps q n name) is.given;
  tied = killed-tied n name is.tied;
}

cleared-sound : (n : Node) → Sound n → Sound (cleared n)
cleared-sound n is = record {
  states = cleared-apart n is.states;
  given = given-keeps Alike n (cleared n) (λ q. cleared-keeps q n) is.given;
  tied = cleared-tied n is.tied;
}

basis-sound : (n m : Node) → basis m ≡ basis n → Sound n → Sound m
basis-sound n m e is = record {
  states = basis-apart n m e is.states;
  given = given-keeps Alike n m (λ q. basis-keeps q n m e) is.given;
  tied = basis-tied n m e is.tied;
}

received-sound : (n : Node) (r : Result Frame BadFrame) → Sound n → Sound (received n r)
received-sound n r is = record {
  states = received-apart n r is.states;
  given = received-given n r is.states is.given;
  tied = received-tied n r is.states is.tied;
}

restarted-sound : (n : Node) (boot : ℕ) → Sound (restarted n boot)
restarted-sound n boot = record { states = restarted-apart n boot; given = restarted-given n boot; tied = restarted-tied n boot }

after-sound : (n : Node) (e : NodeEvent) → Sound n → Sound (node_after n e).node
after-sound n (own.Packet dir p) is = handled-sound n dir p is
after-sound n (own.Tick ms) is = record { states = is.states; given = is.given; tied = tied-same n (ticked n ms) is.tied refl refl }
after-sound n own.Purge is = purged-sound n is
after-sound n own.Release is = released_due-sound n is
after-sound n (own.Kill name) is = killed-sound n name is
after-sound n own.Clear is = cleared-sound n is
after-sound n own.BulkTurn is = basis-sound n (turning.turned n) (turned-basis n) is
after-sound n own.BulkRetry is = basis-sound n (retried_client n) (retried-basis n) is

-- ---- the pair

put-sound : (w : World) (id : NodeId) (m : Node) (at : NodeId) → (Sound (node_at w id) → Sound m) → Sound (node_at w at) → Sound (node_at (with_node w id m) at)
put-sound w A m A sound is = sound is
put-sound w A m B sound is = is
put-sound w B m A sound is = is
put-sound w B m B sound is = sound is

arrived-sound : (w : World) (o : Option InFlight) (at : NodeId) → Sound (node_at w at) → Sound (arrived w at o)
arrived-sound w None at is = is
arrived-sound w (Some f) at is = put-sound w f.to (received (node_at w f.to) (reading f.bytes)) at (received-sound (node_at w f.to) (reading f.bytes)) is

turned-sound : (w : World) (e : Event) (at : NodeId) → Sound (node_at w at) → Sound (turned w e at)
turned-sound w (event.At id e) at is = put-sound w id (node_after (node_at w id) e).node at (after-sound (node_at w id) e) is
turned-sound w (event.Flush id) at is = put-sound w id (flushed (node_at w id)) at (flushed-sound (node_at w id)) is
turned-sound w (event.Of ticket frame.Deliver) at is = arrived-sound w (maps.get w.link.frames ticket) at is
turned-sound w (event.Of ticket frame.Lose) at is = is
turned-sound w (event.Of ticket frame.Repeat) at is = is
turned-sound w (event.Of ticket (frame.Cut len)) at is = is
turned-sound w (event.Restart id) at is = put-sound w id (restarted (node_at w id) w.next_boot) at (λ s. restarted-sound (node_at w id) w.next_boot) is

stepped-sound : (w : World) (e : Event) (v : World) (at : NodeId) → world_after (step w e) ≡ Some v → Sound (node_at w at) → Sound (node_at v at)
stepped-sound w e v at accepted is = subst Sound (stepped-node w e v at accepted) (turned-sound w e at is)

-- a node of a world whose packets and states are tied
begins : (w : World) (id : NodeId) → IsWorld w → IsTied (node_at w id) → Sound (node_at w id)
begins w id is tied =
    let node = node-is w id is in
    record { states = node.parts.states; given = λ q s at. given_at (node_at w id) q s node at; tied = tied }

pub tied-step : EventsKeepTied
tied-step w e v is tied accepted id = (stepped-sound w e v id accepted (begins w id is (tied id))).tied

all : (id : NodeId) (at : Option World) (es : List Event) → IfSome at (λ v. Sound (node_at v id))
    → IfSome (fold (λ at e. option_and_then (λ v. world_after (step v e)) at) at es) (λ v. Sound (node_at v id))
all id at [] sound = sound
all id None (e ∷ es) sound = all id None es tt
all id (Some v) (e ∷ es) sound = all id (world_after (step v e)) es (by (world_after (step v e)) refl)
  where
    by : (o : Option World) → world_after (step v e) ≡ o → IfSome o (λ u. Sound (node_at u id))
    by None none = tt
    by (Some u) is = stepped-sound v e u id is sound

pub tied-along : EventsKeepTiedAlong
unfolding run
tied-along w es v is tied ran id =
    let last : Sound (node_at v id) =
    subst (λ (at : Option World). IfSome at (λ u. Sound (node_at u id))) ran (all id (Some w) es (begins w id is (tied id))) in
    last.tied

tied-fresh : (l : Limits) (a b : Rules) (next next_boot : ℕ) → AreTied (opening_world l a b next next_boot)
tied-fresh l a b next next_boot id name = by id
  where
    none : (o : Option State) → o ≡ None → false ≡ waits o
    none None e = refl
    none (Some s) e = absurd (some_is_none s e)

    by : (id : NodeId) → is_held (node_at (opening_world l a b next next_boot) id) name ≡ waits_for_ack (node_at (opening_world l a b next next_boot) id) name
    by A = none _ (get-empty name_cmp name)
    by B = none _ (get-empty name_cmp name)

pub tied-opening : OpeningsAreTied
tied-opening l a b = tied-fresh l a b 1 3

pub tied-later_opening : LaterOpeningsAreTied
tied-later_opening l a b start = tied-fresh l a b start start
