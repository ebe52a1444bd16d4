-- Why a held packet leaves: no event lets one go but those that the law names.
use Rattle.std.specs.Prelude.{◌≡◌, ◌⊎◌, Bool, true, false, List, [], ◌∷◌, Option, Some, None, IsSomeAnd, IsOkAnd, Result, refl}
use Rattle.std.specs.List.{fold}
use Rattle.std.specs.Option.{option_map_or}
use Rattle.std.proofs.Common.{◌∙◌, cond, ap, sym, subst, inl, inr}
use Rattle.pfl_base.specs.declared.direction.Dir.{Dir}
use Rattle.pfl_base.specs.declared.node_id.NodeId.{NodeId}
use Rattle.pfl_base.specs.declared.node_id.NodeId.TheVariants.{A, B}
use Rattle.pfl_base.specs.declared.packet.Packet.{Packet}
use Rattle.pfl_base.specs.declared.state_name.StateName.{StateName}
use Rattle.pfl_base.specs.Keys.{key}
use Rattle.pfl_base.proofs.ForCallers.{names_total, names_exact}
use Rattle.pfl_edits.specs.Maps as maps
use Rattle.pfl_edits.proofs.ForCallers.{key_cases}
use Rattle.pfl_world.specs.track.declared.state.State.{State}
use Rattle.pfl_world.specs.track.declared.tracked.Tracked.{Tracked}
use Rattle.pfl_world.specs.track.declared.tracked.Tracked.TheVariants.{Moved, OutOfWindow, Reused}
use Rattle.pfl_world.specs.table.Tables.{found}
use Rattle.pfl_world.proofs.ForCallers.node.{judged-by}
use Rattle.pfl_world.proofs.ForCallers.table.{found-stands}
use Rattle.pfl_world.specs.wire.declared.fault.BadFrame.{BadFrame}
use Rattle.pfl_world.specs.wire.Frames.{Frame, records_of}
use Rattle.pfl_world.specs.wire.Reading.{reading}
use Rattle.pfl_language.specs.declared.fate.Fate.TheVariants as fate
use Rattle.pfl_language.specs.declared.node_event.NodeEvent.{NodeEvent}
use Rattle.pfl_language.specs.declared.node_event.NodeEvent.TheVariants as own
use Rattle.pfl_language.specs.declared.event.Event.{Event}
use Rattle.pfl_language.specs.declared.event.Event.TheVariants as event
use Rattle.pfl_language.specs.declared.event.FrameEvent.TheVariants as frame
use Rattle.pfl_world.specs.link.Links.{InFlight}
use Rattle.pfl_world.specs.queue.declared.Entry.{Entry}
use Rattle.pfl_world.specs.queue.declared.Entry.TheVariants.{Marked, Request, Status, Clear}
use Rattle.pfl_world.specs.queue.declared.Kind.TheVariants.{Insert}
use Rattle.pfl_world.specs.queue.Taking.{next_frame, left_by}
use Rattle.pfl_world.specs.defer.declared.Held.{Held}
use Rattle.pfl_world.specs.defer.Deferring.{Deferrals, pushed_out}
use Rattle.pfl_world.specs.desk.Nodes.{Node, IsNode, IsGiven}
use Rattle.pfl_world.specs.desk.Changes.{put_state, mark, freed, changed, deleted, released}
use Rattle.pfl_world.specs.node.Stepping.{node_after}
use Rattle.pfl_world.specs.node.Events.{restarted}
use Rattle.pfl_world.specs.node.Turning as turning
use Rattle.pfl_world.specs.node.Retrying.{retried_client}
use Rattle.pfl_world.specs.node.Flushing.{flushed, update_count_cleared}
use Rattle.pfl_world.specs.node.Packets.{handled, handled_by, followed, accepted, before_rules, on_the_way, tracked_at}
use Rattle.pfl_world.specs.node.Starting.{Handled, announced, hold, is_deferred, judged, pass, with_new, with_room}
use Rattle.pfl_world.specs.Worlds.{World, node_at, with_node}
use Rattle.pfl_laws.specs.Laws.{FrameLetsOut, HeldPacketsLeaveOnlySo, Holds, LetsGo, NodeLetsGo, LetsOldestGo, OneLetsOut, asked_at}
use Rattle.pfl_laws.proofs.Following.{Alike, Filed}
use Rattle.pfl_laws.proofs.Keeping.{deleted-keeps, keeps-given}
use Rattle.pfl_laws.proofs.Handling.{filed-without, judged-keeps}
use Rattle.pfl_laws.proofs.Tied.{freed-held, changed-puts, Puts}
use Rattle.pfl_laws.proofs.Holding.{found-on, same-holds, other-holds, released-held}
use Rattle.pfl_laws.proofs.Removing.{deleted-removes, removed-none, removed-holds, nothing}
use Rattle.pfl_laws.proofs.Releasing.{released_due-lets}
use Rattle.pfl_laws.proofs.Clearing.{purged-lets, killed-lets, cleared-lets}
use Rattle.pfl_laws.proofs.Asking.{turned-basis, retried-basis, basis-holds}
use Rattle.pfl_laws.proofs.Delivering.{received, received-stays}
use Rattle.pfl_laws.proofs.Stepping.{turned, arrived, stepped-node}
use Rattle.pfl_laws.proofs.Running.{node-is}

-- ---- a packet that no state takes

-- the packet stays held, or the event's packet is held, and the full list let its oldest go, which is of its name
abbrev Stays : Node → Held → Handled → Type 0
Stays n h x = Holds x.node h ⊎ LetsOldestGo x.fate n.held h.name

stays_test : (n : Node) (h : Held) (b : Bool) (x y : Handled) → Stays n h x → Stays n h y → Stays n h (cond b x y)
stays_test n h true x y k l = k
stays_test n h false x y k l = l

room-stays : (n : Node) (h : Held) → Holds n h → Holds (with_room n) h ⊎ IsSomeAnd (pushed_out n.held) (λ k. k.name ≡ h.name)
room-stays n h holds = by (pushed_out n.held)
  where
    by : (o : Option Held) → Holds (option_map_or (λ k. released n k.name) o n) h ⊎ IsSomeAnd o (λ k. k.name ≡ h.name)
    by None = inl holds
    by (Some k) = elim (key_cases names_total names_exact h.name k.name) [
      | inl same ↦ inr (sym same)
      | inr other ↦ inl (other-holds h n (released n k.name) k.name (released-held n k.name) other holds)
    ]

held-stays : (n : Node) (h : Held) (s : State) (p : Packet) (k : Node) → Holds k h ⊎ IsSomeAnd (pushed_out n.held) (λ x. x.name ≡ h.name)
    → Stays n h (hold k s p)
held-stays n h s p k (inl holds) = inl (found-on k.held.list (record { name = s.name; packet = p; held_at = k.clock } ∷ []) h.name h holds)
held-stays n h s p k (inr out) = inr (s.name, (refl, out))

announced-stays : (n : Node) (h : Held) (new : Node) (s : State) (dir : Dir) (p : Packet) → new.held ≡ n.held → Holds n h → Stays n h (announced new s dir p)
announced-stays n h new s dir p same holds =
    let here : Holds new h = same-holds h n new same holds in
    let marked : Node = mark new s.name Insert in
    let room = room-stays marked h here in
    stays_test n h s.no_sync (pass new (Some s.name)) (cond (is_deferred new dir) (hold (with_room marked) s p) (pass marked (Some s.name))) (inl here)
    (stays_test n h (is_deferred new dir) (hold (with_room marked) s p) (pass marked (Some s.name))
    (held-stays n h s p (with_room marked) (subst (λ (d : Deferrals). Holds (with_room marked) h ⊎ IsSomeAnd (pushed_out d) (λ k. k.name ≡ h.name)) same room))
    (inl here))

judged-stays : (n : Node) (h : Held) (dir : Dir) (p : Packet) → Holds n h → Stays n h (judged n dir p)
judged-stays n h dir p holds = judged-by (Stays n h) n dir p (inl holds) (λ why. inl holds) (λ s new. announced-stays n h (with_new n s) s dir p refl holds)

-- ---- a packet

-- what lets it go at a node
abbrev Gone : Node → Dir → Packet → Held → Handled → Node → Type 0
Gone n dir p h x at =
    (x.fate ≡ fate.Pass (Some h.name)) ⊎ (LetsOldestGo x.fate at.held h.name ⊎ (maps.get x.node.states h.name ≡ None))

stays-gone : (n at : Node) (dir : Dir) (p : Packet) (h : Held) (x : Handled) → Stays at h x → Holds x.node h ⊎ Gone n dir p h x at
stays-gone n at dir p h x (inl holds) = inl holds
stays-gone n at dir p h x (inr out) = inr (inr (inl out))

accepted-gone : (n : Node) (dir : Dir) (p : Packet) (h : Held) (t : State) → Holds n h → Holds (accepted n t).node h ⊎ Gone n dir p h (accepted n t) n
accepted-gone n dir p h t holds =
    let calm : State = record t { ack_wanted = false } in
    let puts : Puts (freed n t.name) calm (changed (freed n t.name) calm) = changed-puts (freed n t.name) calm in
    elim (key_cases names_total names_exact h.name t.name) [
      | inl same ↦ inr (inl (ap (λ (q : StateName). fate.Pass (Some q)) (sym same)))
      | inr other ↦ inl (other-holds h n (accepted n t).node t.name (puts.held ∙ freed-held n t.name) other holds)
    ]

followed-gone : (n : Node) (dir : Dir) (p : Packet) (h : Held) (s : State) (x : Tracked) → Filed n.states → IsGiven n s.name → Holds n h
    → Holds (followed n dir p s x).node h ⊎ Gone n dir p h (followed n dir p s x) (fold (λ m point. point) n (on_the_way n s x))
followed-gone n dir p h s (Moved t) filed given holds = accepted-gone n dir p h t holds
followed-gone n dir p h s OutOfWindow filed given holds = inl holds
followed-gone n dir p h s Reused filed given holds =
    let m = deleted n s in
    elim (key_cases names_total names_exact h.name s.name) [
      | inl same ↦
          let gives = keeps-given Alike s.name n m (deleted-keeps s.name n s) given in
          let none = nothing s.name m (judged m dir p).node (judged-keeps s.name m dir p (filed-without n s filed) gives)
          (removed-none n m s.name (deleted-removes n s)) in
          inr (inr (inr (ap (maps.get (judged m dir p).node.states) same ∙ none)))
      | inr other ↦ stays-gone n m dir p h (judged m dir p) (judged-stays m h dir p (removed-holds n m s.name h (deleted-removes n s) other holds))
    ]

handled-gone : (n : Node) (dir : Dir) (p : Packet) (h : Held) → IsNode n → Holds n h → Holds (handled n dir p).node h
    ⊎ Gone n dir p h (handled n dir p) (asked_at n dir p)
unfolding handled
handled-gone n dir p h is holds = by (found n.states (key p dir) dir) refl
  where
    by : (o : Option State) → found n.states (key p dir) dir ≡ o
        → Holds (handled_by n dir p o).node h ⊎ Gone n dir p h (handled_by n dir p o) (fold (λ m point. point) n (before_rules n dir p o))
    by None e = stays-gone n n dir p h (judged n dir p) (judged-stays n h dir p holds)
    by (Some s) e =
        let stands = found-stands n.states (key p dir) dir s is.parts.states e in
        followed-gone n dir p h s (tracked_at n s p dir) is.parts.states.filed (is.parts.each s.name s stands).given holds

-- ---- the other events

cleared-held : (n : Node) (e : Entry) → (update_count_cleared n e).held ≡ n.held
cleared-held n (Marked kind number name) = by (maps.get n.states name)
  where
    by : (o : Option State) → (option_map_or (λ s. put_state n (record s { updates = 0 })) o n).held ≡ n.held
    by None = refl
    by (Some s) = refl
cleared-held n (Request name) = refl
cleared-held n (Status status) = refl
cleared-held n (Clear creator bound) = refl

entries-held : (es : List Entry) (n : Node) → (fold update_count_cleared n es).held ≡ n.held
entries-held [] n = refl
entries-held (e ∷ es) n = entries-held es (update_count_cleared n e) ∙ cleared-held n e

flushed-held : (n : Node) → (flushed n).held ≡ n.held
unfolding flushed
flushed-held n = entries-held (next_frame n.queue n.limits.mtu) (record n { queue = left_by n.queue (next_frame n.queue n.limits.mtu); push = false })

-- ---- the pair

-- it is at that node
there : {X Y : Type 0} {id : NodeId} → X ⊎ Y → X ⊎ ((id ≡ id) × Y)
there (inl x) = inl x
there (inr y) = inr (refl, y)

-- an event at one node: there a packet stays or is let go for a reason, and at the other node it stays
put-lets : (Lets : Node → Node → Type 0) (w : World) (id : NodeId) (m : Node) (at : NodeId) (h : Held)
    → (IsNode (node_at w id) → Holds (node_at w id) h → Holds m h ⊎ Lets (node_at w id) m)
    → IsNode (node_at w at) → Holds (node_at w at) h → Holds (node_at (with_node w id m) at) h
    ⊎ ((id ≡ at) × Lets (node_at w at) (node_at (with_node w id m) at))
put-lets Lets w A m A h lets is holds = there (lets is holds)
put-lets Lets w A m B h lets is holds = inl holds
put-lets Lets w B m A h lets is holds = inl holds
put-lets Lets w B m B h lets is holds = there (lets is holds)

-- an event that lets none go
put-stays : (w : World) (id : NodeId) (m : Node) (at : NodeId) (h : Held) → (Holds (node_at w id) h → Holds m h) → Holds (node_at w at) h
    → Holds (node_at (with_node w id m) at) h
put-stays w A m A h stays holds = stays holds
put-stays w A m B h stays holds = holds
put-stays w B m A h stays holds = holds
put-stays w B m B h stays holds = stays holds

-- a frame at its receiver
came-lets : (w : World) (to : NodeId) (r : Result Frame BadFrame) (at : NodeId) (h : Held) → IsNode (node_at w at) → Holds (node_at w at) h
    → Holds (node_at (with_node w to (received (node_at w to) r)) at) h ⊎ ((to ≡ at) × IsOkAnd r (λ f. OneLetsOut (node_at w at).limits.kernel (records_of f) h.name))
came-lets w A r A h is holds = there (received-stays w.a r h is.parts.states holds)
came-lets w A r B h is holds = inl holds
came-lets w B r A h is holds = inl holds
came-lets w B r B h is holds = there (received-stays w.b r h is.parts.states holds)

arrived-lets : (w : World) (o : Option InFlight) (at : NodeId) (h : Held) → IsNode (node_at w at) → Holds (node_at w at) h
    → Holds (arrived w at o) h ⊎ IsSomeAnd o (FrameLetsOut (node_at w at).limits.kernel at h.name)
arrived-lets w None at h is holds = inl holds
arrived-lets w (Some f) at h is holds = came-lets w f.to (reading f.bytes) at h is holds

-- a node that begins anew holds nothing
anew-lets : (w : World) (id : NodeId) (m : Node) (at : NodeId) (h : Held) → Holds (node_at w at) h → Holds (node_at (with_node w id m) at) h ⊎ (id ≡ at)
anew-lets w A m A h holds = inr refl
anew-lets w A m B h holds = inl holds
anew-lets w B m A h holds = inl holds
anew-lets w B m B h holds = inr refl

-- a node's own event
after-lets : (n : Node) (e : NodeEvent) (h : Held) → IsNode n → Holds n h → Holds (node_after n e).node h ⊎ NodeLetsGo n (node_after n e).node e h
after-lets n (own.Packet dir p) h is holds = handled-gone n dir p h is holds
after-lets n (own.Tick ms) h is holds = inl holds
after-lets n own.Purge h is holds = purged-lets n h holds
after-lets n own.Release h is holds = released_due-lets n h is holds
after-lets n (own.Kill name) h is holds = killed-lets n name h is.parts.states.filed holds
after-lets n own.Clear h is holds = cleared-lets n h holds
after-lets n own.BulkTurn h is holds = inl (basis-holds h n (turning.turned n) (turned-basis n) holds)
after-lets n own.BulkRetry h is holds = inl (basis-holds h n (retried_client n) (retried-basis n) holds)

turned-lets : (w : World) (e : Event) (at : NodeId) (h : Held) → IsNode (node_at w at) → Holds (node_at w at) h → Holds (turned w e at) h
    ⊎ LetsGo w at (node_at w at) (turned w e at) e h
turned-lets w (event.At id e) at h is holds =
    put-lets (λ old new. NodeLetsGo old new e h) w id (node_after (node_at w id) e).node at h (after-lets (node_at w id) e h) is holds
turned-lets w (event.Flush id) at h is holds = let n = node_at w id in inl (put-stays w id (flushed n) at h (same-holds h n (flushed n) (flushed-held n)) holds)
turned-lets w (event.Of ticket frame.Deliver) at h is holds = arrived-lets w (maps.get w.link.frames ticket) at h is holds
turned-lets w (event.Of ticket frame.Lose) at h is holds = inl holds
turned-lets w (event.Of ticket frame.Repeat) at h is holds = inl holds
turned-lets w (event.Of ticket (frame.Cut len)) at h is holds = inl holds
turned-lets w (event.Restart id) at h is holds = anew-lets w id (restarted (node_at w id) w.next_boot) at h holds

pub leaves-only : HeldPacketsLeaveOnlySo
leaves-only w e v is accepted id h holds =
    subst (λ (m : Node). Holds m h ⊎ LetsGo w id (node_at w id) m e h) (stepped-node w e v id accepted) (turned-lets w e id h (node-is w id is) holds)
