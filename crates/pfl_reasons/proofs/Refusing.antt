-- The numbers that are shown of an event that is refused are those of its refusal, and do stand against it.
use Rattle.std.specs.Prelude.{◌≡◌, ◌<◌, ◌+◌, ◌==◌, ◌||◌, ℕ, Bool, true, false, not, nat_le, nat_lt, List, [], ◌∷◌, filter, find, length, map, Option}
use Rattle.std.specs.Prelude.{Some, None, is_none, Result, Ok, Err, refl}
use Rattle.std.specs.List.{list_any, slice_get}
use Rattle.std.specs.Option.{option_map, option_map_or, option_or}
use Rattle.std.proofs.Common.{cond, ◌∙◌, ap, subst, sym}
use Rattle.std.proofs.lemmas.Bool.{leb-false, leb-true, ltb-true}
use Rattle.std.proofs.Math.Dec.{eqb-suc-zero}
use Rattle.pfl_base.specs.Numbers.{greatest}
use Rattle.pfl_base.specs.declared.node_id.NodeId.{NodeId}
use Rattle.pfl_base.specs.declared.refusal.Refusal.{Refusal}
use Rattle.pfl_base.specs.declared.refusal.Refusal.TheVariants.{CountFull, ClockFull, LinkFull, NoSuchFrame, NoSuchState, NothingPending, NotSyncing}
use Rattle.pfl_base.specs.declared.refusal.Refusal.TheVariants.{QueueFull, TooEarly}
use Rattle.pfl_bulk.specs.Bulk.{is_due, is_serving, is_waiting}
use Rattle.pfl_bulk.specs.declared.BulkClient.{BulkClient}
use Rattle.pfl_bulk.specs.declared.BulkClient.TheVariants as client
use Rattle.pfl_edits.specs.Maps as maps
use Rattle.pfl_language.specs.declared.event.Event.{Event}
use Rattle.pfl_language.specs.declared.event.Event.TheVariants as event
use Rattle.pfl_language.specs.declared.event.FrameEvent.{FrameEvent}
use Rattle.pfl_language.specs.declared.event.FrameEvent.TheVariants as frame
use Rattle.pfl_language.specs.declared.node_event.NodeEvent.{NodeEvent}
use Rattle.pfl_language.specs.declared.node_event.NodeEvent.TheVariants as own
use Rattle.pfl_language.specs.declared.outcome.Outcome.{Outcome}
use Rattle.pfl_language.specs.declared.outcome.Outcome.TheVariants.{Broken, CutTo, Lost, Sent, Taken}
use Rattle.pfl_link.specs.Links.{InFlight, cut_to, is_counted_out, is_full, sent, with_frame}
use Rattle.pfl_wire.specs.declared.fault.BadFrame.{BadFrame}
use Rattle.pfl_wire.specs.Frames.{Frame, records_of}
use Rattle.pfl_wire.specs.Reading.{reading}
use Rattle.pfl_world.specs.defer.declared.Held.{Held}
use Rattle.pfl_world.specs.desk.Nodes.{Node, full_tests, is_overcounted, is_overfull, last_millisecond, points_refusal, refused_by, unless_refused}
use Rattle.pfl_world.specs.desk.Changes.{count_broken}
use Rattle.pfl_world.specs.node.Clearing.{cleared}
use Rattle.pfl_world.specs.node.Killing.{killed}
use Rattle.pfl_world.specs.node.Packets.{packet_points}
use Rattle.pfl_world.specs.node.Purging.{purge_points}
use Rattle.pfl_world.specs.node.Releasing.{due_names, released_due}
use Rattle.pfl_world.specs.node.Retrying.{retried_client}
use Rattle.pfl_world.specs.node.Stepping.{NodeStepped, node_points, node_refusal}
use Rattle.pfl_world.specs.node.Turning.{turned}
use Rattle.pfl_world.specs.queue.Queues.{pending}
use Rattle.pfl_world.specs.receive.Delivering.{receive_points, received}
use Rattle.pfl_world.specs.AtNodes.{from_node}
use Rattle.pfl_world.specs.Delivering.{arrival_points, deliver_step, frame_points, read_taken}
use Rattle.pfl_world.specs.Events.{frame_event, points_at, step}
use Rattle.pfl_world.specs.Flushing.{flush_refusal, flush_step}
use Rattle.pfl_world.specs.Restarting.{restart_step}
use Rattle.pfl_world.specs.Tickets.{cut_step, lose_step, repeat_step, step_unless, without_ticket}
use Rattle.pfl_world.specs.Worlds.{World, node_at, with_link, with_node}
use Rattle.pfl_reasons.specs.Against.{IsTimeOf, MayAskAt, StandsAgainst, WouldOverfill, against, asking_against, at_its_node, node_of, pending_against}
use Rattle.pfl_reasons.specs.Against.{release_against}
use Rattle.pfl_reasons.specs.declared.against.Against.{Against}
use Rattle.pfl_reasons.specs.declared.against.Against.TheVariants.{Due, Nothing, Pending}
use Rattle.pfl_reasons.proofs.Killing.{own-node}
use Rattle.pfl_reasons.proofs.Stated.{some_and}

-- what is shown of the event, where it is refused for this, stands against it
abbrev Stands : World → Event → Refusal → Type 0
Stands w e why = StandsAgainst w e (against w e why) why

-- ---- tests

-- the first refusal is so whose test holds, where those before it fail
abbrev Each : (Refusal → Type 0) → List (Bool × Refusal) → Type 0
Each P [] = Unit {0}
Each P (t ∷ ts) = (t.0 ≡ true → P t.1) × (t.0 ≡ false → Each P ts)

first-so : (P : Refusal → Type 0) (tests : List (Bool × Refusal)) → Each P tests → (why : Refusal) → refused_by tests ≡ Some why → P why
first-so P [] each why is = absurd (cc)
first-so P (t ∷ ts) each why is =
    elim t.0 as (λ b. ((b ≡ true → P t.1) × (b ≡ false → Each P ts))
    → option_map (λ (t : Bool × Refusal). t.1) (cond b (Some t) (find (λ (t : Bool × Refusal). t.0) ts)) ≡ Some why → P why) [
      | true ↦ λ each is. let same : t.1 ≡ why = cc in subst P same (each.0 refl)
      | false ↦ λ each is. first-so P ts (each.1 refl) why is
    ] each is

-- too much would be pending, or a number too high
full-each : (w : World) (e : Event) (points : List Node) → (list_any is_overfull points ≡ true → Stands w e QueueFull) → Each (Stands w e) (full_tests points)
unfolding against
full-each w e points queue = (λ full. queue full, λ room. (λ high. tt, λ low. tt))

points-so : (w : World) (e : Event) (points : List Node) → (list_any is_overfull points ≡ true → Stands w e QueueFull) → (why : Refusal)
    → points_refusal points ≡ Some why → Stands w e why
points-so w e points queue why is = first-so (Stands w e) (full_tests points) (full-each w e points queue) why is

-- the refusal of what is not accepted
refusal-is : {X : Type 0} (o : Option Refusal) (x : X) (why : Refusal) → unless_refused o x ≡ Err why → o ≡ Some why
refusal-is None x why is = absurd (cc)
refusal-is (Some r) x why is = let same : r ≡ why = cc in ap Some same

refusal-of : (tests : List (Bool × Refusal)) (v : World) (o : Outcome) (why : Refusal) → step_unless tests v o ≡ Err why → refused_by tests ≡ Some why
refusal-of tests v o why is = refusal-is (refused_by tests) (record { world = v; outcome = o }) why is

refusal-at : (w : World) (id : NodeId) (o : Option Refusal) (t : NodeStepped) (why : Refusal) → from_node w id (unless_refused o t) ≡ Err why → o ≡ Some why
refusal-at w id None t why is = absurd (cc)
refusal-at w id (Some r) t why is = let same : r ≡ why = cc in ap Some same

-- ---- too early

-- the time that is shown is after the clock
due-stands : (w : World) (id : NodeId) (e : NodeEvent) (due : ℕ) → IsTimeOf (node_at w id) e due → (node_at w id).clock < due
    → StandsAgainst w (event.At id e) (Due (node_at w id).clock due) TooEarly
due-stands w id e due time later = (refl, (refl, time), later)

-- of what is held, none is due: then neither is the oldest
release-early : (w : World) (id : NodeId) (list : List Held) → (node_at w id).held.list ≡ list → (length list == 0) ≡ false
    → (length (map (λ (h : Held). h.name)
    (filter (λ (h : Held). nat_le (h.held_at + (node_at w id).limits.defer_ms) (node_at w id).clock) list)) == 0) ≡ true
    → StandsAgainst w (event.At id own.Release) (release_against (node_at w id)) TooEarly
release-early w id [] is some none = absurd (cc)
release-early w id (h ∷ hs) is some none = by (nat_le due n.clock) refl none
  where
    n : Node
    n = node_at w id

    due : ℕ
    due = h.held_at + n.limits.defer_ms

    rest : List Held
    rest = filter (λ (h : Held). nat_le (h.held_at + n.limits.defer_ms) n.clock) hs

    oldest : slice_get n.held.list 0 ≡ Some h
    oldest = ap (λ (l : List Held). slice_get l 0) is

    shown : Due n.clock due ≡ release_against n
    shown = sym (ap (λ (o : Option Held). option_map_or (λ (h : Held). Due n.clock (h.held_at + n.limits.defer_ms)) o Nothing) oldest)

    by : (b : Bool) → nat_le due n.clock ≡ b → (length (map (λ (h : Held). h.name) (cond b (h ∷ rest) rest)) == 0) ≡ true
        → StandsAgainst w (event.At id own.Release) (release_against n) TooEarly
    by true late none = let no = eqb-suc-zero (length (map (λ (h : Held). h.name) rest)) in absurd (cc)
    by false late none = subst (λ (a : Against). StandsAgainst w (event.At id own.Release) a TooEarly) shown
        (due-stands w id own.Release due (some_and (λ (g : Held). due ≡ g.held_at + n.limits.defer_ms) (slice_get n.held.list 0) h oldest refl)
        (leb-false _ _ late))

-- a client that waits, but not long enough
retry-early : (w : World) (id : NodeId) (c : BulkClient) → (node_at w id).client ≡ c → not (is_waiting c) ≡ false
    → not (is_due c (node_at w id).limits.bulk_ms (node_at w id).clock) ≡ true
    → StandsAgainst w (event.At id own.BulkRetry) (asking_against (node_at w id) (node_at w id).client) TooEarly
retry-early w id client.Idle is waits early = absurd (cc)
retry-early w id (client.Waiting tries asked) is waits early = by (nat_le (asked + n.limits.bulk_ms) n.clock) refl early
  where
    n : Node
    n = node_at w id

    by : (b : Bool) → nat_le (asked + n.limits.bulk_ms) n.clock ≡ b → not b ≡ true
        → StandsAgainst w (event.At id own.BulkRetry) (asking_against n n.client) TooEarly
    by true late early = absurd (cc)
    by false late early = subst (λ (a : Against). StandsAgainst w (event.At id own.BulkRetry) a TooEarly) (ap (asking_against n) (sym is))
        (due-stands w id own.BulkRetry (asked + n.limits.bulk_ms) (subst (λ (c : BulkClient). MayAskAt n c (asked + n.limits.bulk_ms)) (sym is) refl)
        (leb-false _ _ late))

-- the reasons of a retry in their order
retry-so : (P : Refusal → Type 0) (idle early full : Bool) → P NotSyncing → (idle ≡ false → early ≡ true → P TooEarly)
    → (full ≡ true → P QueueFull) → (why : Refusal)
    → option_or (cond idle (Some NotSyncing) (cond early (Some TooEarly) None)) (refused_by ((full, QueueFull) ∷ [])) ≡ Some why → P why
retry-so P true early full syncing time queue why is = let same : NotSyncing ≡ why = cc in subst P same syncing
retry-so P false true full syncing time queue why is = let same : TooEarly ≡ why = cc in subst P same (time refl refl)
retry-so P false false full syncing time queue why is = first-so P ((full, QueueFull) ∷ []) (λ x. queue x, λ x. tt) why is

-- ---- at a node by itself

-- the points of an event at a node are those of the node
own-points : (w : World) (id : NodeId) (points : List Node) → map (λ n. node_at (with_node w id n) id) points ≡ points
own-points w id [] = refl
own-points w id (n ∷ ns) = λ i. own-node w id n i ∷ own-points w id ns i

-- more would be pending at it than may be
queue-stands : (w : World) (id : NodeId) (e : NodeEvent) → list_any is_overfull (node_points (node_at w id) e) ≡ true → Stands w (event.At id e) QueueFull
unfolding against
queue-stands w id e full = (refl, (refl, refl, ap (list_any is_overfull) (own-points w id (node_points (node_at w id) e)) ∙ full))

tick-so : (w : World) (id : NodeId) (ms : ℕ) (why : Refusal) → node_refusal (node_at w id) (own.Tick ms) ≡ Some why → Stands w (event.At id (own.Tick ms)) why
unfolding against
tick-so w id ms why is = by (nat_lt last_millisecond ((node_at w id).clock + ms)) refl is
  where
    by : (b : Bool) → nat_lt last_millisecond ((node_at w id).clock + ms) ≡ b → cond b (Some ClockFull) None ≡ Some why
        → Stands w (event.At id (own.Tick ms)) why
    by true past is = let same : ClockFull ≡ why = cc in subst (Stands w (event.At id (own.Tick ms))) same (refl, refl, refl, ltb-true _ _ past)
    by false past is = absurd (cc)

node-so : (w : World) (id : NodeId) (e : NodeEvent) (why : Refusal) → node_refusal (node_at w id) e ≡ Some why → Stands w (event.At id e) why
unfolding against
node-so w id (own.Packet dir p) why is =
    points-so w (event.At id (own.Packet dir p)) (packet_points (node_at w id) dir p) (queue-stands w id (own.Packet dir p)) why is
node-so w id (own.Tick ms) why is = tick-so w id ms why is
node-so w id own.Purge why is = points-so w (event.At id own.Purge) (purge_points (node_at w id)) (queue-stands w id own.Purge) why is
node-so w id own.Release why is =
    let n = node_at w id in
    let e = event.At id own.Release in
    first-so (Stands w e) ((length n.held.list == 0, NothingPending) ∷ (length (due_names n) == 0, TooEarly)
    ∷ (is_overcounted (released_due n), CountFull) ∷ [])
    (λ none. tt, λ some. (λ none. release-early w id n.held.list refl some none, λ due. (λ high. tt, λ low. tt))) why is
node-so w id (own.Kill name) why is =
    let n = node_at w id in
    let e = event.At id (own.Kill name) in
    let points = killed n name ∷ [] in
    first-so (Stands w e) ((is_none (maps.get n.states name), NoSuchState) ∷ full_tests points)
    (λ none. tt, λ some. full-each w e points (queue-stands w id (own.Kill name))) why is
node-so w id own.Clear why is = points-so w (event.At id own.Clear) (cleared (node_at w id) ∷ []) (queue-stands w id own.Clear) why is
node-so w id own.BulkTurn why is =
    let n = node_at w id in
    let e = event.At id own.BulkTurn in
    let points = turned n ∷ [] in
    first-so (Stands w e) ((not (is_serving n.server), NotSyncing) ∷ full_tests points)
    (λ idle. tt, λ serving. full-each w e points (queue-stands w id own.BulkTurn)) why is
node-so w id own.BulkRetry why is =
    let n = node_at w id in
    let e = event.At id own.BulkRetry in
    retry-so (Stands w e) (not (is_waiting n.client)) (not (is_due n.client n.limits.bulk_ms n.clock)) (is_overfull (retried_client n)) tt
    (retry-early w id n.client refl) (λ full. queue-stands w id own.BulkRetry (ap (λ (b : Bool). b || false) full)) why is

-- ---- of a frame in flight

module _ (w : World) (ticket : ℕ) (f : InFlight) (at : maps.get w.link.frames ticket ≡ Some f) where
  -- the points of a frame that is read, or not
  arrived : points_at w (event.Of ticket frame.Deliver) f.to ≡ frame_points (node_at w f.to) (reading f.bytes)
  arrived = ap (λ (o : Option InFlight). option_map_or (arrival_points w f.to) o []) at ∙ own-points w f.to (frame_points (node_at w f.to) (reading f.bytes))

  -- its receiver's queue
  receiver-full : list_any is_overfull (frame_points (node_at w f.to) (reading f.bytes)) ≡ true → Stands w (event.Of ticket frame.Deliver) QueueFull
  unfolding against
  receiver-full full =
      let n = node_at w f.to in
      let e = event.Of ticket frame.Deliver in
      let to : node_of w e ≡ Some f.to = ap (λ (o : Option InFlight). option_map (λ (f : InFlight). f.to) o) at in
      let shown : Pending n.queue.limit (pending n.queue) ≡ at_its_node w e pending_against =
      sym (ap (λ (o : Option NodeId). option_map_or (λ id. pending_against (node_at w id)) o Nothing) to) in
      subst (λ (a : Against). StandsAgainst w e a QueueFull) shown (
        refl,
        some_and (WouldOverfill w e n.queue.limit (pending n.queue)) (node_of w e) f.to to (refl, refl, ap (list_any is_overfull) arrived ∙ full),
      )

  read-so : (r : Result Frame BadFrame) → reading f.bytes ≡ r → (why : Refusal)
      → read_taken (without_ticket w ticket) f.to (node_at w f.to) r ≡ Err why → Stands w (event.Of ticket frame.Deliver) why
  read-so (Ok g) read why is =
      let n = node_at w f.to in
      let points = receive_points n g in
      points-so w (event.Of ticket frame.Deliver) points
      (λ full. receiver-full (ap (λ (r : Result Frame BadFrame). list_any is_overfull (frame_points n r)) read ∙ full)) why
      (refusal-of (full_tests points) (with_node (without_ticket w ticket) f.to (received n g)) (Taken (length (records_of g))) why is)
  read-so (Err bad) read why is =
      let n = node_at w f.to in
      let points = count_broken n ∷ [] in
      points-so w (event.Of ticket frame.Deliver) points
      (λ full. receiver-full (ap (λ (r : Result Frame BadFrame). list_any is_overfull (frame_points n r)) read ∙ full)) why
      (refusal-of (full_tests points) (with_node (without_ticket w ticket) f.to (count_broken n)) (Broken bad) why is)

-- there is no such frame
no-frame : (w : World) (ticket : ℕ) (e : FrameEvent) → maps.get w.link.frames ticket ≡ None → Stands w (event.Of ticket e) NoSuchFrame
unfolding against
no-frame w ticket e at = (refl, at, refl)

delivery-so : (w : World) (ticket : ℕ) (o : Option InFlight) (why : Refusal) → maps.get w.link.frames ticket ≡ o
    → option_map_or (λ (f : InFlight). read_taken (without_ticket w ticket) f.to (node_at w f.to) (reading f.bytes)) o (Err NoSuchFrame)
    ≡ Err why → Stands w (event.Of ticket frame.Deliver) why
delivery-so w ticket None why at is =
    let same : NoSuchFrame ≡ why = cc in subst (Stands w (event.Of ticket frame.Deliver)) same (no-frame w ticket frame.Deliver at)
delivery-so w ticket (Some f) why at is = read-so w ticket f at (reading f.bytes) refl why is

-- what needs no node
ticket-so : (w : World) (ticket : ℕ) (e : FrameEvent) (tests : List (Bool × Refusal)) (after : InFlight → World) (gives : InFlight → Outcome)
    → Each (Stands w (event.Of ticket e)) tests → (o : Option InFlight) → maps.get w.link.frames ticket ≡ o → (why : Refusal)
    → option_map_or (λ (f : InFlight). step_unless tests (after f) (gives f)) o (Err NoSuchFrame) ≡ Err why → Stands w (event.Of ticket e) why
ticket-so w ticket e tests after gives each None at why is =
    let same : NoSuchFrame ≡ why = cc in subst (Stands w (event.Of ticket e)) same (no-frame w ticket e at)
ticket-so w ticket e tests after gives each (Some f) at why is =
    first-so (Stands w (event.Of ticket e)) tests each why (refusal-of tests (after f) (gives f) why is)

of_frame-so : (w : World) (ticket : ℕ) (e : FrameEvent) (why : Refusal) → frame_event w ticket e ≡ Err why → Stands w (event.Of ticket e) why
unfolding against deliver_step lose_step repeat_step cut_step
of_frame-so w ticket frame.Deliver why is = delivery-so w ticket (maps.get w.link.frames ticket) why refl is
of_frame-so w ticket frame.Lose why is =
    ticket-so w ticket frame.Lose [] (λ f. without_ticket w ticket) (λ f. Lost) tt (maps.get w.link.frames ticket) refl why is
of_frame-so w ticket frame.Repeat why is =
    ticket-so w ticket frame.Repeat ((is_full w.link, LinkFull) ∷ (is_counted_out w.link, CountFull) ∷ [])
    (λ f. with_link w (sent w.link f)) (λ f. Sent w.link.next (length f.bytes))
    (λ full. (refl, refl, refl, leb-true _ _ full), λ room. (λ high. tt, λ low. tt)) (maps.get w.link.frames ticket) refl why is
of_frame-so w ticket (frame.Cut len) why is =
    ticket-so w ticket (frame.Cut len) []
    (λ f. with_link w (with_frame w.link ticket (cut_to f len))) (λ f. CutTo (length (cut_to f len).bytes)) tt (maps.get w.link.frames ticket) refl why is

-- ---- events

pub numbers-stand : (w : World) (e : Event) (why : Refusal) → step w e ≡ Err why → StandsAgainst w e (against w e why) why
unfolding step against flush_step restart_step
numbers-stand w (event.At id e) why is = node-so w id e why (refusal-at w id _ _ why is)
numbers-stand w (event.Of ticket e) why is = of_frame-so w ticket e why is
numbers-stand w (event.Flush id) why is =
    let e = event.Flush id in
    first-so (Stands w e) ((pending (node_at w id).queue == 0, NothingPending) ∷ (is_full w.link, LinkFull) ∷ (is_counted_out w.link, CountFull) ∷ [])
    (λ none. tt, λ some. (λ full. (refl, refl, refl, leb-true _ _ full), λ room. (λ high. tt, λ low. tt))) why (refusal-is (flush_refusal w id) _ why is)
numbers-stand w (event.Restart id) why is =
    let e = event.Restart id in
    let tests = (nat_le greatest w.next_boot, CountFull) ∷ [] in
    first-so (Stands w e) tests (λ high. tt, λ low. tt) why (refusal-is (refused_by tests) _ why is)
