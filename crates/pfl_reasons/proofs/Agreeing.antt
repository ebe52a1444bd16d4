-- What an event gives follows from its explanation, and the numbers that are shown do stand against one that is refused.
use Rattle.std.specs.Prelude.{◌≡◌, ◌+◌, ℕ, suc, Bool, nat_le, List, [], ◌∷◌, length, map, Option, Some, None, Result, Ok, Err, refl}
use Rattle.std.specs.List.{fold}
use Rattle.std.specs.Option.{option_map_or}
use Rattle.std.specs.Result.{IsOkAnd}
use Rattle.std.proofs.Common.{ap, sym, subst}
use Rattle.pfl_base.specs.declared.node_id.NodeId.{NodeId}
use Rattle.pfl_base.specs.declared.refusal.Refusal.{Refusal}
use Rattle.pfl_base.specs.declared.refusal.Refusal.TheVariants.{CountFull, LinkFull, NoSuchFrame}
use Rattle.pfl_base.specs.Numbers.{greatest}
use Rattle.pfl_edits.specs.Maps as maps
use Rattle.pfl_track.specs.RuleLaws.{OutcomesFollow}
use Rattle.pfl_language.specs.declared.event.Event.{Event}
use Rattle.pfl_language.specs.declared.event.Event.TheVariants as event
use Rattle.pfl_language.specs.declared.event.FrameEvent.{FrameEvent}
use Rattle.pfl_language.specs.declared.event.FrameEvent.TheVariants as frame
use Rattle.pfl_language.specs.declared.node_event.NodeEvent.{NodeEvent}
use Rattle.pfl_language.specs.declared.node_event.NodeEvent.TheVariants as own
use Rattle.pfl_language.specs.declared.outcome.Outcome.{Outcome}
use Rattle.pfl_language.specs.declared.outcome.Outcome.TheVariants as outcome
use Rattle.pfl_language.specs.Limits.{adaptive}
use Rattle.pfl_link.specs.Links.{InFlight, cut_to, is_counted_out, is_full, sent, with_frame}
use Rattle.pfl_wire.specs.declared.fault.BadFrame.{BadFrame}
use Rattle.pfl_wire.specs.declared.message.Message.{Message}
use Rattle.pfl_wire.specs.Frames.{Frame, records_of}
use Rattle.pfl_wire.specs.Reading.{reading}
use Rattle.pfl_world.specs.desk.Changes.{count_broken}
use Rattle.pfl_world.specs.desk.Nodes.{Node, full_tests, refused_by, unless_refused}
use Rattle.pfl_world.specs.node.Events.{restarted}
use Rattle.pfl_world.specs.node.Flushing.{flushed}
use Rattle.pfl_world.specs.node.Packets.{handled}
use Rattle.pfl_world.specs.node.Purging.{expired_states, purged}
use Rattle.pfl_world.specs.node.Stepping.{NodeStepped, node_after, node_step}
use Rattle.pfl_world.specs.receive.Delivering.{receive_points, received, same_rules}
use Rattle.pfl_world.specs.receive.Receiving.{taken}
use Rattle.pfl_world.specs.AtNodes.{from_node, stepped_at}
use Rattle.pfl_world.specs.Delivering.{deliver_step, read_taken}
use Rattle.pfl_world.specs.Events.{frame_event, step}
use Rattle.pfl_world.specs.Flushing.{flush_refusal, flush_step, sent_frame}
use Rattle.pfl_world.specs.Meanings.{Stepped}
use Rattle.pfl_world.specs.Restarting.{restart_step}
use Rattle.pfl_world.specs.Tickets.{cut_step, lose_step, repeat_step, step_unless, without_ticket}
use Rattle.pfl_world.specs.Worlds.{World, node_at, with_link, with_node}
use Rattle.pfl_reasons.specs.declared.record_fate.TakenRecord.{TakenRecord}
use Rattle.pfl_reasons.specs.Explaining.{AgreesWith, ArrivedSo, FollowsFrom, NeedsNoReason, Packet as OfPacket, Plain, ReasonsAgree, TakenSo}
use Rattle.pfl_reasons.specs.Explaining.{explained, explained_at, explained_by, explained_frame, explained_of_frame, explained_outcome}
use Rattle.pfl_reasons.specs.Packets.{HandledSo, packet_reason}
use Rattle.pfl_reasons.specs.Purges.{PurgedSo, expiries}
use Rattle.pfl_reasons.specs.Records.{fates}
use Rattle.pfl_reasons.proofs.Counted.{counted}
use Rattle.pfl_reasons.proofs.Handling.{handled-so}
use Rattle.pfl_reasons.proofs.Killing.{own-node}
use Rattle.pfl_reasons.proofs.Purged.{purged-so}
use Rattle.pfl_reasons.proofs.Refusing.{numbers-stand}
use Rattle.pfl_reasons.proofs.Stated.{some_and}

-- ---- a frame

fates-length : (same : Bool) (n : Node) (ms : List Message) → length ms ≡ length (fates n same ms)
unfolding fates
fates-length same n [] = refl
fates-length same n (m ∷ ms) = ap (λ (k : ℕ). suc k) (fates-length same (taken n same m) ms)

fates-messages : (same : Bool) (n : Node) (ms : List Message) → map (λ (t : TakenRecord). t.message) (fates n same ms) ≡ ms
unfolding fates
fates-messages same n [] = refl
fates-messages same n (m ∷ ms) = ap (λ (xs : List Message). m ∷ xs) (fates-messages same (taken n same m) ms)

-- each record counts as its fate says
fates-taken : (same : Bool) (n : Node) (ms : List Message) → TakenSo n (fates n same ms) (fold (λ m r. taken m same r) n ms)
unfolding fates
fates-taken same n [] = refl
fates-taken same n (m ∷ ms) = (taken n same m, counted n same m, fates-taken same (taken n same m) ms)

-- ---- events

-- what is accepted gives what it gives
accepted : {X : Type 0} (o : Option Refusal) (x y : X) → unless_refused o x ≡ Ok y → x ≡ y
accepted None x y is = cc
accepted (Some r) x y is = absurd (cc)

accepted-at : (w : World) (id : NodeId) (o : Option Refusal) (t : NodeStepped) (s : Stepped) → from_node w id (unless_refused o t) ≡ Ok s
    → stepped_at w id t ≡ s
accepted-at w id None t s is = cc
accepted-at w id (Some r) t s is = absurd (cc)

-- of an event that needs no reason
plain-at : (w : World) (id : NodeId) (e : NodeEvent) (s : Stepped) → NeedsNoReason (outcome.At (node_after (node_at w id) e).outcome)
    → from_node w id (node_step (node_at w id) e) ≡ Ok s → FollowsFrom w (event.At id e) Plain s
plain-at w id e s so is = subst (FollowsFrom w (event.At id e) Plain) (accepted-at w id _ _ s is) so

at_node-so : OutcomesFollow → (w : World) (id : NodeId) (e : NodeEvent) (s : Stepped) → from_node w id (node_step (node_at w id) e) ≡ Ok s
    → FollowsFrom w (event.At id e) (explained_at (node_at w id) e) s
at_node-so follow w id (own.Packet dir p) s is =
    let n = node_at w id in
    let h = handled n dir p in
    subst (FollowsFrom w (event.At id (own.Packet dir p)) (OfPacket (packet_reason n dir p))) (accepted-at w id _ _ s is)
    (subst (λ m. HandledSo n dir p (packet_reason n dir p) (record { fate = h.fate; node = m })) (sym (own-node w id h.node)) (handled-so follow n dir p))
at_node-so follow w id own.Purge s is =
    let n = node_at w id in
    subst (FollowsFrom w (event.At id own.Purge) (explained_at n own.Purge)) (accepted-at w id _ _ s is)
    (subst (PurgedSo n n.clock (maps.len n.states) (adaptive n.limits) (expiries n) (length (expired_states n))) (sym (own-node w id (purged n))) (purged-so n))
at_node-so follow w id (own.Tick ms) s is = plain-at w id (own.Tick ms) s tt is
at_node-so follow w id own.Release s is = plain-at w id own.Release s tt is
at_node-so follow w id (own.Kill name) s is = plain-at w id (own.Kill name) s tt is
at_node-so follow w id own.Clear s is = plain-at w id own.Clear s tt is
at_node-so follow w id own.BulkTurn s is = plain-at w id own.BulkTurn s tt is
at_node-so follow w id own.BulkRetry s is = plain-at w id own.BulkRetry s tt is

-- a frame in flight that comes to its receiver
module _ (w : World) (ticket : ℕ) (f : InFlight) (at : maps.get w.link.frames ticket ≡ Some f) where
  -- the records of one that is read
  arrived-so : (g : Frame) → reading f.bytes ≡ Ok g
      → ArrivedSo w (fates (node_at w f.to) (same_rules (node_at w f.to) g) (records_of g))
      (with_node (without_ticket w ticket) f.to (received (node_at w f.to) g)) f
  arrived-so g read =
      let n = node_at w f.to in
      let list = fates n (same_rules n g) (records_of g) in (
        subst (λ (r : Result Frame BadFrame). IsOkAnd r (λ g. map (λ (t : TakenRecord). t.message) list ≡ records_of g)) (sym read)
            (fates-messages (same_rules n g) n (records_of g)),
        subst (TakenSo n list) (sym (own-node (without_ticket w ticket) f.to (received n g))) (fates-taken (same_rules n g) n (records_of g)),
      )

  read-so : (r : Result Frame BadFrame) → reading f.bytes ≡ r → (s : Stepped) → read_taken (without_ticket w ticket) f.to (node_at w f.to) r ≡ Ok s
      → FollowsFrom w (event.Of ticket frame.Deliver) (explained_frame (node_at w f.to) r) s
  read-so (Ok g) read s is =
      let n = node_at w f.to in
      let after = with_node (without_ticket w ticket) f.to (received n g) in
      let list = fates n (same_rules n g) (records_of g) in
      subst (FollowsFrom w (event.Of ticket frame.Deliver) (explained_frame n (Ok g)))
      (accepted (refused_by (full_tests (receive_points n g))) (record { world = after; outcome = outcome.Taken (length (records_of g)) }) s is) (
        ap outcome.Taken (fates-length (same_rules n g) n (records_of g)),
        some_and (ArrivedSo w list after) (maps.get w.link.frames ticket) f at (arrived-so g read),
      )
  read-so (Err why) read s is =
      let n = node_at w f.to in
      subst (FollowsFrom w (event.Of ticket frame.Deliver) Plain)
      (accepted (refused_by (full_tests (count_broken n ∷ [])))
      (record { world = with_node (without_ticket w ticket) f.to (count_broken n); outcome = outcome.Broken why }) s is) tt

delivered-so : (w : World) (ticket : ℕ) (o : Option InFlight) → maps.get w.link.frames ticket ≡ o → (s : Stepped)
    → option_map_or (λ f. read_taken (without_ticket w ticket) f.to (node_at w f.to) (reading f.bytes)) o (Err NoSuchFrame) ≡ Ok s
    → FollowsFrom w (event.Of ticket frame.Deliver)
    (option_map_or (λ (f : InFlight). explained_frame (node_at w f.to) (reading f.bytes)) o Plain) s
delivered-so w ticket None at s is = absurd (cc)
delivered-so w ticket (Some f) at s is = read-so w ticket f at (reading f.bytes) refl s is

-- an event of a frame in flight that needs no reason
plain-of : (w : World) (e : Event) (tests : List (Bool × Refusal)) (after : InFlight → World) (gives : InFlight → Outcome)
    → ((f : InFlight) → NeedsNoReason (gives f)) → (o : Option InFlight) (s : Stepped)
    → option_map_or (λ f. step_unless tests (after f) (gives f)) o (Err NoSuchFrame) ≡ Ok s → FollowsFrom w e Plain s
plain-of w e tests after gives so None s is = absurd (cc)
plain-of w e tests after gives so (Some f) s is =
    subst (FollowsFrom w e Plain) (accepted (refused_by tests) (record { world = after f; outcome = gives f }) s is) (so f)

of_frame-so : (w : World) (ticket : ℕ) (e : FrameEvent) (s : Stepped) → frame_event w ticket e ≡ Ok s
    → FollowsFrom w (event.Of ticket e) (explained_of_frame w ticket e) s
unfolding deliver_step lose_step repeat_step cut_step
of_frame-so w ticket frame.Deliver s is = delivered-so w ticket (maps.get w.link.frames ticket) refl s is
of_frame-so w ticket frame.Lose s is =
    plain-of w (event.Of ticket frame.Lose) [] (λ f. without_ticket w ticket) (λ f. outcome.Lost) (λ f. tt) (maps.get w.link.frames ticket) s is
of_frame-so w ticket frame.Repeat s is =
    plain-of w (event.Of ticket frame.Repeat) ((is_full w.link, LinkFull) ∷ (is_counted_out w.link, CountFull) ∷ [])
    (λ f. with_link w (sent w.link f)) (λ f. outcome.Sent w.link.next (length f.bytes)) (λ f. tt) (maps.get w.link.frames ticket) s is
of_frame-so w ticket (frame.Cut len) s is =
    plain-of w (event.Of ticket (frame.Cut len)) []
    (λ f. with_link w (with_frame w.link ticket (cut_to f len))) (λ f. outcome.CutTo (length (cut_to f len).bytes))
    (λ f. tt) (maps.get w.link.frames ticket) s is

-- what an event gives that is accepted follows from its explanation
given-so : OutcomesFollow → (w : World) (e : Event) (s : Stepped) → step w e ≡ Ok s → FollowsFrom w e (explained_outcome w e) s
unfolding step flush_step restart_step
given-so follow w (event.At id e) s is = at_node-so follow w id e s is
given-so follow w (event.Of ticket e) s is = of_frame-so w ticket e s is
given-so follow w (event.Flush id) s is =
    subst (FollowsFrom w (event.Flush id) Plain) (accepted (flush_refusal w id) (record {
      world = with_link (with_node w id (flushed (node_at w id))) (sent w.link (sent_frame w id));
      outcome = outcome.Sent w.link.next (length (sent_frame w id).bytes);
    }) s is) tt
given-so follow w (event.Restart id) s is =
    subst (FollowsFrom w (event.Restart id) Plain) (accepted (refused_by ((nat_le greatest w.next_boot, CountFull) ∷ [])) (record {
      world = record (with_node w id (restarted (node_at w id) w.next_boot)) { next_boot = w.next_boot + 1 };
      outcome = outcome.Boot w.next_boot;
    }) s is) tt

-- each event agrees with its explanation
pub events-agree : OutcomesFollow → ReasonsAgree
unfolding explained
events-agree follow w e = by (step w e) refl
  where
    by : (r : Result Stepped Refusal) → step w e ≡ r → AgreesWith w e (explained_by w e r) r
    by (Ok s) is = given-so follow w e s is
    by (Err why) is = numbers-stand w e why is
