-- The pair after an event that is accepted, nodes and link and next boot at once.
use Rattle.std.specs.Prelude.{◌≡◌, ◌+◌, ℕ, nat_le, [], ◌∷◌, length, Option, Some, None, Result, Ok, Err}
use Rattle.std.specs.List.{fold}
use Rattle.std.specs.Option.{option_map_or}
use Rattle.std.proofs.Common.{sym}
use Rattle.pfl_base.specs.Lists.{folds}
use Rattle.pfl_base.specs.declared.node_id.NodeId.{NodeId}
use Rattle.pfl_base.specs.declared.refusal.Refusal.{Refusal}
use Rattle.pfl_base.specs.declared.refusal.Refusal.TheVariants.{NoSuchFrame, LinkFull, CountFull}
use Rattle.pfl_base.specs.Numbers.{greatest}
use Rattle.pfl_edits.specs.Maps as maps
use Rattle.pfl_edits.proofs.ForCallers.{some_is_none}
use Rattle.pfl_world.specs.wire.declared.fault.BadFrame.{BadFrame}
use Rattle.pfl_world.specs.wire.Frames.{Frame, records_of}
use Rattle.pfl_world.specs.wire.Reading.{reading}
use Rattle.pfl_language.specs.declared.event.Event.{Event}
use Rattle.pfl_language.specs.declared.event.Event.TheVariants as event
use Rattle.pfl_language.specs.declared.event.FrameEvent.TheVariants as frame
use Rattle.pfl_language.specs.declared.outcome.Outcome.TheVariants as outcome
use Rattle.pfl_language.specs.declared.outcome.Outcome.{Outcome}
use Rattle.pfl_world.specs.link.Links.{Link, InFlight, is_full, is_counted_out, sent, without_frame, with_frame, cut_to}
use Rattle.pfl_world.specs.desk.Nodes.{refused_by, full_tests, unless_refused}
use Rattle.pfl_world.specs.desk.Changes.{count_broken}
use Rattle.pfl_world.specs.receive.Receiving.{taken}
use Rattle.pfl_world.specs.node.Flushing.{flushed}
use Rattle.pfl_world.specs.node.Events.{restarted}
use Rattle.pfl_world.specs.node.Stepping.{node_refusal, node_after}
use Rattle.pfl_world.specs.Events.{step}
use Rattle.pfl_world.specs.Runs.{world_after}
use Rattle.pfl_world.specs.receive.Delivering.{same_rules}
use Rattle.pfl_world.specs.Flushing.{flush_refusal, sent_frame, flush_step}
use Rattle.pfl_world.specs.Delivering.{read_taken, deliver_step}
use Rattle.pfl_world.specs.Tickets.{lose_step, repeat_step, cut_step, without_ticket}
use Rattle.pfl_world.specs.Restarting.{restart_step}
use Rattle.pfl_world.specs.Worlds.{World, node_at, with_node, with_link}
use Rattle.pfl_laws.proofs.Delivering.{received}
use Rattle.pfl_laws.proofs.Stepping.{answered-world, own-world}

-- the pair with what becomes of a frame, if it is in flight
abbrev pub of_frame : World → Option InFlight → (InFlight → World) → World
of_frame w None done = w
of_frame w (Some f) done = done f

-- the pair after an event that is not refused
abbrev pub result : World → Event → World
result w (event.At id e) = with_node w id (node_after (node_at w id) e).node
result w (event.Flush id) = with_link (with_node w id (flushed (node_at w id))) (sent w.link (sent_frame w id))
result w (event.Of ticket frame.Deliver) =
    of_frame w (maps.get w.link.frames ticket) (λ f. with_node (without_ticket w ticket) f.to (received (node_at w f.to) (reading f.bytes)))
result w (event.Of ticket frame.Lose) = of_frame w (maps.get w.link.frames ticket) (λ f. with_link w (without_frame w.link ticket))
result w (event.Of ticket frame.Repeat) = of_frame w (maps.get w.link.frames ticket) (λ f. with_link w (sent w.link f))
result w (event.Of ticket (frame.Cut len)) = of_frame w (maps.get w.link.frames ticket) (λ f. with_link w (with_frame w.link ticket (cut_to f len)))
result w (event.Restart id) = record (with_node w id (restarted (node_at w id) w.next_boot)) { next_boot = w.next_boot + 1 }

read-world : (w : World) (ticket : ℕ) (to : NodeId) (r : Result Frame BadFrame) (v : World)
    → world_after (read_taken (without_ticket w ticket) to (node_at w to) r) ≡ Some v → with_node (without_ticket w ticket) to (received (node_at w to) r) ≡ v
read-world w ticket to (Ok f) v e =
    let n = node_at w to in
    answered-world (refused_by (full_tests (folds (λ k r. taken k (same_rules n f) r) n (records_of f))))
    (record {
      world = with_node (without_ticket w ticket) to (fold (λ k r. taken k (same_rules n f) r) n (records_of f));
      outcome = outcome.Taken (length (records_of f));
    }) v e
read-world w ticket to (Err why) v e =
    let m = count_broken (node_at w to) in
    answered-world (refused_by (full_tests (m ∷ []))) (record { world = with_node (without_ticket w ticket) to m; outcome = outcome.Broken why }) v e

arrived-world : (w : World) (ticket : ℕ) (o : Option InFlight) (v : World)
    → world_after (option_map_or (λ f. read_taken (without_ticket w ticket) f.to (node_at w f.to) (reading f.bytes)) o (Err NoSuchFrame)) ≡ Some v
    → of_frame w o (λ f. with_node (without_ticket w ticket) f.to (received (node_at w f.to) (reading f.bytes))) ≡ v
arrived-world w ticket None v e = absurd (some_is_none v (sym e))
arrived-world w ticket (Some f) v e = read-world w ticket f.to (reading f.bytes) v e

frame-world : (w : World) (frame : Option InFlight) (o : Option Refusal) (l : InFlight → Link) (out : InFlight → Outcome) (v : World)
    → world_after (option_map_or (λ f. unless_refused o (record { world = with_link w (l f); outcome = out f })) frame (Err NoSuchFrame))
    ≡ Some v → of_frame w frame (λ f. with_link w (l f)) ≡ v
frame-world w None o l out v e = absurd (some_is_none v (sym e))
frame-world w (Some f) o l out v e = answered-world o (record { world = with_link w (l f); outcome = out f }) v e

pub stepped-world : (w : World) (e : Event) (v : World) → world_after (step w e) ≡ Some v → result w e ≡ v
unfolding step flush_step deliver_step lose_step repeat_step cut_step restart_step
stepped-world w (event.At id e) v is = own-world w id (node_refusal (node_at w id) e) (node_after (node_at w id) e) v is
stepped-world w (event.Flush id) v e =
    answered-world (flush_refusal w id)
    (record {
      world = with_link (with_node w id (flushed (node_at w id))) (sent w.link (sent_frame w id));
      outcome = outcome.Sent w.link.next (length (sent_frame w id).bytes);
    }) v e
stepped-world w (event.Of ticket frame.Deliver) v e = arrived-world w ticket (maps.get w.link.frames ticket) v e
stepped-world w (event.Of ticket frame.Lose) v e = frame-world w (maps.get w.link.frames ticket) None (λ f. without_frame w.link ticket) (λ f. outcome.Lost) v e
stepped-world w (event.Of ticket frame.Repeat) v e =
    frame-world w (maps.get w.link.frames ticket) (refused_by ((is_full w.link, LinkFull) ∷ (is_counted_out w.link, CountFull) ∷ []))
    (λ f. sent w.link f) (λ f. outcome.Sent w.link.next (length f.bytes)) v e
stepped-world w (event.Of ticket (frame.Cut len)) v e =
    frame-world w (maps.get w.link.frames ticket) None (λ f. with_frame w.link ticket (cut_to f len)) (λ f. outcome.CutTo (length (cut_to f len).bytes)) v e
stepped-world w (event.Restart id) v e =
    answered-world (refused_by ((nat_le greatest w.next_boot, CountFull) ∷ []))
    (record { world = record (with_node w id (restarted (node_at w id) w.next_boot)) { next_boot = w.next_boot + 1 }; outcome = outcome.Boot w.next_boot }) v e
