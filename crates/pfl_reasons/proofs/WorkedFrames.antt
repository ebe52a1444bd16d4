-- Worked cases of frames, computed: the event that sent each, and what befell it.
use Rattle.std.specs.Prelude.{◌≡◌, ℕ, List, [], ◌∷◌, length, Option, None, Some, refl}
use Rattle.std.specs.Option.{option_map}
use Rattle.pfl_base.specs.declared.direction.Dir.TheVariants.{Outbound}
use Rattle.pfl_base.specs.declared.node_id.NodeId.TheVariants.{A}
use Rattle.pfl_language.specs.declared.event.Event.{Event}
use Rattle.pfl_language.specs.declared.event.Event.TheVariants as event
use Rattle.pfl_language.specs.declared.event.FrameEvent.TheVariants as frame
use Rattle.pfl_language.specs.declared.node_event.NodeEvent.TheVariants as own
use Rattle.pfl_language.specs.declared.outcome.Outcome.{Outcome}
use Rattle.pfl_language.specs.declared.outcome.Outcome.TheVariants as outcome
use Rattle.pfl_wire.specs.declared.fault.BadFrame.TheVariants as fault
use Rattle.pfl_world.proofs.ForCallers.{computing as of_worlds, limits, opening, u1}
use Rattle.pfl_reasons.specs.declared.frame_step.FrameStep.{FrameStep}
use Rattle.pfl_reasons.specs.Frames.{Trace, done, traced}
use Rattle.pfl_reasons.specs.Senders.{nth_sender, sending_place}

unfoldable computing : ℕ
unfolding of_worlds done traced nth_sender
computing = 0

-- a trace, with the number of the frame's bytes in their place
record Shown : Type 0 where
  first : FrameStep
  bytes : ℕ
  later : List FrameStep

abbrev show : Trace → Shown
show t = record { first = t.first; bytes = length t.frame.bytes; later = t.later }

abbrev at : ℕ → Event → Outcome → FrameStep
at place e o = record { place = place; event = e; outcome = o }

abbrev out : Event
out = event.At A (own.Packet Outbound u1)

abbrev flush : Event
flush = event.Flush A

abbrev deliver : ℕ → Event
deliver ticket = event.Of ticket frame.Deliver

abbrev lose : ℕ → Event
lose ticket = event.Of ticket frame.Lose

abbrev repeat : ℕ → Event
repeat ticket = event.Of ticket frame.Repeat

abbrev cut : ℕ → ℕ → Event
cut ticket len = event.Of ticket (frame.Cut len)

-- a state is made, and its frame is sent, copied, cut and lost; the copy is delivered
abbrev events : List Event
events = out ∷ flush ∷ repeat 1 ∷ cut 1 147 ∷ deliver 2 ∷ lose 1 ∷ []

abbrev seen : List Event → ℕ → Option Shown
seen es ticket = option_map show (traced (opening limits) es ticket)

the_first_frame : seen events 1
    ≡ Some (record {
      first = at 2 flush (outcome.Sent 1 148);
      bytes = 148;
      later = at 3 (repeat 1) (outcome.Sent 2 148)
          ∷ at 4 (cut 1 147) (outcome.CutTo 147) ∷ at 6 (lose 1) outcome.Lost ∷ [];
    })
unfolding computing
the_first_frame = refl

-- an event of one frame befalls no other
the_copy : seen events 2 ≡ Some (record { first = at 3 (repeat 1) (outcome.Sent 2 148); bytes = 148; later = at 5 (deliver 2) (outcome.Taken 1) ∷ [] })
unfolding computing
the_copy = refl

-- no frame has the ticket 0, nor the next one
never_sent : seen events 0 ≡ None
unfolding computing
never_sent = refl

not_yet_sent : seen events 3 ≡ None
unfolding computing
not_yet_sent = refl

-- a frame that was cut is copied as it is then, and is read so
abbrev cut_first : List Event
cut_first = out ∷ flush ∷ cut 1 147 ∷ repeat 1 ∷ deliver 1 ∷ cut 2 19 ∷ deliver 2 ∷ []

what_was_cut : seen cut_first 1
    ≡ Some (record {
      first = at 2 flush (outcome.Sent 1 148);
      bytes = 148;
      later = at 3 (cut 1 147) (outcome.CutTo 147)
          ∷ at 4 (repeat 1) (outcome.Sent 2 147) ∷ at 5 (deliver 1) (outcome.Broken fault.Length) ∷ [];
    })
unfolding computing
what_was_cut = refl

the_copy_of_it : seen cut_first 2
    ≡ Some (record {
      first = at 4 (repeat 1) (outcome.Sent 2 147);
      bytes = 147;
      later = at 6 (cut 2 19) (outcome.CutTo 19)
          ∷ at 7 (deliver 2) (outcome.Broken fault.Short) ∷ [];
    })
unfolding computing
the_copy_of_it = refl

-- the places of the events that send, counted without the pair: tickets begin at 1
first_place : sending_place 1 1 events ≡ Some 2
unfolding computing
first_place = refl

second_place : sending_place 1 2 events ≡ Some 3
unfolding computing
second_place = refl

-- where the pair gave tickets before, the first one is another
later_place : sending_place 41 42 events ≡ Some 3
unfolding computing
later_place = refl

before_all : sending_place 41 40 events ≡ None
unfolding computing
before_all = refl
