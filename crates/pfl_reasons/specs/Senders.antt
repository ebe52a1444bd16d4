-- Events counted by the frames that they send, so that the event of a ticket is found without the pair (this project's profile).
use Rattle.std.specs.Prelude.{◌≡◌, ◌≤◌, ℕ, ◌+◌, ◌-◌, ◌==◌, Bool, true, false, nat_lt, List, [], ◌∷◌, length, filter, take, drop, slice_get, Option}
use Rattle.std.specs.Prelude.{None, Some, is_some, IsTrue, Result, Ok, Err, if◌then◌else◌}
use Rattle.std.specs.List.{cons_option}
use Rattle.std.specs.Option.{option_map, option_and_then}
use Rattle.pfl_base.specs.Numbers.{greatest}
use Rattle.pfl_edits.specs.Maps as maps
use Rattle.pfl_wire.specs.declared.fault.BadFrame.{BadFrame}
use Rattle.pfl_wire.specs.Frames.{Frame, records_of}
use Rattle.pfl_wire.specs.Reading.{reading}
use Rattle.pfl_language.specs.declared.event.Event.{Event}
use Rattle.pfl_language.specs.declared.event.Event.TheVariants as event
use Rattle.pfl_language.specs.declared.event.FrameEvent.{FrameEvent}
use Rattle.pfl_language.specs.declared.event.FrameEvent.TheVariants as frame
use Rattle.pfl_language.specs.declared.outcome.Outcome.{Outcome}
use Rattle.pfl_language.specs.declared.outcome.Outcome.TheVariants.{Sent, Taken, Broken, Lost, CutTo}
use Rattle.pfl_link.specs.Links.{InFlight, cut_to}
use Rattle.pfl_world.specs.Runs.{run}
use Rattle.pfl_world.specs.Worlds.{World, IsWorld}
use Rattle.pfl_reasons.specs.declared.frame_step.FrameStep.{FrameStep}
use Rattle.pfl_reasons.specs.Frames.{Trace, traced}

-- an event that sends a frame, where it is accepted: it takes the next ticket
abbrev pub sends : Event → Bool
sends (event.Flush node) = true
sends (event.Of of frame.Repeat) = true
sends other = false

-- how many of the events send a frame
abbrev pub senders : List Event → ℕ
senders es = length (filter sends es)

-- the place of the event that sends the n-th frame, n counted from 0, where the first event is at the place k
unfoldable pub nth_sender : ℕ → ℕ → List Event → Option ℕ
nth_sender k n [] = None
nth_sender k n (e ∷ es) = if sends e then (if n == 0 then Some k else nth_sender (k + 1) (n - 1) es) else nth_sender (k + 1) n es

-- the place of the event that sends the frame of the ticket, where the first frame gets the ticket `first`
abbrev pub sending_place : ℕ → ℕ → List Event → Option ℕ
sending_place first ticket es = if nat_lt ticket first then None else nth_sender 1 (ticket - first) es

-- what a frame that comes to its receiver gives
abbrev pub read_outcome : Result Frame BadFrame → Outcome
read_outcome (Ok f) = Taken (length (records_of f))
read_outcome (Err why) = Broken why

-- what an event gives that befalls the frame, where the next ticket is this one
abbrev pub befallen : ℕ → InFlight → FrameEvent → Outcome
befallen next f frame.Deliver = read_outcome (reading f.bytes)
befallen next f frame.Lose = Lost
befallen next f frame.Repeat = Sent next (length f.bytes)
befallen next f (frame.Cut len) = CutTo (length (cut_to f len).bytes)

-- the frame after it, as long as it is in flight
abbrev pub left_of : InFlight → FrameEvent → InFlight
left_of f (frame.Cut len) = cut_to f len
left_of f other = f

-- the next ticket after an event
abbrev pub next_after : ℕ → Event → ℕ
next_after next e = if sends e then next + 1 else next

-- the event at the place k with its outcome, if it befalls the frame of the ticket
abbrev pub step_of : ℕ → ℕ → ℕ → InFlight → Event → Option FrameStep
step_of ticket next k f (event.Of of e) = if of == ticket then Some (record { place = k; event = event.Of of e; outcome = befallen next f e }) else None
step_of ticket next k f other = None

-- the frame of the ticket after an event, as long as it is in flight
abbrev pub left_after : ℕ → InFlight → Event → InFlight
left_after ticket f (event.Of of e) = if of == ticket then left_of f e else f
left_after ticket f other = f

-- the events that befall the frame of the ticket: the first event is at the place k, and the next ticket is `next`
unfoldable pub steps_of : ℕ → ℕ → ℕ → InFlight → List Event → List FrameStep
steps_of ticket next k f [] = []
steps_of ticket next k f (e ∷ es) = cons_option (step_of ticket next k f e) (steps_of ticket (next_after next e) (k + 1) (left_after ticket f e) es)

-- the trace of the frame that the event at the place k sent
abbrev pub counted_trace : World → List Event → ℕ → ℕ → Option Trace
counted_trace opening es ticket k =
    option_and_then (λ e.
    option_and_then (λ (w : World).
    option_map (λ f. record {
      first = record { place = k; event = e; outcome = Sent ticket (length f.bytes) };
      frame = f;
      later = steps_of ticket (ticket + 1) (k + 1) f (drop k es);
    }) (maps.get w.link.frames ticket)) (run opening (take k es))) (slice_get es (k - 1))

-- ---- laws

-- the next ticket counts the frames that were sent
abbrev pub TicketsAreCounted : Type 0
TicketsAreCounted = (w v : World) (es : List Event) → run w es ≡ Some v → v.link.next ≡ w.link.next + senders es

-- the trace of a frame is the one that is counted
abbrev pub TracesAreCounted : Type 0
TracesAreCounted =
    (opening : World) (es : List Event) (ticket : ℕ) → IsWorld opening → IsTrue (is_some (run opening es))
    → traced opening es ticket ≡ option_and_then (counted_trace opening es ticket) (sending_place opening.link.next ticket es)

-- where an event is counted as the sender of a frame, the frame has a trace
abbrev pub TracesAreThere : Type 0
TracesAreThere =
    (opening : World) (es : List Event) (ticket k : ℕ) → IsWorld opening → IsTrue (is_some (run opening es))
    → sending_place opening.link.next ticket es ≡ Some k
    → IsTrue (is_some (traced opening es ticket))

-- no ticket that is counted for it is above the greatest number
abbrev pub TicketsAreNumbers : Type 0
TicketsAreNumbers =
    (opening : World) (es : List Event) (ticket k : ℕ) → IsWorld opening → IsTrue (is_some (run opening es))
    → sending_place opening.link.next ticket es ≡ Some k
    → ticket + 1 + senders (drop k es) ≤ greatest
