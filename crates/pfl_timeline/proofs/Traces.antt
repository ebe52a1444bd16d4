-- The frame of a ticket, found without the opening at hand.
use Rattle.std.specs.Prelude.{◌≡◌, ℕ, ◌+◌, ◌-◌, ◌≤◌, Bool, false, List, length, take, drop, slice_get, Option, Some, None, is_some, IsTrue, Result}
use Rattle.std.specs.Prelude.{Ok, IfOk, refl}
use Rattle.std.specs.Option.{option_map, option_map_or, option_and_then}
use Rattle.std.proofs.Common.{sym, ◌∙◌, ap, subst}
use Rattle.pfl_edits.specs.Maps as maps
use Rattle.pfl_language.specs.declared.event.Event.{Event}
use Rattle.pfl_language.specs.declared.outcome.Outcome.TheVariants.{Sent}
use Rattle.pfl_language.specs.declared.refused.Refused.TheVariants as refused
use Rattle.pfl_search.specs.world.link.Links.{InFlight}
use Rattle.pfl_search.specs.world.Runs.{run}
use Rattle.pfl_search.specs.world.Worlds.{World, IsWorld}
use Rattle.pfl_reasons.specs.declared.frame_step.FrameStep.{FrameStep}
use Rattle.pfl_reasons.specs.Frames.{Trace, traced}
use Rattle.pfl_reasons.specs.Senders.{TicketsAreCounted, TracesAreCounted, TracesAreThere, counted_trace, senders, sending_place, steps_of}
use Rattle.pfl_timeline.specs.Answers.{frame_answer}
use Rattle.pfl_timeline.specs.Memory.{is_refusal}
use Rattle.pfl_timeline.specs.Histories.{History}
use Rattle.pfl_timeline.specs.Kept.{rooted}
use Rattle.pfl_timeline.specs.Replies.{Reply, Shown, Traced, Refused as Refusing}
use Rattle.pfl_timeline.specs.Rooted.{Rooted, shown}
use Rattle.pfl_timeline.specs.Timelines.{IsBranch, standing}
use Rattle.pfl_timeline.specs.inner.Looking.{IsSeen, frame_there}

-- the next ticket where a branch stands
pub next-ticket : TicketsAreCounted → (r : Rooted) (w : World) → shown r ≡ Some w → w.link.next ≡ r.opening.link.next + senders (standing r.branch)
next-ticket counted r w here = counted r.opening w (standing r.branch) here

-- as many of those that stand send frames
pub standing-senders : (r : Rooted) (n : ℕ) (es : List Event) → n ≡ r.branch.cursor → es ≡ r.branch.events → senders (take n es) ≡ senders (standing r.branch)
standing-senders r n es cursor events = ap (λ (m : ℕ). senders (take m es)) cursor ∙ ap (λ (fs : List Event). senders (take r.branch.cursor fs)) events

module _ (r : Rooted) (ticket : ℕ) (opening : IsWorld r.opening) (branch : IsBranch r.opening r.branch) where
  abbrev events : List Event
  events = r.branch.events

  abbrev shown_as : Option Trace → Reply
  shown_as o = option_map_or (Traced r.branch.name ticket) o (Refusing refused.NoFrame)

  abbrev place_of : Option ℕ
  place_of = sending_place r.opening.link.next ticket events

  -- no event sent it
  pub no-frame : TracesAreCounted → None ≡ place_of → Refusing refused.NoFrame ≡ frame_answer r.opening ticket r.branch
  no-frame counted none =
      sym (ap shown_as (counted r.opening events ticket opening branch.runs ∙ ap (option_and_then (counted_trace r.opening events ticket)) (sym none)))

  there : (o : Option Trace) → IsTrue (is_some o) → is_refusal (shown_as o) ≡ false
  there None is = absurd cc
  there (Some t) is = refl

  module _ (k : ℕ) (sent : place_of ≡ Some k) where
    -- one sent it, so it is shown
    pub frame-there : TracesAreThere → is_refusal (frame_answer r.opening ticket r.branch) ≡ false
    frame-there are = there (traced r.opening events ticket) (are r.opening events ticket k opening branch.runs sent)

    abbrev sent_as : Event → InFlight → Trace
    sent_as e f = record {
      first = record { place = k; event = e; outcome = Sent ticket (length f.bytes) };
      frame = f;
      later = steps_of ticket (ticket + 1) (k + 1) f (drop k events);
    }

    -- it is the one that is in flight after that event
    traced-is : TracesAreCounted → (e : Event) (w : World) (o : Option InFlight) → slice_get events (k - 1) ≡ Some e
        → run r.opening (take k events) ≡ Some w → maps.get w.link.frames ticket ≡ o
        → traced r.opening events ticket ≡ option_map (sent_as e) o
    traced-is counted e w o at to is =
        counted r.opening events ticket opening branch.runs
        ∙ ap (option_and_then (counted_trace r.opening events ticket)) sent
        ∙ ap (option_and_then (λ (c : Event). option_and_then (λ (v : World). option_map (sent_as c) (maps.get v.link.frames ticket))
        (run r.opening (take k events)))) at
        ∙ ap (option_and_then (λ (v : World). option_map (sent_as e) (maps.get v.link.frames ticket))) to
        ∙ ap (option_map (sent_as e)) is

    pub frame-is : TracesAreCounted → (e : Event) (w : World) (o : Option InFlight) → slice_get events (k - 1) ≡ Some e
        → run r.opening (take k events) ≡ Some w → maps.get w.link.frames ticket ≡ o
        → frame_answer r.opening ticket r.branch ≡ shown_as (option_map (sent_as e) o)
    frame-is counted e w o at to is = ap shown_as (traced-is counted e w o at to is)

-- what a look comes to that copies a frame
abbrev SeesFrame : {N W : Type 0} → ℕ → Reply → W → W → Result (Option InFlight) N → Type 0
SeesFrame ticket told old new seen = IfOk seen (λ frame. frame ≡ frame_there ticket told)

-- so it is where a branch's history is looked at
pub frame-seen : {N W : Type 0} (r : Rooted) (name : List ℕ) (h looked : History) (former : Option History) → rooted name h former ≡ r → looked ≡ h
    → (ticket k : ℕ) (opening : IsWorld r.opening) (branch : IsBranch r.opening r.branch)
    (sent : sending_place r.opening.link.next ticket r.branch.events ≡ Some k) → TracesAreCounted
    → (e : Event) → slice_get r.branch.events (k - 1) ≡ Some e
    → (f : InFlight) (old new : W) (seen : Result (Option InFlight) N) (o : Option InFlight) → seen ≡ Ok o → o ≡ Some f
    → IsSeen (SeesFrame ticket) name looked.opening looked.events k old new seen
    → frame_answer r.opening ticket r.branch ≡ Traced r.branch.name ticket (sent_as r ticket opening branch k sent e f)
frame-seen r name h looked former view is ticket k opening branch sent counted e there f old new seen o gave it saw =
    let here =
    subst (λ (q : Rooted). IsSeen (SeesFrame ticket) q.branch.name q.opening q.branch.events k old new seen) view
    (subst (λ (g : History). IsSeen (SeesFrame ticket) name g.opening g.events k old new seen) is saw) in
    let flies : o ≡ maps.get here.world.link.frames ticket =
    subst (λ (x : Result (Option InFlight) _). IfOk x
    (λ frame. frame ≡ frame_there ticket (Shown r.branch.name (length r.branch.events) k here.world))) gave here.sees_it in
    frame-is r ticket opening branch k sent counted e here.world (Some f) there here.run_to (sym flies ∙ it)

-- equal traces
pub traced_as : (name name' : List ℕ) (ticket k : ℕ) (e : Event) (len len' : ℕ) (f : InFlight) (steps steps' : List FrameStep)
    → name ≡ name' → len ≡ len' → steps ≡ steps'
    → Traced name ticket (record { first = record { place = k; event = e; outcome = Sent ticket len }; frame = f; later = steps })
    ≡ Traced name' ticket (record { first = record { place = k; event = e; outcome = Sent ticket len' }; frame = f; later = steps' })
traced_as name name' ticket k e len len' f steps steps' a b c =
    ap (λ (n : List ℕ). Traced n ticket (record { first = record { place = k; event = e; outcome = Sent ticket len }; frame = f; later = steps })) a
    ∙ ap (λ n. Traced name' ticket (record { first = record { place = k; event = e; outcome = Sent ticket n }; frame = f; later = steps })) b
    ∙ ap (λ (ss : List FrameStep). Traced name' ticket
    (record { first = record { place = k; event = e; outcome = Sent ticket len' }; frame = f; later = ss })) c
