-- What is in flight was sent by a node, or begins what was.
use Rattle.std.specs.Prelude.{◌≡◌, ◌++◌, ◌⊎◌, ℕ, List, [], ◌∷◌, drop, Option, Some, None, IsSomeAnd, refl}
use Rattle.std.proofs.Common.{◌∙◌, ap, sym, subst, append_assoc, inl, inr}
use Rattle.std.proofs.lemmas.Cmp.{nat_cmp_total}
use Rattle.std.proofs.lemmas.Map.Lookups.{exact_unsigned}
use Rattle.std.proofs.lemmas.List.{append-nil, take-append-drop}
use Rattle.pfl_edits.specs.Maps as maps
use Rattle.pfl_edits.proofs.ForCallers.{get-set_at_cases, some_is_none}
use Rattle.pfl_language.specs.declared.event.Event.{Event}
use Rattle.pfl_language.specs.declared.event.Event.TheVariants as event
use Rattle.pfl_language.specs.declared.event.FrameEvent.TheVariants as frame
use Rattle.pfl_world.specs.link.Links.{Link, InFlight, sent, without_frame, cut_to}
use Rattle.pfl_world.specs.Events.{step}
use Rattle.pfl_world.specs.Runs.{run, world_after}
use Rattle.pfl_world.specs.Flushing.{sent_frame}
use Rattle.pfl_world.specs.Worlds.{World}
use Rattle.pfl_laws.specs.Laws.{Begins, WasInFlight, WasSentBy, WasSentAlong, EventsSendOnlySo, FramesWereSent}
use Rattle.pfl_laws.proofs.Following.{inner}
use Rattle.pfl_laws.proofs.Running.{on-run, at-end}
use Rattle.pfl_laws.proofs.Stepped.{result, of_frame, stepped-world}

-- ---- beginnings

begins-itself : (f : InFlight) → Begins f f
begins-itself f = record { to = refl; rest = []; bytes = sym (append-nil f.bytes) }

begins-cut : (f : InFlight) (n : ℕ) → Begins (cut_to f n) f
begins-cut f n = record { to = refl; rest = drop n f.bytes; bytes = sym (take-append-drop n f.bytes) }

begins-then : (f g h : InFlight) → Begins f g → Begins g h → Begins f h
begins-then f g h first next = record {
  to = first.to ∙ next.to;
  rest = first.rest ++ next.rest;
  bytes = next.bytes ∙ (ap (λ (bytes : List ℕ). bytes ++ next.rest) first.bytes ∙ append_assoc f.bytes first.rest next.rest);
}

-- ---- one event

-- each frame of the other link was in flight before, or the event sent it
abbrev Came : World → Event → Link → Type 0
Came w e l = (ticket : ℕ) (f : InFlight) → maps.get l.frames ticket ≡ Some f → WasInFlight w f ⊎ WasSentBy w e f

came-same : (w : World) (e : Event) → Came w e w.link
came-same w e ticket f at = inl (record { ticket = ticket; whole = f; at = at; begins = begins-itself f })

came-without : (w : World) (e : Event) (name : ℕ) → Came w e (without_frame w.link name)
came-without w e name ticket f at = elim (get-set_at_cases nat_cmp_total exact_unsigned w.link.frames name None ticket f at) [
  | inl own ↦ absurd (some_is_none f (sym own.1))
  | inr other ↦ came-same w e ticket f other.1
]

-- a frame that came somehow is put
came-put : (w : World) (e : Event) (name : ℕ) (g : InFlight) → WasInFlight w g ⊎ WasSentBy w e g → (ticket : ℕ) (f : InFlight)
    → maps.get (maps.insert w.link.frames name g) ticket ≡ Some f → WasInFlight w f ⊎ WasSentBy w e f
came-put w e name g came ticket f at = elim (get-set_at_cases nat_cmp_total exact_unsigned w.link.frames name (Some g) ticket f at) [
  | inl own ↦ subst (λ (h : InFlight). WasInFlight w h ⊎ WasSentBy w e h) (inner g f own.1) came
  | inr other ↦ came-same w e ticket f other.1
]

frame-came : (w : World) (e : Event) (o : Option InFlight) (done : InFlight → World)
    → ((f : InFlight) → o ≡ Some f → Came w e (done f).link) → Came w e (of_frame w o done).link
frame-came w e None done came = came-same w e
frame-came w e (Some f) done came = came f refl

result-came : (w : World) (e : Event) → Came w e (result w e).link
result-came w (event.At id e) = came-same w (event.At id e)
result-came w (event.Flush id) = came-put w (event.Flush id) w.link.next (sent_frame w id) (inr (begins-itself (sent_frame w id)))
result-came w (event.Of ticket frame.Deliver) =
    frame-came w (event.Of ticket frame.Deliver) (maps.get w.link.frames ticket) _ (λ f at. came-without w (event.Of ticket frame.Deliver) ticket)
result-came w (event.Of ticket frame.Lose) =
    frame-came w (event.Of ticket frame.Lose) (maps.get w.link.frames ticket) _ (λ f at. came-without w (event.Of ticket frame.Lose) ticket)
result-came w (event.Of ticket frame.Repeat) = frame-came w (event.Of ticket frame.Repeat) (maps.get w.link.frames ticket) _
    (λ f at. came-put w (event.Of ticket frame.Repeat) w.link.next f (inl (record { ticket = ticket; whole = f; at = at; begins = begins-itself f })))
result-came w (event.Of ticket (frame.Cut len)) = frame-came w (event.Of ticket (frame.Cut len)) (maps.get w.link.frames ticket) _
    (λ f at. came-put w (event.Of ticket (frame.Cut len)) ticket (cut_to f len)
    (inl (record { ticket = ticket; whole = f; at = at; begins = begins-cut f len })))
result-came w (event.Restart id) = came-same w (event.Restart id)

pub sent-only : EventsSendOnlySo
sent-only w e v accepted = subst (λ (u : World). Came w e u.link) (stepped-world w e v accepted) (result-came w e)

-- ---- runs

-- what begins a frame that an event sent was sent by it too
sent-on : (w : World) (e : Event) (f g : InFlight) → Begins f g → WasSentBy w e g → WasSentBy w e f
sent-on w (event.At id e) f g begins sent = sent
sent-on w (event.Flush id) f g begins sent = begins-then f g (sent_frame w id) begins sent
sent-on w (event.Of ticket frame.Deliver) f g begins sent = sent
sent-on w (event.Of ticket frame.Lose) f g begins sent = sent
sent-on w (event.Of ticket frame.Repeat) f g begins sent = sent
sent-on w (event.Of ticket (frame.Cut len)) f g begins sent = sent
sent-on w (event.Restart id) f g begins sent = sent

-- a frame of a world that an event led to, or a beginning of one
one-back : (w : World) (e : Event) (u : World) (f : InFlight) → world_after (step w e) ≡ Some u → WasInFlight u f → WasInFlight w f ⊎ WasSentBy w e f
one-back w e u f accepted was = elim (sent-only w e u accepted was.ticket was.whole was.at) [
  | inl before ↦ inl (record {
    ticket = before.ticket;
    whole = before.whole;
    at = before.at;
    begins = begins-then f was.whole before.whole was.begins before.begins;
  })
  | inr sent ↦ inr (sent-on w e f was.whole was.begins sent)
]

all-sent : (es : List Event) (w v : World) → run w es ≡ Some v → (f : InFlight) → WasInFlight v f → WasInFlight w f ⊎ WasSentAlong w es f
all-sent [] w v ran f was = inl (subst (λ (u : World). WasInFlight u f) (sym (at-end w v ran)) was)
all-sent (e ∷ es) w v ran f was = on-run (WasInFlight w f ⊎ WasSentAlong w (e ∷ es) f) w v e es ran (λ u accepted rest.
    elim (all-sent es u v rest f was) [
      | inl before ↦ elim (one-back w e u f accepted before) [
        | inl first ↦ inl first
        | inr sent ↦ inr (inl sent)
      ]
      | inr later ↦ inr (inr (subst (λ (o : Option World). IsSomeAnd o (λ x. WasSentAlong x es f)) (sym accepted) later))
    ])

pub were-sent : FramesWereSent
were-sent w es v ran ticket f at = all-sent es w v ran f (record { ticket = ticket; whole = f; at = at; begins = begins-itself f })
