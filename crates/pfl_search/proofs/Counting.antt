-- Tickets stay below the next one, whatever happens.
use Rattle.std.specs.Prelude.{◌≡◌, ◌≢◌, ℕ, Bool, true, false, [], ◌∷◌, length, Option, Some, None, Result, Ok, Err, refl}
use Rattle.std.specs.Option.{option_map_or}
use Rattle.std.proofs.Common.{◌∙◌, ap, sym, subst, arith}
use Rattle.pfl_base.specs.declared.refusal.Refusal.{Refusal}
use Rattle.pfl_base.specs.declared.refusal.Refusal.TheVariants.{CountFull, LinkFull, NoSuchFrame}
use Rattle.pfl_edits.specs.Maps as maps
use Rattle.pfl_language.specs.declared.event.Event.{Event}
use Rattle.pfl_language.specs.declared.event.Event.TheVariants.{At, Flush, Of, Restart}
use Rattle.pfl_language.specs.declared.event.FrameEvent.TheVariants as frame
use Rattle.pfl_language.specs.declared.outcome.Outcome.TheVariants.{CutTo, Sent}
use Rattle.pfl_link.specs.Links.{InFlight, Link, IsLink, cut_to, is_counted_out, is_full, sent, with_frame}
use Rattle.pfl_world.specs.Events.{step}
use Rattle.pfl_world.specs.Meanings.{Stepped}
use Rattle.pfl_world.specs.Tickets.{cut_step, repeat_step, step_unless}
use Rattle.pfl_world.specs.Worlds.{World, with_link}
use Rattle.pfl_search.proofs.Commuting.{acted, link_part, made}
use Rattle.pfl_search.proofs.Flying.{IsCounted, Sends, below-set_at, link_counted}
use Rattle.pfl_search.specs.Orders.{kind_of}
use Rattle.pfl_search.specs.declared.order.EventKind.TheVariants as kind

-- those of a link are
pub link_is_counted : (l : Link) → IsLink l → IsCounted l
link_is_counted l is = record { below = is.below; countable = is.countable }

-- ---- a copy

abbrev copied : World → InFlight → Bool → Bool → Result Stepped Refusal
copied w f full counted = step_unless ((full, LinkFull) ∷ (counted, CountFull) ∷ []) (with_link w (sent w.link f)) (Sent w.link.next (length f.bytes))

abbrev copy : World → Option InFlight → Result Stepped Refusal
copy w o = option_map_or (λ f. copied w f (is_full w.link) (is_counted_out w.link)) o (Err NoSuchFrame)

repeat_on : (w : World) (ticket : ℕ) (o : Option InFlight) → maps.get w.link.frames ticket ≡ o → step w (Of ticket frame.Repeat) ≡ copy w o
unfolding step repeat_step
repeat_on w ticket o at = ap (copy w) at

copy_counted : (w : World) (f : InFlight) (s : Stepped) (full counted : Bool) → is_full w.link ≡ full → is_counted_out w.link ≡ counted → IsCounted w.link
    → copied w f full counted ≡ Ok s → IsCounted s.world.link
copy_counted w f s true counted is_full' is_counted' is h = absurd cc
copy_counted w f s false true is_full' is_counted' is h = absurd cc
copy_counted w f s false false room number is h =
    let same : record { world = with_link w (sent w.link f); outcome = Sent w.link.next (length f.bytes) } ≡ s = cc in
    subst (λ (t : Stepped). IsCounted t.world.link) same (link_counted (Sends f) w.link (record { not_full = room; countable = number }) is)

repeat_counted : (w : World) (ticket : ℕ) (s : Stepped) (o : Option InFlight) → maps.get w.link.frames ticket ≡ o → IsCounted w.link
    → step w (Of ticket frame.Repeat) ≡ Ok s → IsCounted s.world.link
repeat_counted w ticket s None at is h = let no = repeat_on w ticket None at in absurd cc
repeat_counted w ticket s (Some f) at is h =
    copy_counted w f s (is_full w.link) (is_counted_out w.link) refl refl is (sym (repeat_on w ticket (Some f) at) ∙ h)

-- ---- a cut

abbrev cut_gives : World → ℕ → ℕ → InFlight → Stepped
cut_gives w ticket len f = record { world = with_link w (with_frame w.link ticket (cut_to f len)); outcome = CutTo (length (cut_to f len).bytes) }

abbrev cut : World → ℕ → ℕ → Option InFlight → Result Stepped Refusal
cut w ticket len o = option_map_or (λ f. Ok (cut_gives w ticket len f)) o (Err NoSuchFrame)

cut_on : (w : World) (ticket len : ℕ) (o : Option InFlight) → maps.get w.link.frames ticket ≡ o → step w (Of ticket (frame.Cut len)) ≡ cut w ticket len o
unfolding step cut_step
cut_on w ticket len o at = ap (cut w ticket len) at

cut_counted : (w : World) (ticket len : ℕ) (s : Stepped) (o : Option InFlight) → maps.get w.link.frames ticket ≡ o → IsCounted w.link
    → step w (Of ticket (frame.Cut len)) ≡ Ok s
    → IsCounted s.world.link
cut_counted w ticket len s None at is h = let no = cut_on w ticket len None at in absurd cc
cut_counted w ticket len s (Some f) at is h =
    let becomes : step w (Of ticket (frame.Cut len)) ≡ Ok (cut_gives w ticket len f) = cut_on w ticket len (Some f) at in
    let same : cut_gives w ticket len f ≡ s = cc in
    subst (λ (t : Stepped). IsCounted t.world.link) same
    (record { below = below-set_at w.link ticket (Some (cut_to f len)) w.link.next is (is.below ticket f at) (omega arith); countable = is.countable })

-- ---- any event

effect_counted : (w : World) (e : Event) (s : Stepped) → IsCounted w.link → step w e ≡ Ok s → kind_of e ≢ kind.Fixed → IsCounted s.world.link
effect_counted w e s is h free =
    let x = acted w e s h free in
    subst (λ (v : World). IsCounted v.link) (sym (made w e s x.effect x.acts h)) (link_counted (link_part x.effect) w.link x.acts.fits.link is)

-- after an event that is accepted they are yet
pub counted_after : (w : World) (e : Event) (s : Stepped) → IsCounted w.link → step w e ≡ Ok s → IsCounted s.world.link
counted_after w (At id e) s is h = effect_counted w (At id e) s is h (λ same. absurd cc)
counted_after w (Flush id) s is h = effect_counted w (Flush id) s is h (λ same. absurd cc)
counted_after w (Of ticket frame.Deliver) s is h = effect_counted w (Of ticket frame.Deliver) s is h (λ same. absurd cc)
counted_after w (Of ticket frame.Lose) s is h = effect_counted w (Of ticket frame.Lose) s is h (λ same. absurd cc)
counted_after w (Of ticket frame.Repeat) s is h = repeat_counted w ticket s (maps.get w.link.frames ticket) refl is h
counted_after w (Of ticket (frame.Cut len)) s is h = cut_counted w ticket len s (maps.get w.link.frames ticket) refl is h
counted_after w (Restart id) s is h = effect_counted w (Restart id) s is h (λ same. absurd cc)
