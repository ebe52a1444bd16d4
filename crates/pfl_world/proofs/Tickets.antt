-- What becomes of a frame on its way, in words of what the link returns.
use Rattle.std.specs.Prelude.{◌≡◌, ℕ, Bool, true, false, cond, [], ◌∷◌, length, Option, Some, None, is_some, Result, Ok, Err, refl}
use Rattle.std.specs.Option.{option_map_or}
use Rattle.std.proofs.Common.{◌∙◌, ap, sym, subst}
use Rattle.pfl_base.specs.declared.refusal.Refusal.{Refusal}
use Rattle.pfl_base.specs.declared.refusal.Refusal.TheVariants as refusal
use Rattle.pfl_edits.specs.Maps as maps
use Rattle.pfl_language.specs.declared.outcome.Outcome.TheVariants as outcome
use Rattle.pfl_link.specs.declared.fault.LinkFault.{LinkFault}
use Rattle.pfl_link.specs.declared.fault.LinkFault.TheVariants.{NoSuchFrame, LinkFull, CountFull}
use Rattle.pfl_link.specs.Faults.{room_fault, missing_fault, copy_fault, or_no_memory, refusal_of}
use Rattle.pfl_link.specs.Links.{InFlight, is_full, is_counted_out, sent, with_frame, cut_to}
use Rattle.pfl_node.specs.desk.Nodes.{refused_by, unless_refused}
use Rattle.pfl_world.specs.Events.{IsRefusalOf}
use Rattle.pfl_world.specs.Meanings.{Stepped}
use Rattle.pfl_world.specs.Tickets.{without_ticket, with_ticket, lose_step, repeat_step, cut_step}
use Rattle.pfl_world.specs.Worlds.{World, with_link}

-- ---- the frame is there

-- what is done with it
found : (w : World) (ticket : ℕ) (f : InFlight) (done : InFlight → Result Stepped Refusal) → maps.get w.link.frames ticket ≡ Some f
    → with_ticket w ticket done ≡ done f
found w ticket f done at = ap (λ (o : Option InFlight). option_map_or done o (Err refusal.NoSuchFrame)) at

abbrev lost_to : World → ℕ → Stepped
lost_to w ticket = record { world = without_ticket w ticket; outcome = outcome.Lost }

pub lose_step-found : (w : World) (ticket : ℕ) (f : InFlight) → maps.get w.link.frames ticket ≡ Some f → lose_step w ticket ≡ Ok (lost_to w ticket)
unfolding lose_step
lose_step-found w ticket f at = found w ticket f (λ f. Ok (lost_to w ticket)) at

abbrev repeated_to : World → InFlight → Stepped
repeated_to w f = record { world = with_link w (sent w.link f); outcome = outcome.Sent w.link.next (length f.bytes) }

-- the tests of a repeat
abbrev room_refusal : Bool → Bool → Option Refusal
room_refusal full counted = refused_by ((full, refusal.LinkFull) ∷ (counted, refusal.CountFull) ∷ [])

abbrev room : Bool → Bool → Option LinkFault
room full counted = cond full (Some LinkFull) (cond counted (Some CountFull) None)

there_is_room : (full counted : Bool) → room full counted ≡ None → room_refusal full counted ≡ None
there_is_room true counted none = absurd (cc)
there_is_room false true none = absurd (cc)
there_is_room false false none = refl

pub repeat_step-found : (w : World) (ticket : ℕ) (f : InFlight) → maps.get w.link.frames ticket ≡ Some f → room_fault w.link ≡ None
    → repeat_step w ticket ≡ Ok (repeated_to w f)
unfolding repeat_step
repeat_step-found w ticket f at none =
    found w ticket f (λ f. unless_refused (room_refusal (is_full w.link) (is_counted_out w.link)) (repeated_to w f)) at
    ∙ ap (λ (o : Option Refusal). unless_refused o (repeated_to w f)) (there_is_room (is_full w.link) (is_counted_out w.link) none)

abbrev cut_step_to : World → ℕ → ℕ → InFlight → Stepped
cut_step_to w ticket len f = record { world = with_link w (with_frame w.link ticket (cut_to f len)); outcome = outcome.CutTo (length (cut_to f len).bytes) }

pub cut_step-found : (w : World) (ticket len : ℕ) (f : InFlight) → maps.get w.link.frames ticket ≡ Some f
    → cut_step w ticket len ≡ Ok (cut_step_to w ticket len f)
unfolding cut_step
cut_step-found w ticket len f at = found w ticket f (λ f. Ok (cut_step_to w ticket len f)) at

-- ---- the link refuses

missing : (o : Option InFlight) (done : InFlight → Stepped) (fault : LinkFault) → cond (is_some o) None (Some NoSuchFrame) ≡ Some fault
    → IsRefusalOf (option_map_or (λ f. Ok (done f)) o (Err refusal.NoSuchFrame)) (refusal_of fault)
missing None done fault e = let same : fault ≡ NoSuchFrame = cc in ap refusal_of same
missing (Some f) done fault e = absurd (cc)

pub lose_refused : (w : World) (ticket : ℕ) (fault : LinkFault) → missing_fault w.link ticket ≡ Some fault → IsRefusalOf (lose_step w ticket) (refusal_of fault)
unfolding lose_step
lose_refused w ticket fault e = missing (maps.get w.link.frames ticket) (λ f. lost_to w ticket) fault e

missing_or_memory : (o : Option InFlight) (done : InFlight → Stepped) (fault : LinkFault)
    → fault ≡ or_no_memory (cond (is_some o) None (Some NoSuchFrame))
    → IsRefusalOf (option_map_or (λ f. Ok (done f)) o (Err refusal.NoSuchFrame)) (refusal_of fault)
missing_or_memory None done fault e = ap refusal_of e
missing_or_memory (Some f) done fault e = ap refusal_of e

pub cut_refused : (w : World) (ticket len : ℕ) (fault : LinkFault) → fault ≡ or_no_memory (missing_fault w.link ticket)
    → IsRefusalOf (cut_step w ticket len) (refusal_of fault)
unfolding cut_step
cut_refused w ticket len fault e = missing_or_memory (maps.get w.link.frames ticket) (cut_step_to w ticket len) fault e

no_copy : (o : Option InFlight) (full counted : Bool) (done : InFlight → Stepped) (fault : LinkFault)
    → fault ≡ or_no_memory (cond (is_some o) (room full counted) (Some NoSuchFrame))
    → IsRefusalOf (option_map_or (λ f. unless_refused (room_refusal full counted) (done f)) o (Err refusal.NoSuchFrame)) (refusal_of fault)
no_copy None full counted done fault e = ap refusal_of e
no_copy (Some f) true counted done fault e = ap refusal_of e
no_copy (Some f) false true done fault e = ap refusal_of e
no_copy (Some f) false false done fault e = ap refusal_of e

pub repeat_refused : (w : World) (ticket : ℕ) (fault : LinkFault) → fault ≡ or_no_memory (copy_fault w.link ticket)
    → IsRefusalOf (repeat_step w ticket) (refusal_of fault)
unfolding repeat_step
repeat_refused w ticket fault e = no_copy (maps.get w.link.frames ticket) (is_full w.link) (is_counted_out w.link) (repeated_to w) fault e

-- ---- there is no memory to record it

pub wanted_memory : (at : Result Stepped Refusal) (s : Stepped) (r : Refusal) → at ≡ Ok s → r ≡ refusal.NoMemory → IsRefusalOf at r
wanted_memory at s r is wants = subst (λ (v : Result Stepped Refusal). IsRefusalOf v r) (sym is) wants
