-- A frame on its way, event after event.
use Rattle.std.specs.Prelude.{◌≡◌, ◌≤◌, ◌+◌, ◌++◌, ℕ, List, ◌∷◌, length, drop, slice_get, Option, Some, None, refl}
use Rattle.std.specs.List.{cons_option}
use Rattle.std.specs.Option.{option_to_list}
use Rattle.std.proofs.Common.{append_assoc, append-nil, ◌∙◌, ap, sym, arith}
use Rattle.std.proofs.lemmas.List.{drop_all}
use Rattle.pfl_base.specs.Numbers.{greatest}
use Rattle.pfl_language.specs.declared.event.Event.{Event}
use Rattle.pfl_link.specs.Links.{InFlight, cut_to}
use Rattle.pfl_reasons.specs.declared.frame_step.FrameStep.{FrameStep}
use Rattle.pfl_reasons.specs.Senders.{left_after, next_after, senders, step_of, steps_of}
use Rattle.pfl_reasons.proofs.Counting.{left-from, senders-first}
use Rattle.pfl_reasons.proofs.Tracing.{no-steps-left, steps-first}

-- After the first i events, of which those after the first `place` may befall the frame, it has its first `len` bytes, and the steps
-- that are listed are those of these events.
pub record IsPassing (ticket place : ℕ) (f : InFlight) (events : List Event) (i : ℕ) (steps : List FrameStep) (t len next : ℕ) : Type 0 where
  pub listed : steps ++ steps_of ticket next (i + 1) (cut_to f len) (drop i events) ≡ steps_of ticket (ticket + 1) (place + 1) f (drop place events)
  pub same : t ≡ ticket
  pub within : len ≤ length f.bytes
  pub countable : next + senders (drop i events) ≤ greatest

listed-first : (o : Option FrameStep) (rest : List FrameStep) → cons_option o rest ≡ option_to_list o ++ rest
listed-first None rest = refl
listed-first (Some step) rest = refl

-- one event more
pub passing-next : (ticket place : ℕ) (f : InFlight) (events : List Event) (i : ℕ) (steps : List FrameStep) (t len next : ℕ)
    → IsPassing ticket place f events i steps t len next
    → (e : Event) → slice_get events i ≡ Some e → (more : List FrameStep) (u less after : ℕ)
    → more ≡ steps ++ option_to_list (step_of t next (i + 1) (cut_to f len) e) → u ≡ t → less ≤ len
    → cut_to f less ≡ left_after t (cut_to f len) e → after ≡ next_after next e
    → IsPassing ticket place f events (i + 1) more u less after
passing-next ticket place f events i steps t len next so e here more u less after pushed same fewer left on =
    let step = step_of ticket next (i + 1) (cut_to f len) e in
    let rest = steps_of ticket after (i + 1 + 1) (cut_to f less) (drop (i + 1) events) in
    let cut : drop i events ≡ e ∷ drop (i + 1) events = left-from events i e here in
    let left-then : cut_to f less ≡ left_after ticket (cut_to f len) e = left ∙ ap (λ (n : ℕ). left_after n (cut_to f len) e) so.same in
    let rest-is : rest ≡ steps_of ticket (next_after next e) (i + 1 + 1) (left_after ticket (cut_to f len) e) (drop (i + 1) events) =
    λ j. steps_of ticket (on j) (i + 1 + 1) (left-then j) (drop (i + 1) events) in
    let pushed-then : more ≡ steps ++ option_to_list step =
    pushed ∙ ap (λ (n : ℕ). steps ++ option_to_list (step_of n next (i + 1) (cut_to f len) e)) so.same in
    let first = steps-first ticket next (i + 1) (cut_to f len) e (drop (i + 1) events) in
    record {
      listed =
          (λ j. pushed-then j ++ rest)
          ∙ append_assoc steps (option_to_list step) rest
          ∙ ap (λ (xs : List FrameStep). steps ++ xs) (sym (listed-first step rest) ∙ ap (cons_option step) rest-is ∙ sym first
          ∙ ap (steps_of ticket next (i + 1) (cut_to f len)) (sym cut))
          ∙ so.listed;
      same = same ∙ so.same;
      within = omega (arith, so.within);
      countable =
          let counted : next_after next e + senders (drop (i + 1) events) ≡ next + senders (drop i events) =
          senders-first next e (drop (i + 1) events) ∙ ap (λ (es : List Event). next + senders es) (sym cut) in
          omega (arith, so.countable);
    }

-- the next ticket after the event is a number
pub passing-number : (ticket place : ℕ) (f : InFlight) (events : List Event) (i : ℕ) (steps : List FrameStep) (t len next : ℕ)
    → IsPassing ticket place f events i steps t len next
    → (e : Event) → slice_get events i ≡ Some e → next_after next e ≤ greatest
passing-number ticket place f events i steps t len next so e here =
    let cut : drop i events ≡ e ∷ drop (i + 1) events = left-from events i e here in
    let counted : next_after next e + senders (drop (i + 1) events) ≡ next + senders (drop i events) =
    senders-first next e (drop (i + 1) events) ∙ ap (λ (es : List Event). next + senders es) (sym cut) in
    omega (arith, so.countable)

-- after all of them
pub passing-all : (ticket place : ℕ) (f : InFlight) (events : List Event) (i : ℕ) (steps : List FrameStep) (t len next : ℕ)
    → IsPassing ticket place f events i steps t len next
    → length events ≤ i → steps ≡ steps_of ticket (ticket + 1) (place + 1) f (drop place events)
passing-all ticket place f events i steps t len next so all =
    let none = ap (steps_of ticket next (i + 1) (cut_to f len)) (drop_all i events all) ∙ no-steps-left ticket next (i + 1) (cut_to f len) in
    sym (append-nil steps) ∙ ap (λ (xs : List FrameStep). steps ++ xs) (sym none) ∙ so.listed
