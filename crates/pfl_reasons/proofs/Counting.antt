-- Frames that the events of a run send, counted.
use Rattle.std.specs.Prelude.{◌≡◌, ◌≤◌, ◌<◌, ◌+◌, ◌-◌, ◌==◌, ℕ, suc, Bool, true, false, nat_lt, List, [], ◌∷◌, length, filter, drop, slice_get, take}
use Rattle.std.specs.Prelude.{Option, Some, None, is_some, IsTrue, Result, Ok, Err, if◌then◌else◌, refl}
use Rattle.std.specs.List.{fold}
use Rattle.std.specs.Option.{option_and_then}
use Rattle.std.proofs.Common.{cond, ◌∙◌, ap, sym, subst, arith}
use Rattle.std.proofs.lemmas.Bool.{eq-eqb, eqb-false, eqb-true}
use Rattle.std.proofs.lemmas.Bool.Decides.{nat_tests}
use Rattle.std.proofs.lemmas.List.{drop_all, drop_more}
use Rattle.std.proofs.lemmas.List.Filters.{length-filter_more}
use Rattle.std.proofs.lemmas.Option.{get_or_from_slice_get, slice_get_within}
use Rattle.pfl_base.specs.declared.refusal.Refusal.{Refusal}
use Rattle.pfl_base.specs.Numbers.{greatest}
use Rattle.pfl_language.specs.declared.event.Event.{Event}
use Rattle.pfl_world.specs.Events.{step}
use Rattle.pfl_world.specs.Meanings.{Stepped}
use Rattle.pfl_world.specs.Runs.{run, world_after}
use Rattle.pfl_world.specs.Worlds.{World}
use Rattle.pfl_reasons.specs.Senders.{TicketsAreCounted, TicketsAreNumbers, next_after, nth_sender, senders, sending_place, sends}
use Rattle.pfl_reasons.proofs.Moving.{AreGiven, given, moves, next-is, stay-given}

-- ---- runs

abbrev along : Option World → List Event → Option World
along at es = fold (λ at e. option_and_then (λ v. world_after (step v e)) at) at es

along-none : (es : List Event) → along None es ≡ None
along-none [] = refl
along-none (e ∷ es) = along-none es

-- an event that is accepted, and the events after it
pub run-on : (w : World) (e : Event) (es : List Event) (s : Stepped) → step w e ≡ Ok s → run w (e ∷ es) ≡ run s.world es
unfolding run
run-on w e es s is = ap (λ (r : Result Stepped Refusal). along (world_after r) es) is

-- of a run that is accepted, the first event is
pub record Accepted (w : World) (e : Event) (es : List Event) : Type 0 where
  pub after : Stepped
  pub is : step w e ≡ Ok after
  pub rest : IsTrue (is_some (run after.world es))

pub accepted : (w : World) (e : Event) (es : List Event) → IsTrue (is_some (run w (e ∷ es))) → Accepted w e es
unfolding run
accepted w e es ran = by (step w e) refl
  where
    by : (r : Result Stepped Refusal) → step w e ≡ r → Accepted w e es
    by (Ok s) is = record { after = s; is = is; rest = subst (λ (r : Result Stepped Refusal). IsTrue (is_some (along (world_after r) es))) is ran }
    by (Err why) is =
        let none = subst (λ (r : Result Stepped Refusal). IsTrue (is_some (along (world_after r) es))) is ran in
        absurd (cc (none, along-none es))

-- no event
at-end : (w v : World) → run w [] ≡ Some v → w ≡ v
unfolding run
at-end w v is = cc

-- ---- the next ticket

-- one event more is counted
counts : (b : Bool) (n : ℕ) (e : Event) (es : List Event) → (if b then n + 1 else n) + length es ≡ n + length (cond b (e ∷ es) es)
counts true n e es = omega arith
counts false n e es = refl

pub senders-first : (n : ℕ) (e : Event) (es : List Event) → next_after n e + senders es ≡ n + senders (e ∷ es)
senders-first n e es = counts (sends e) n e (filter sends es)

some-of : {X : Type 0} (o : Option X) (x : X) → o ≡ Some x → IsTrue (is_some o)
some-of o x is = ap is_some is

pub tickets-counted : TicketsAreCounted
tickets-counted w v es ran = by es w ran
  where
    by : (es : List Event) (w : World) → run w es ≡ Some v → v.link.next ≡ w.link.next + senders es
    by [] w ran = let same = ap (λ (x : World). x.link.next) (at-end w v ran) in omega arith
    by (e ∷ es) w ran =
        let first = accepted w e es (some-of (run w (e ∷ es)) v ran) in
        let s = first.after in
        let rest : v.link.next ≡ s.world.link.next + senders es = by es s.world (sym (run-on w e es s first.is) ∙ ran) in
        let next : s.world.link.next ≡ next_after w.link.next e = next-is w.link e s (moves w e s first.is) in
        rest ∙ (ap (λ (n : ℕ). n + senders es) next ∙ senders-first w.link.next e es)

-- at the end of a run the next ticket is a number
pub given-along : (es : List Event) (w v : World) → AreGiven w.link → run w es ≡ Some v → AreGiven v.link
given-along [] w v are ran = subst (λ (x : World). AreGiven x.link) (at-end w v ran) are
given-along (e ∷ es) w v are ran =
    let first = accepted w e es (some-of (run w (e ∷ es)) v ran) in
    let s = first.after in
    given-along es s.world v (stay-given w.link e s (moves w e s first.is) are) (sym (run-on w e es s first.is) ∙ ran)

-- ---- the place of the event that sends the n-th frame

-- it is among the events, and those after it send the other frames
pub record Within (k n p : ℕ) (es : List Event) : Type 0 where
  pub index : ℕ
  pub is : p ≡ k + index
  pub among : index < length es
  pub left : n + 1 + senders (drop (suc index) es) ≡ senders es

abbrev nth : Bool → ℕ → ℕ → List Event → Option ℕ
nth b k n es = if b then (if n == 0 then Some k else nth_sender (k + 1) (n - 1) es) else nth_sender (k + 1) n es

nth-first : (k n : ℕ) (e : Event) (es : List Event) (b : Bool) → sends e ≡ b → nth_sender k n (e ∷ es) ≡ nth b k n es
unfolding nth_sender
nth-first k n e es b is = ap (λ (c : Bool). nth c k n es) is

-- where the first event sends none
pub nth-quiet : (k n : ℕ) (e : Event) (es : List Event) → sends e ≡ false → nth_sender k n (e ∷ es) ≡ nth_sender (k + 1) n es
nth-quiet k n e es is = nth-first k n e es false is

-- where it sends the frame
pub nth-here : (k n : ℕ) (e : Event) (es : List Event) → sends e ≡ true → (n == 0) ≡ true → nth_sender k n (e ∷ es) ≡ Some k
nth-here k n e es is zero = nth-first k n e es true is ∙ ap (λ (b : Bool). if b then Some k else nth_sender (k + 1) (n - 1) es) zero

-- where it sends an earlier one
pub nth-later : (k n : ℕ) (e : Event) (es : List Event) → sends e ≡ true → (n == 0) ≡ false → nth_sender k n (e ∷ es) ≡ nth_sender (k + 1) (n - 1) es
nth-later k n e es is more = nth-first k n e es true is ∙ ap (λ (b : Bool). if b then Some k else nth_sender (k + 1) (n - 1) es) more

pub nth-none : (k n : ℕ) → nth_sender k n [] ≡ None
unfolding nth_sender
nth-none k n = refl

senders-by : (e : Event) (es : List Event) (b : Bool) → sends e ≡ b → senders (e ∷ es) ≡ (if b then 1 else 0) + senders es
senders-by e es b is = ap (λ (c : Bool). length (cond c (e ∷ filter sends es) (filter sends es))) is ∙ by b
  where
    by : (b : Bool) → length (cond b (e ∷ filter sends es) (filter sends es)) ≡ (if b then 1 else 0) + senders es
    by true = omega arith
    by false = omega arith

-- one event further
further : (k n m p : ℕ) (e : Event) (es : List Event) → Within (k + 1) m p es → n + senders es ≡ m + senders (e ∷ es) → Within k n p (e ∷ es)
further k n m p e es at more = record {
  index = suc at.index;
  is = omega (arith, at.is);
  among = omega (arith, at.among);
  left = let rest : m + 1 + senders (drop (suc at.index) es) ≡ senders es = at.left in omega arith;
}

within-here : (k n p : ℕ) (e : Event) (es : List Event) → sends e ≡ true → (n == 0) ≡ true → nth_sender k n (e ∷ es) ≡ Some p → Within k n p (e ∷ es)
within-here k n p e es sender zero is =
    let here = nth-here k n e es sender zero in
    let same : p ≡ k = cc in
    let none : n ≡ 0 = eqb-true n 0 zero in
    let one : senders (e ∷ es) ≡ 1 + senders es = senders-by e es true sender in
    record { index = 0; is = omega arith; among = omega arith; left = omega arith }

within-later : (k n p : ℕ) (e : Event) (es : List Event) → sends e ≡ true → (n == 0) ≡ false → Within (k + 1) (n - 1) p es → Within k n p (e ∷ es)
within-later k n p e es sender more at =
    let some : n ≡ 0 → ⊥ = eqb-false n 0 more in
    let one : senders (e ∷ es) ≡ 1 + senders es = senders-by e es true sender in
    further k n (n - 1) p e es at (omega arith)

within-quiet : (k n p : ℕ) (e : Event) (es : List Event) → sends e ≡ false → Within (k + 1) n p es → Within k n p (e ∷ es)
within-quiet k n p e es quiet at =
    let none : senders (e ∷ es) ≡ 0 + senders es = senders-by e es false quiet in
    further k n n p e es at (omega arith)

pub nth-within : (es : List Event) (k n p : ℕ) → nth_sender k n es ≡ Some p → Within k n p es
nth-within [] k n p is = absurd (cc (nth-none k n))
nth-within (e ∷ es) k n p is = elim (sends e) as (λ b. sends e ≡ b → Within k n p (e ∷ es)) [
  | true ↦ λ sender. elim (n == 0) as (λ b. (n == 0) ≡ b → Within k n p (e ∷ es)) [
    | true ↦ λ zero. within-here k n p e es sender zero is
    | false ↦ λ more. within-later k n p e es sender more (nth-within es (k + 1) (n - 1) p (sym (nth-later k n e es sender more) ∙ is))
  ] refl
  | false ↦ λ quiet. within-quiet k n p e es quiet (nth-within es (k + 1) n p (sym (nth-quiet k n e es quiet) ∙ is))
] refl

-- ---- the same, event after event

-- the event at the index is the first of those from it on
pub left-from : (es : List Event) (i : ℕ) (e : Event) → slice_get es i ≡ Some e → drop i es ≡ e ∷ drop (i + 1) es
left-from es i e is = drop_more es i e (slice_get_within es i e is) ∙ ap (λ (x : Event). x ∷ drop (i + 1) es) (get_or_from_slice_get es i e e is)

-- one event more is counted
counted-more : (es : List Event) (i : ℕ) (e : Event) → slice_get es i ≡ Some e → senders (take (i + 1) es) ≡ senders (take i es) + cond (sends e) 1 0
counted-more es i e is = length-filter_more sends es i e (slice_get_within es i e is)
    ∙ ap (λ (x : Event). senders (take i es) + cond (sends x) 1 0) (get_or_from_slice_get es i e e is)

pub counted-one : (es : List Event) (i : ℕ) (e : Event) → slice_get es i ≡ Some e → sends e ≡ true → senders (take (i + 1) es) ≡ senders (take i es) + 1
counted-one es i e is sender = counted-more es i e is ∙ ap (λ (b : Bool). senders (take i es) + cond b 1 0) sender

pub counted-none : (es : List Event) (i : ℕ) (e : Event) → slice_get es i ≡ Some e → sends e ≡ false → senders (take (i + 1) es) ≡ senders (take i es)
counted-none es i e is quiet =
    let more : senders (take (i + 1) es) ≡ senders (take i es) + 0 = counted-more es i e is ∙ ap (λ (b : Bool). senders (take i es) + cond b 1 0) quiet in
    omega arith

more : (n : ℕ) → (n ≡ 0 → ⊥) → (n == 0) ≡ false
more n some = grind (arith, nat_tests)

pub place-here : (k n i : ℕ) (es : List Event) (e : Event) → slice_get es i ≡ Some e → sends e ≡ true → n ≡ 0 → nth_sender k n (drop i es) ≡ Some k
place-here k n i es e is sender zero = ap (nth_sender k n) (left-from es i e is) ∙ nth-here k n e (drop (i + 1) es) sender (eq-eqb n 0 zero)

pub place-later : (k n i m : ℕ) (es : List Event) (e : Event) → slice_get es i ≡ Some e → sends e ≡ true → (n ≡ 0 → ⊥) → m ≡ n - 1
    → nth_sender k n (drop i es) ≡ nth_sender (k + 1) m (drop (i + 1) es)
place-later k n i m es e is sender some less =
    ap (nth_sender k n) (left-from es i e is) ∙ nth-later k n e (drop (i + 1) es) sender (more n some)
    ∙ ap (λ (x : ℕ). nth_sender (k + 1) x (drop (i + 1) es)) (sym less)

pub place-quiet : (k n i m : ℕ) (es : List Event) (e : Event) → slice_get es i ≡ Some e → sends e ≡ false → m ≡ n
    → nth_sender k n (drop i es) ≡ nth_sender (k + 1) m (drop (i + 1) es)
place-quiet k n i m es e is quiet same =
    ap (nth_sender k n) (left-from es i e is) ∙ nth-quiet k n e (drop (i + 1) es) quiet ∙ ap (λ (x : ℕ). nth_sender (k + 1) x (drop (i + 1) es)) (sym same)

pub place-none : (k n i : ℕ) (es : List Event) → length es ≤ i → nth_sender k n (drop i es) ≡ None
place-none k n i es all = ap (nth_sender k n) (drop_all i es all) ∙ nth-none k n

-- ---- the place of the event that sends the frame of a ticket

-- a ticket that was given before
pub place-old : (first ticket : ℕ) (es : List Event) → nat_lt ticket first ≡ true → sending_place first ticket es ≡ None
place-old first ticket es is = ap (λ (b : Bool). if b then None else nth_sender 1 (ticket - first) es) is

-- another one
pub place-new : (first ticket : ℕ) (es : List Event) → nat_lt ticket first ≡ false → sending_place first ticket es ≡ nth_sender 1 (ticket - first) es
place-new first ticket es is = ap (λ (b : Bool). if b then None else nth_sender 1 (ticket - first) es) is

pub tickets-numbers : TicketsAreNumbers
tickets-numbers opening es ticket k is ran place = by (nat_lt ticket opening.link.next) refl (run opening es) refl
  where
    by : (b : Bool) → nat_lt ticket opening.link.next ≡ b → (o : Option World) → run opening es ≡ o → ticket + 1 + senders (drop k es) ≤ greatest
    by true old o to = absurd (cc (place, place-old opening.link.next ticket es old))
    by false new None to = absurd (cc (ran, to))
    by false new (Some v) to =
        let at = nth-within es 1 (ticket - opening.link.next) k (sym (place-new opening.link.next ticket es new) ∙ place) in
        let from : opening.link.next ≤ ticket = grind (arith, nat_tests) in
        let counted : v.link.next ≡ opening.link.next + senders es = tickets-counted opening v es to in
        let most : v.link.next ≤ greatest = (given-along es opening v (given opening.link is.link) to).countable in
        let left : ticket - opening.link.next + 1 + senders (drop (suc at.index) es) ≡ senders es = at.left in
        let where_is : k ≡ suc at.index = omega (arith, at.is) in
        let same = ap (λ (i : ℕ). senders (drop i es)) where_is in
        omega arith
