-- What became of a frame that an event of a run sent, by counting.
use Rattle.std.specs.Prelude.{◌≡◌, ◌≤◌, ◌<◌, ◌+◌, ◌-◌, ◌==◌, ◌⊎◌, ℕ, suc, Bool, true, false, nat_lt, List, [], ◌∷◌, length, filter, find, map, take}
use Rattle.std.specs.Prelude.{drop, slice_get, Option, Some, None, is_some, IsTrue, Result, Ok, refl}
use Rattle.std.specs.List.{cons_option}
use Rattle.std.specs.Option.{option_and_then, option_map}
use Rattle.std.proofs.Common.{cond, ◌∙◌, ap, sym, subst, inl, inr, arith}
use Rattle.std.proofs.lemmas.Bool.{eq-eqb, eqb-false, eqb-true}
use Rattle.std.proofs.lemmas.Bool.Decides.{nat_tests}
use Rattle.pfl_base.specs.declared.refusal.Refusal.{Refusal}
use Rattle.pfl_edits.specs.Maps as maps
use Rattle.pfl_language.specs.declared.event.Event.{Event}
use Rattle.pfl_language.specs.declared.event.Event.TheVariants as event
use Rattle.pfl_language.specs.declared.event.FrameEvent.{FrameEvent}
use Rattle.pfl_language.specs.declared.outcome.Outcome.{Outcome}
use Rattle.pfl_language.specs.declared.outcome.Outcome.TheVariants.{Sent}
use Rattle.pfl_link.specs.Links.{InFlight}
use Rattle.pfl_world.specs.Events.{step}
use Rattle.pfl_world.specs.Meanings.{Stepped}
use Rattle.pfl_world.specs.Runs.{run}
use Rattle.pfl_world.specs.Worlds.{World}
use Rattle.pfl_reasons.specs.declared.frame_step.FrameStep.{FrameStep}
use Rattle.pfl_reasons.specs.Frames.{Done, Trace, befalls, done, done_with, is_sent, traced}
use Rattle.pfl_reasons.specs.Senders.{TracesAreCounted, TracesAreThere, befallen, counted_trace, left_after, left_of, next_after, nth_sender}
use Rattle.pfl_reasons.specs.Senders.{sending_place, sends, step_of, steps_of}
use Rattle.pfl_reasons.proofs.Counting.{accepted, nth-here, nth-later, nth-none, nth-quiet, place-new, place-old, run-on}
use Rattle.pfl_reasons.proofs.Moving.{AreGiven, IsSender, Moves, given, left-after, left-alone, moves, next-is, not_yet, stay-given, turns}

-- an event that happened, at the place k
abbrev step_at : ℕ → Event → Stepped → FrameStep
step_at k e s = record { place = k; event = e; outcome = s.outcome }

abbrev done_at : ℕ → Event → Stepped → Done
done_at k e s = record { step = step_at k e s; after = s.world }

done-first : (k : ℕ) (w : World) (e : Event) (es : List Event) (s : Stepped) → step w e ≡ Ok s → done k w (e ∷ es) ≡ done_at k e s ∷ done (k + 1) s.world es
unfolding done
done-first k w e es s is = ap (λ (r : Result Stepped Refusal). done_with k e (λ v. done (k + 1) v es) r) is

-- ---- what befell a frame that was sent

abbrev befell : ℕ → List Done → List FrameStep
befell ticket all = filter (λ s. befalls ticket s.event) (map (λ (o : Done). o.step) all)

-- what is in flight under the ticket, if anything is, is this frame
abbrev IsHeld : World → ℕ → InFlight → Type 0
IsHeld w ticket f = (g : InFlight) → maps.get w.link.frames ticket ≡ Some g → g ≡ f

befell-first : (ticket k : ℕ) (w : World) (e : Event) (es : List Event) (s : Stepped) (b : Bool) → step w e ≡ Ok s → befalls ticket e ≡ b
    → befell ticket (done k w (e ∷ es)) ≡ cond b (step_at k e s ∷ befell ticket (done (k + 1) s.world es)) (befell ticket (done (k + 1) s.world es))
befell-first ticket k w e es s b is of =
    ap (befell ticket) (done-first k w e es s is)
    ∙ ap (λ (c : Bool). cond c (step_at k e s ∷ befell ticket (done (k + 1) s.world es)) (befell ticket (done (k + 1) s.world es))) of

pub no-steps-left : (ticket next k : ℕ) (f : InFlight) → steps_of ticket next k f [] ≡ []
unfolding steps_of
no-steps-left ticket next k f = refl

pub steps-first : (ticket next k : ℕ) (f : InFlight) (e : Event) (es : List Event)
    → steps_of ticket next k f (e ∷ es) ≡ cons_option (step_of ticket next k f e) (steps_of ticket (next_after next e) (k + 1) (left_after ticket f e) es)
unfolding steps_of
steps-first ticket next k f e es = refl

-- an event that befalls no frame, or another one
past-it : (ticket next k : ℕ) (f : InFlight) (e : Event) → befalls ticket e ≡ false → (step_of ticket next k f e ≡ None) × (left_after ticket f e ≡ f)
past-it ticket next k f (event.At id e) past = (refl, refl)
past-it ticket next k f (event.Flush id) past = (refl, refl)
past-it ticket next k f (event.Restart id) past = (refl, refl)
past-it ticket next k f (event.Of of e) past = (
  ap (λ (b : Bool). cond b (Some (record { place = k; event = event.Of of e; outcome = befallen next f e })) None) past,
  ap
      (λ (b : Bool). cond b (left_of f e) f) past,
)

steps-past : (ticket next k : ℕ) (f : InFlight) (e : Event) (es : List Event) → befalls ticket e ≡ false
    → steps_of ticket next k f (e ∷ es) ≡ steps_of ticket (next_after next e) (k + 1) f es
steps-past ticket next k f e es past =
    let it = past-it ticket next k f e past in
    steps-first ticket next k f e es ∙ (λ i. cons_option (it.0 i) (steps_of ticket (next_after next e) (k + 1) (it.1 i) es))

-- one that befalls the frame
steps-here : (ticket next k : ℕ) (f : InFlight) (e : FrameEvent) (es : List Event) (o : Outcome) → o ≡ befallen next f e
    → steps_of ticket next k f (event.Of ticket e ∷ es) ≡ record { place = k; event = event.Of ticket e; outcome = o }
    ∷ steps_of ticket (next_after next (event.Of ticket e)) (k + 1) (left_of f e) es
steps-here ticket next k f e es o gives =
    let own : (ticket == ticket) ≡ true = eq-eqb ticket ticket refl in
    steps-first ticket next k f (event.Of ticket e) es
    ∙ (λ i. cons_option (cond (own i) (Some (record { place = k; event = event.Of ticket e; outcome = sym gives i })) None)
    (steps_of ticket (next_after next (event.Of ticket e)) (k + 1) (cond (own i) (left_of f e) f) es))

-- an event befalls the frame of the ticket, or does not
either : (ticket : ℕ) (e : Event) → (befalls ticket e ≡ false) ⊎ ((what : FrameEvent) × (e ≡ event.Of ticket what))
either ticket (event.At id e) = inl refl
either ticket (event.Flush id) = inl refl
either ticket (event.Restart id) = inl refl
either ticket (event.Of of what) = by (of == ticket) refl
  where
    by : (b : Bool) → (of == ticket) ≡ b → ((of == ticket) ≡ false) ⊎ ((e : FrameEvent) × (event.Of of what ≡ event.Of ticket e))
    by true is = inr (what, ap (λ (t : ℕ). event.Of t what) (eqb-true of ticket is))
    by false is = inl is

goes-on : (n : ℕ) (e : Event) → n ≤ next_after n e
goes-on n e = by (sends e)
  where
    by : (b : Bool) → n ≤ cond b (n + 1) n
    by true = omega arith
    by false = omega arith

pub later : (w : World) (e : Event) (s : Stepped) (ticket : ℕ) → Moves w.link e s → ticket < w.link.next → ticket < s.world.link.next
later w e s ticket m old = omega (arith, next-is w.link e s m, goes-on w.link.next e)

-- the event befalls the frame
befell-here : (ticket k : ℕ) (w : World) (what : FrameEvent) (es : List Event) (s : Stepped) (f : InFlight) → step w (event.Of ticket what) ≡ Ok s
    → s.outcome ≡ befallen w.link.next f what
    → befell ticket (done (k + 1) s.world es) ≡ steps_of ticket (next_after w.link.next (event.Of ticket what)) (k + 1) (left_of f what) es
    → befell ticket (done k w (event.Of ticket what ∷ es)) ≡ steps_of ticket w.link.next k f (event.Of ticket what ∷ es)
befell-here ticket k w what es s f is gives rest =
    let own : (ticket == ticket) ≡ true = eq-eqb ticket ticket refl in
    befell-first ticket k w (event.Of ticket what) es s true is own
    ∙ ap (λ (steps : List FrameStep). step_at k (event.Of ticket what) s ∷ steps) rest
    ∙ sym (steps-here ticket w.link.next k f what es s.outcome gives)

no-steps : (ticket next k : ℕ) (w : World) (f : InFlight) → befell ticket (done k w []) ≡ steps_of ticket next k f []
unfolding done steps_of
no-steps ticket next k w f = refl

befell-is : (ticket : ℕ) (es : List Event) (k : ℕ) (w : World) (f : InFlight) → AreGiven w.link → ticket < w.link.next → IsHeld w ticket f
    → IsTrue (is_some (run w es))
    → befell ticket (done k w es) ≡ steps_of ticket w.link.next k f es
befell-is ticket [] k w f are old held ran = no-steps ticket w.link.next k w f
befell-is ticket (e ∷ es) k w f are old held ran =
    let first = accepted w e es ran in
    let s = first.after in
    let m = moves w e s first.is in
    let next = next-is w.link e s m in
    let on = stay-given w.link e s m are in
    let younger = later w e s ticket m old in
    elim (either ticket e) [
      | inl past ↦
          befell-first ticket k w e es s false first.is past
          ∙ befell-is ticket es (k + 1) s.world f on younger (λ g is. held g (sym (left-alone w.link e s ticket m old past) ∙ is)) first.rest
          ∙ ap (λ (n : ℕ). steps_of ticket n (k + 1) f es) next
          ∙ sym (steps-past ticket w.link.next k f e es past)
      | inr of ↦
          let what = of.0 in
          let b = subst (λ (x : Event). Moves w.link x s) of.1 m in
          let same : b.frame ≡ f = held b.frame b.at in
          let rest =
          befell-is ticket es (k + 1) s.world (left_of f what) on younger (λ g is. left-after w.link ticket what s b are g is
          ∙ ap (λ (h : InFlight). left_of h what) same) first.rest
          ∙ ap (λ (n : ℕ). steps_of ticket n (k + 1) (left_of f what) es) (next ∙ ap (next_after w.link.next) of.1) in
          subst (λ (x : Event). befell ticket (done k w (x ∷ es)) ≡ steps_of ticket w.link.next k f (x ∷ es)) (sym of.1)
          (befell-here ticket k w what es s f (ap (step w) (sym of.1) ∙ first.is) (b.outcome ∙ ap (λ (h : InFlight). befallen w.link.next h what) same) rest)
    ]

-- ---- the event that sent it

abbrev sending : ℕ → List Done → Option Done
sending ticket all = find (λ (d : Done). is_sent ticket d.step.outcome) all

abbrev trace_by : ℕ → List FrameStep → Done → Option Trace
trace_by ticket steps d = option_map (λ f. record { first = d.step; frame = f; later = steps }) (maps.get d.after.link.frames ticket)

abbrev traced_in : ℕ → List Done → Option Trace
traced_in ticket all = option_and_then (trace_by ticket (befell ticket all)) (sending ticket all)

traced-is : (opening : World) (es : List Event) (ticket : ℕ) → traced opening es ticket ≡ traced_in ticket (done 1 opening es)
unfolding traced
traced-is opening es ticket = refl

-- an event that has nothing to do with it
traced-past : (ticket : ℕ) (d : Done) (all : List Done) → is_sent ticket d.step.outcome ≡ false → befalls ticket d.step.event ≡ false
    → traced_in ticket (d ∷ all) ≡ traced_in ticket all
traced-past ticket d all unsent past =
    ap (λ (b : Bool). option_and_then (trace_by ticket (cond b (d.step ∷ befell ticket all) (befell ticket all))) (sending ticket (d ∷ all))) past
    ∙ ap (λ (b : Bool). option_and_then (trace_by ticket (befell ticket all)) (cond b (Some d) (sending ticket all))) unsent

-- the one that sends it
traced-here : (ticket : ℕ) (d : Done) (all : List Done) (f : InFlight) → is_sent ticket d.step.outcome ≡ true
    → befalls ticket d.step.event ≡ false → maps.get d.after.link.frames ticket ≡ Some f
    → traced_in ticket (d ∷ all) ≡ Some (record { first = d.step; frame = f; later = befell ticket all })
traced-here ticket d all f one past at =
    ap (λ (b : Bool). option_and_then (trace_by ticket (cond b (d.step ∷ befell ticket all) (befell ticket all))) (sending ticket (d ∷ all))) past
    ∙ ap (λ (b : Bool). option_and_then (trace_by ticket (befell ticket all)) (cond b (Some d) (sending ticket all))) one
    ∙ ap (λ (o : Option InFlight). option_map (λ (g : InFlight). record { first = d.step; frame = g; later = befell ticket all }) o) at

unsent-old : (w : World) (e : Event) (s : Stepped) (ticket : ℕ) → Moves w.link e s → ticket < w.link.next → is_sent ticket s.outcome ≡ false
unsent-old w e s ticket m old = elim (turns w.link e s m) [
  | inl q ↦ q.outcome ticket
  | inr q ↦ ap (is_sent ticket) q.outcome ∙ grind (arith, nat_tests)
]

-- a ticket that was given before is sent no more
never : (ticket : ℕ) (es : List Event) (k : ℕ) (w : World) → ticket < w.link.next → IsTrue (is_some (run w es)) → sending ticket (done k w es) ≡ None
unfolding done
never ticket [] k w old ran = refl
never ticket (e ∷ es) k w old ran =
    let first = accepted w e es ran in
    let s = first.after in
    let m = moves w e s first.is in
    let unsent = unsent-old w e s ticket m old in
    ap (sending ticket) (done-first k w e es s first.is)
    ∙ ap (λ (b : Bool). cond b (Some (done_at k e s)) (sending ticket (done (k + 1) s.world es))) unsent
    ∙ never ticket es (k + 1) s.world (later w e s ticket m old) first.rest

-- ---- the trace, and the place that is counted

abbrev trace_at : ℕ → ℕ → Event → InFlight → List Event → Trace
trace_at ticket place e f rest =
    record {
      first = record { place = place; event = e; outcome = Sent ticket (length f.bytes) };
      frame = f;
      later = steps_of ticket (ticket + 1) (place + 1) f rest;
    }

-- the event at the index sends the frame
record IsFound (ticket k : ℕ) (w : World) (es : List Event) : Type 0 where
  index : ℕ
  place : ℕ
  what : Event
  after : World
  frame : InFlight
  is : place ≡ k + index
  nth : nth_sender k (ticket - w.link.next) es ≡ Some place
  there : slice_get es index ≡ Some what
  ran : run w (take (suc index) es) ≡ Some after
  flies : maps.get after.link.frames ticket ≡ Some frame
  traced : traced_in ticket (done k w es) ≡ Some (trace_at ticket place what frame (drop (suc index) es))

-- none of the events does
record IsMissing (ticket k : ℕ) (w : World) (es : List Event) : Type 0 where
  nth : nth_sender k (ticket - w.link.next) es ≡ None
  traced : traced_in ticket (done k w es) ≡ None

abbrev IsEither : ℕ → ℕ → World → List Event → Type 0
IsEither ticket k w es = IsFound ticket k w es ⊎ IsMissing ticket k w es

-- no event
missing-none : (ticket k : ℕ) (w : World) → IsMissing ticket k w []
unfolding done
missing-none ticket k w = record { nth = nth-none k (ticket - w.link.next); traced = refl }

-- an event that does not send it comes before
on : (ticket k : ℕ) (w : World) (e : Event) (es : List Event) (s : Stepped) → step w e ≡ Ok s
    → nth_sender k (ticket - w.link.next) (e ∷ es) ≡ nth_sender (k + 1) (ticket - s.world.link.next) es → is_sent ticket s.outcome ≡ false
    → befalls ticket e ≡ false
    → IsEither ticket (k + 1) s.world es → IsEither ticket k w (e ∷ es)
on ticket k w e es s is same unsent past rest =
    let past-it = ap (traced_in ticket) (done-first k w e es s is) ∙ traced-past ticket (done_at k e s) (done (k + 1) s.world es) unsent past in
    elim rest [
      | inl r ↦ inl (record {
        index = suc r.index;
        place = r.place;
        what = r.what;
        after = r.after;
        frame = r.frame;
        is = omega (arith, r.is);
        nth = same ∙ r.nth;
        there = r.there;
        ran = run-on w e (take (suc r.index) es) s is ∙ r.ran;
        flies = r.flies;
        traced = past-it ∙ r.traced;
      })
      | inr r ↦ inr (record { nth = same ∙ r.nth; traced = past-it ∙ r.traced })
    ]

same-frame : (g f : InFlight) → Some g ≡ Some f → g ≡ f
same-frame g f is = cc

not-zero : (first ticket : ℕ) → first ≤ ticket → (first ≡ ticket → ⊥) → ((ticket - first) == 0) ≡ false
not-zero first ticket new apart = grind (arith, nat_tests)

run-none : (w : World) → run w [] ≡ Some w
unfolding run
run-none w = refl

-- the first event sends it
here : (ticket k : ℕ) (w : World) (e : Event) (es : List Event) (s : Stepped) → step w e ≡ Ok s → IsSender w.link e s
    → w.link.next ≡ ticket → befalls ticket e ≡ false
    → AreGiven s.world.link → IsTrue (is_some (run s.world es)) → IsFound ticket k w (e ∷ es)
here ticket k w e es s is q own past are ran =
    let f = q.frame in
    let at : maps.get s.world.link.frames ticket ≡ Some f = ap (maps.get s.world.link.frames) (sym own) ∙ q.at in
    let gives : s.outcome ≡ Sent ticket (length f.bytes) = q.outcome ∙ ap (λ (t : ℕ). Sent t (length f.bytes)) own in
    let one : is_sent ticket s.outcome ≡ true = ap (is_sent ticket) gives ∙ eq-eqb ticket ticket refl in
    let next : s.world.link.next ≡ ticket + 1 = q.next ∙ ap (λ (n : ℕ). n + 1) own in
    let held = λ (g : InFlight) (there : maps.get s.world.link.frames ticket ≡ Some g). same-frame g f (sym there ∙ at) in
    let rest = befell-is ticket es (k + 1) s.world f are (omega arith) held ran ∙ ap (λ (n : ℕ). steps_of ticket n (k + 1) f es) next in
    record {
      index = 0;
      place = k;
      what = e;
      after = s.world;
      frame = f;
      is = omega arith;
      nth = nth-here k (ticket - w.link.next) e es q.sends (eq-eqb (ticket - w.link.next) 0 (omega arith));
      there = refl;
      ran = run-on w e [] s is ∙ run-none s.world;
      flies = at;
      traced =
          ap (traced_in ticket) (done-first k w e es s is)
          ∙ traced-here ticket (done_at k e s) (done (k + 1) s.world es) f one past at
          ∙ (λ i. Some (record { first = record { place = k; event = e; outcome = gives i }; frame = f; later = rest i }));
    }

either-way : (ticket : ℕ) (es : List Event) (k : ℕ) (w : World) → AreGiven w.link → w.link.next ≤ ticket → IsTrue (is_some (run w es)) → IsEither ticket k w es
either-way ticket [] k w are new ran = inr (missing-none ticket k w)
either-way ticket (e ∷ es) k w are new ran =
    let first = accepted w e es ran in
    let s = first.after in
    let m = moves w e s first.is in
    let given-then = stay-given w.link e s m are in
    let past = not_yet w.link e s ticket m are new in
    elim (turns w.link e s m) [
      | inl q ↦
          on ticket k w e es s first.is
          (nth-quiet k (ticket - w.link.next) e es q.sends ∙ ap (λ (n : ℕ). nth_sender (k + 1) (ticket - n) es) (sym q.next)) (q.outcome ticket) past
          (either-way ticket es (k + 1) s.world given-then (omega (arith, q.next)) first.rest)
      | inr q ↦ elim (w.link.next == ticket) as (λ b. (w.link.next == ticket) ≡ b → IsEither ticket k w (e ∷ es)) [
        | true ↦ λ own. inl (here ticket k w e es s first.is q (eqb-true w.link.next ticket own) past given-then first.rest)
        | false ↦ λ other.
            let apart = eqb-false w.link.next ticket other in
            let less : (ticket - w.link.next) - 1 ≡ ticket - s.world.link.next = omega (arith, q.next) in
            on ticket k w e es s first.is
            (nth-later k (ticket - w.link.next) e es q.sends (not-zero w.link.next ticket new apart) ∙ ap (λ (n : ℕ). nth_sender (k + 1) n es) less)
            (ap (is_sent ticket) q.outcome ∙ other) past
            (either-way ticket es (k + 1) s.world given-then (omega (arith, q.next, apart)) first.rest)
      ] refl
    ]

-- ---- the law

counted-is : (opening : World) (es : List Event) (ticket p : ℕ) (e : Event) (w : World) (f : InFlight) → slice_get es (p - 1) ≡ Some e
    → run opening (take p es) ≡ Some w
    → maps.get w.link.frames ticket ≡ Some f → counted_trace opening es ticket p ≡ Some (trace_at ticket p e f (drop p es))
counted-is opening es ticket p e w f there ran flies = rw (there, ran, flies) refl

traced-old : (opening : World) (es : List Event) (ticket : ℕ) → nat_lt ticket opening.link.next ≡ true → IsTrue (is_some (run opening es))
    → traced opening es ticket ≡ option_and_then (counted_trace opening es ticket) (sending_place opening.link.next ticket es)
traced-old opening es ticket old ran =
    traced-is opening es ticket
    ∙ ap (option_and_then (trace_by ticket (befell ticket (done 1 opening es)))) (never ticket es 1 opening (grind (arith, nat_tests)) ran)
    ∙ sym (ap (option_and_then (counted_trace opening es ticket)) (place-old opening.link.next ticket es old))

traced-new : (opening : World) (es : List Event) (ticket : ℕ) → nat_lt ticket opening.link.next ≡ false → IsEither ticket 1 opening es
    → traced opening es ticket ≡ option_and_then (counted_trace opening es ticket) (sending_place opening.link.next ticket es)
traced-new opening es ticket new (inr r) =
    traced-is opening es ticket ∙ r.traced ∙ sym (ap (option_and_then (counted_trace opening es ticket)) (place-new opening.link.next ticket es new ∙ r.nth))
traced-new opening es ticket new (inl r) =
    let p = r.place in
    let is : p ≡ suc r.index = omega (arith, r.is) in
    let before : p - 1 ≡ r.index = omega (arith, r.is) in
    traced-is opening es ticket ∙ r.traced
    ∙ ap (λ (n : ℕ). Some (trace_at ticket p r.what r.frame (drop n es))) (sym is)
    ∙ sym (counted-is opening es ticket p r.what r.after r.frame (ap (slice_get es) before ∙ r.there)
    (ap (λ (n : ℕ). run opening (take n es)) is ∙ r.ran) r.flies)
    ∙ sym (ap (option_and_then (counted_trace opening es ticket)) (place-new opening.link.next ticket es new ∙ r.nth))

pub traces-counted : TracesAreCounted
traces-counted opening es ticket is ran = elim (nat_lt ticket opening.link.next) as (λ b. nat_lt ticket opening.link.next ≡ b
    → traced opening es ticket ≡ option_and_then (counted_trace opening es ticket) (sending_place opening.link.next ticket es)) [
      | true ↦ λ old. traced-old opening es ticket old ran
      | false ↦ λ new. traced-new opening es ticket new (either-way ticket es 1 opening (given opening.link is.link) (grind (arith, nat_tests)) ran)
    ] refl

there-new : (opening : World) (es : List Event) (ticket k : ℕ) → nth_sender 1 (ticket - opening.link.next) es ≡ Some k
    → IsEither ticket 1 opening es → IsTrue (is_some (traced opening es ticket))
there-new opening es ticket k place (inl r) = ap is_some (traced-is opening es ticket ∙ r.traced)
there-new opening es ticket k place (inr r) = let none = r.nth in absurd (cc)

pub traces-there : TracesAreThere
traces-there opening es ticket k is ran place = elim (nat_lt ticket opening.link.next) as (λ b. nat_lt ticket opening.link.next ≡ b
    → IsTrue (is_some (traced opening es ticket))) [
      | true ↦ λ old. absurd (cc (place, place-old opening.link.next ticket es old))
      | false ↦ λ new. there-new opening es ticket k (sym (place-new opening.link.next ticket es new) ∙ place)
          (either-way ticket es 1 opening (given opening.link is.link) (grind (arith, nat_tests)) ran)
    ] refl
