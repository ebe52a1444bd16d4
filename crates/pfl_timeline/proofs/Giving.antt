-- What a branch gives for each question, and that what may want memory is not refused.
use Rattle.std.specs.Prelude.{◌≡◌, ◌≢◌, ◌<◌, ◌≤◌, ℕ, ◌+◌, ◌-◌, Bool, true, false, not, ◌&&◌, nat_lt, nat_le, List, [], ◌∷◌, length, Option, Some, None}
use Rattle.std.specs.Prelude.{Result, Ok, Err, IfOk, IsTrue, IsFalse, refl}
use Rattle.std.proofs.Common.{sym, ◌∙◌, ap, subst, arith}
use Rattle.std.proofs.lemmas.Bool.{le-ltb, lt-ltb, lt-leb}
use Rattle.std.proofs.lemmas.Result.{IfOk-weaker}
use Rattle.pfl_base.specs.declared.refusal.Refusal.{Refusal}
use Rattle.pfl_base.specs.declared.refusal.Refusal.TheVariants.{NoMemory}
use Rattle.pfl_language.specs.declared.ask.Ask.{Ask}
use Rattle.pfl_language.specs.declared.ask.Ask.TheVariants as ask
use Rattle.pfl_language.specs.declared.event.Event.{Event}
use Rattle.pfl_language.specs.declared.outcome.Outcome.{Outcome}
use Rattle.pfl_language.specs.declared.refused.Refused.TheVariants as refused
use Rattle.pfl_search.specs.world.Events.{step, IsEventRefusal}
use Rattle.pfl_search.specs.world.Worlds.{World}
use Rattle.pfl_timeline.specs.Answers.{Answer, says, becomes, refuses, answer_unless, extended, undone, step_answer, at_cursor, shown_at, explanation}
use Rattle.pfl_timeline.specs.Answers.{why_answer, frame_answer, answer}
use Rattle.pfl_timeline.specs.Excisions.{has_event, excised, fallen_places}
use Rattle.pfl_timeline.specs.Histories.{History}
use Rattle.pfl_timeline.specs.Kept.{rooted}
use Rattle.pfl_timeline.specs.Memory.{is_refusal, makes}
use Rattle.pfl_timeline.specs.declared.reply.Reply.{Reply as GivenReply}
use Rattle.pfl_timeline.specs.Replies.{Reply, Stepped as StepReply, At, Excised, Restored, Logged, Refused as Refusing, reply_of}
use Rattle.pfl_timeline.specs.Rooted.{Rooted, shown}
use Rattle.pfl_timeline.specs.Timelines.{Branch, IsBranch}
use Rattle.pfl_timeline.specs.inner.Answering.{Gave}
use Rattle.pfl_timeline.specs.inner.Histories.{standing_at}
use Rattle.pfl_timeline.specs.inner.Looking.{SeesAt}
use Rattle.pfl_timeline.proofs.Answering.{excise-is, gave-as, gave-done, gave-refused, gave-said, no_past-is, past-is, show-is, step-is, why_step-is}
use Rattle.pfl_timeline.proofs.Refusals.{refusal_is}
use Rattle.pfl_timeline.proofs.Wants.{world_before}

-- ---- a step

pub gave-stepped : (r s : Rooted) (e : Event) (w new : World) (out : Outcome) (cut : ℕ) → shown r ≡ Some w
    → step w e ≡ Ok (record { world = new; outcome = out }) → cut ≡ undone r.branch → s ≡ record r { branch = extended r.branch e }
    → Gave r (answer r.opening r.branch (ask.Step e)) s (StepReply out cut)
gave-stepped r s e w new out cut here stepped is made =
    gave-as r s (StepReply out cut) _ (step_answer r.branch e (Ok (record { world = new; outcome = out })))
    (step-is r.opening r.branch w here e ∙ ap (step_answer r.branch e) stepped)
    (record { becomes = made; replies = ap (StepReply out) is })

pub gave-refusal : (r s : Rooted) (e : Event) (w : World) (why : Refusal) (reply : Reply) → shown r ≡ Some w → IsEventRefusal w e why
    → why ≢ NoMemory → s ≡ r → reply ≡ Refusing (refused.Event why) → Gave r (answer r.opening r.branch (ask.Step e)) s reply
gave-refusal r s e w why reply here is other same told =
    gave-as r s reply _ (step_answer r.branch e (Err why))
    (step-is r.opening r.branch w here e ∙ ap (step_answer r.branch e) (refusal_is w e why is other))
    (gave-said r s reply (Refusing (refused.Event why)) same told)

-- ---- another cursor

-- a branch's history with another cursor
pub moved-to : (name : List ℕ) (h new : History) (former : Option History) (r : Rooted) (k : ℕ) → rooted name h former ≡ r → new ≡ standing_at h k
    → rooted name new former ≡ record r { branch = record r.branch { cursor = k } }
moved-to name h new former r k view is =
    ap (λ (x : History). rooted name x former) is ∙ ap (λ (x : Rooted). record x { branch = record x.branch { cursor = k } }) view

-- as many events stand as are said
gave_cursor : (r s : Rooted) (k said : ℕ) → said ≡ k → s ≡ record r { branch = record r.branch { cursor = said } } → Gave r (at_cursor r.branch k) s (At said)
gave_cursor r s k said is made =
    record { becomes = made ∙ ap (λ n. record r { branch = record r.branch { cursor = n } }) is; replies = ap At is }

pub gave-not_back : (r : Rooted) (n cursor : ℕ) → cursor ≡ r.branch.cursor → cursor < n
    → Gave r (answer r.opening r.branch (ask.Back n)) r (Refusing refused.TooFarBack)
unfolding answer
gave-not_back r n cursor is far =
    gave-refused r r (Refusing refused.TooFarBack) (nat_lt r.branch.cursor n) refused.TooFarBack _ (lt-ltb r.branch.cursor n (omega (arith, is, far))) refl refl

pub gave-back : (r s : Rooted) (n cursor : ℕ) → cursor ≡ r.branch.cursor → n ≤ cursor → s ≡ record r { branch = record r.branch { cursor = cursor - n } }
    → Gave r (answer r.opening r.branch (ask.Back n)) s (At (cursor - n))
unfolding answer
gave-back r s n cursor is near made =
    gave-done r s (At (cursor - n)) (nat_lt r.branch.cursor n) refused.TooFarBack _ (le-ltb r.branch.cursor n (omega (arith, is, near)))
    (gave_cursor r s (r.branch.cursor - n) (cursor - n) (ap (λ k. k - n) is) made)

pub gave-not_forward : (r : Rooted) (n : ℕ) → undone r.branch < n → Gave r (answer r.opening r.branch (ask.Forward n)) r (Refusing refused.NothingForward)
unfolding answer
gave-not_forward r n far =
    gave-refused r r (Refusing refused.NothingForward) (nat_lt (undone r.branch) n) refused.NothingForward _ (lt-ltb (undone r.branch) n far) refl refl

pub gave-forward : (r s : Rooted) (n cursor : ℕ) → cursor ≡ r.branch.cursor → n ≤ undone r.branch
    → s ≡ record r { branch = record r.branch { cursor = cursor + n } } → Gave r (answer r.opening r.branch (ask.Forward n)) s (At (cursor + n))
unfolding answer
gave-forward r s n cursor is near made =
    gave-done r s (At (cursor + n)) (nat_lt (undone r.branch) n) refused.NothingForward _ (le-ltb (undone r.branch) n near)
    (gave_cursor r s (r.branch.cursor + n) (cursor + n) (ap (λ k. k + n) is) made)

-- a way that is not too far is no refusal
pub forward-accepts : (r : Rooted) (n : ℕ) → n ≤ undone r.branch → is_refusal (answer r.opening r.branch (ask.Forward n)).reply ≡ false
unfolding answer
forward-accepts r n near =
    ap (λ far. is_refusal (answer_unless ((far, refused.NothingForward) ∷ []) (at_cursor r.branch (r.branch.cursor + n))).reply)
    (le-ltb (undone r.branch) n near)

-- ---- what was there before an excision

pub gave-restored : (name : List ℕ) (h f : History) (former : Option History) (r s : Rooted) (count : ℕ) → rooted name h former ≡ r
    → former ≡ Some f → f.opening ≡ h.opening → s ≡ rooted name f None → count ≡ f.cursor
    → Gave r (answer r.opening r.branch ask.Restore) s (Restored count)
unfolding answer
gave-restored name h f former r s count view is begins made counted =
    subst (λ (x : Rooted). Gave x (answer x.opening x.branch ask.Restore) s (Restored count)) view
    (subst (λ (o : Option History). Gave (rooted name h o) (answer h.opening (rooted name h o).branch ask.Restore) s (Restored count)) (sym is)
    (record {
      becomes = made ∙ ap (λ (o : World). record { opening = o; branch = record { name = name; events = f.events; cursor = f.cursor; former = None } }) begins;
      replies = ap Restored counted;
    }))

pub gave-nothing : (name : List ℕ) (h : History) (former : Option History) (r s : Rooted) → rooted name h former ≡ r → former ≡ None
    → s ≡ rooted name h None → Gave r (answer r.opening r.branch ask.Restore) s (Refusing refused.NothingExcised)
unfolding answer
gave-nothing name h former r s view is made =
    subst (λ (x : Rooted). Gave x (answer x.opening x.branch ask.Restore) s (Refusing refused.NothingExcised)) view
    (subst (λ (o : Option History). Gave (rooted name h o) (answer h.opening (rooted name h o).branch ask.Restore) s (Refusing refused.NothingExcised)) (sym is)
    (record { becomes = made; replies = refl }))

-- ---- an event taken out

and_false : (a : Bool) → a && false ≡ false
and_false true = refl
and_false false = refl

-- no place is 0
pub no_event-zero : (k : ℕ) (b : Branch) → k ≡ 0 → has_event k b ≡ false
no_event-zero k b is = ap (λ t. t && nat_le k (length b.events)) (lt-leb 1 k (omega (arith, is)))

-- nor is one after the last
pub no_event-after : (k : ℕ) (b : Branch) → length b.events < k → has_event k b ≡ false
no_event-after k b far = ap (λ t. nat_le 1 k && t) (lt-leb k (length b.events) far) ∙ and_false (nat_le 1 k)

pub gave-no_event : (r : Rooted) (k : ℕ) → has_event k r.branch ≡ false → Gave r (answer r.opening r.branch (ask.Excise k)) r (Refusing refused.NoEvent)
unfolding answer
gave-no_event r k none = gave-refused r r (Refusing refused.NoEvent) (not (has_event k r.branch)) refused.NoEvent _ (ap not none) refl refl

pub gave-excised : (r s : Rooted) (k : ℕ) (places : List ℕ) → has_event k r.branch ≡ true → s ≡ record r { branch = excised r.opening k r.branch }
    → places ≡ fallen_places r.opening k r.branch → Gave r (answer r.opening r.branch (ask.Excise k)) s (Excised places)
gave-excised r s k places has made fallen =
    gave-as r s (Excised places) _ (becomes (excised r.opening k r.branch) (Excised (fallen_places r.opening k r.branch)))
    (excise-is r.opening r.branch k has) (record { becomes = made; replies = ap Excised fallen })

pub excise-accepts : (r : Rooted) (k : ℕ) → has_event k r.branch ≡ true → is_refusal (answer r.opening r.branch (ask.Excise k)).reply ≡ false
excise-accepts r k has = ap (λ (a : Answer). is_refusal a.reply) (excise-is r.opening r.branch k has)

-- ---- what is seen at a place

-- what a look comes to that copies what there is to be seen
abbrev pub Copies : {M N W : Type 0} → Reply → W → W → Result (GivenReply M) N → Type 0
Copies told old new seen = IfOk seen (λ reply. reply_of reply ≡ told)

module _ {M N W : Type 0} (r s : Rooted) (k : ℕ) (old new : W) (seen : Option (Result (GivenReply M) N)) (same : s ≡ r)
    (sees : SeesAt Copies r.branch.name r.opening r.branch.events k old new seen) where
  abbrev there : Option (Result (GivenReply M) N) → Type 0
  there o = SeesAt Copies r.branch.name r.opening r.branch.events k old new o

  module _ (copied : Result (GivenReply M) N) (is : seen ≡ Some copied) where
    pub gave-past : IfOk copied (λ reply. Gave r (answer r.opening r.branch (ask.Past k)) s (reply_of reply))
    gave-past =
        let at : there (Some copied) = subst there is sees in
        IfOk-weaker copied _ _
        (λ reply told. gave-as r s (reply_of reply) _ (says (shown_at r.branch k at.1.world)) (past-is r.opening r.branch k at.1.world at.0 at.1.run_to)
        (gave-said r s (reply_of reply) _ same told)) at.1.sees_it

    pub seen-accepts : is_refusal (answer r.opening r.branch (ask.Past k)).reply ≡ false
    seen-accepts =
        let at : there (Some copied) = subst there is sees in
        ap (λ (a : Answer). is_refusal a.reply) (past-is r.opening r.branch k at.1.world at.0 at.1.run_to)

  pub gave-no_past : seen ≡ None → Gave r (answer r.opening r.branch (ask.Past k)) s (Refusing refused.NothingForward)
  gave-no_past is =
      let at : there None = subst there is sees in
      gave-as r s _ _ (refuses refused.NothingForward) (no_past-is r.opening r.branch k at.0) (gave-said r s _ _ same refl)

-- ---- a look, by the question

module _ (r s : Rooted) (q : Ask) (reply : Reply) where
  -- the question is this one
  pub gave-for : (x : Ask) → q ≡ x → Gave r (answer r.opening r.branch x) s reply → Gave r (answer r.opening r.branch q) s reply
  gave-for x is gave = subst (λ (y : Ask). Gave r (answer r.opening r.branch y) s reply) (sym is) gave

  pub gave-show : q ≡ ask.Show → s ≡ r → (w : World) × (shown r ≡ Some w) × (reply ≡ shown_at r.branch r.branch.cursor w)
      → Gave r (answer r.opening r.branch q) s reply
  gave-show is same told = gave-for ask.Show is (gave-as r s reply _ _ (show-is r.opening r.branch told.0 told.1) (gave-said r s reply _ same told.2))

  pub gave-why : (k : ℕ) → q ≡ ask.Why k → s ≡ r → reply ≡ why_answer r.opening k r.branch → Gave r (answer r.opening r.branch q) s reply
  unfolding answer
  gave-why k is same told = gave-for (ask.Why k) is (gave-said r s reply _ same told)

  pub gave-why_step : (e : Event) → q ≡ ask.WhyStep e → s ≡ r
      → (w : World) × (shown r ≡ Some w) × (reply ≡ explanation r.branch.name (r.branch.cursor + 1) w e) → Gave r (answer r.opening r.branch q) s reply
  gave-why_step e is same told =
      gave-for (ask.WhyStep e) is (gave-as r s reply _ _ (why_step-is r.opening r.branch told.0 told.1 e) (gave-said r s reply _ same told.2))

  pub gave-frame : (ticket : ℕ) → q ≡ ask.Frame ticket → s ≡ r → reply ≡ frame_answer r.opening ticket r.branch → Gave r (answer r.opening r.branch q) s reply
  unfolding answer
  gave-frame ticket is same told = gave-for (ask.Frame ticket) is (gave-said r s reply _ same told)

  pub gave-log : q ≡ ask.Log → s ≡ r → reply ≡ Logged r.branch.name r.branch.events r.branch.cursor → Gave r (answer r.opening r.branch q) s reply
  unfolding answer
  gave-log is same told = gave-for ask.Log is (gave-said r s reply _ same told)

-- ---- what may want memory is not refused

abbrev pub MayWant : Rooted → Ask → Type 0
MayWant r q = IsTrue (makes q) × IsFalse (is_refusal (answer r.opening r.branch q).reply)

wants-for : (r : Rooted) (q x : Ask) → q ≡ x → MayWant r x → MayWant r q
wants-for r q x is wants = subst (MayWant r) (sym is) wants

pub show-wants : (r : Rooted) (q : Ask) → q ≡ ask.Show → IsBranch r.opening r.branch → MayWant r q
show-wants r q is branch =
    let w = world_before r.opening r.branch r.branch.cursor branch in
    wants-for r q ask.Show is (refl, ap (λ (a : Answer). is_refusal a.reply) (show-is r.opening r.branch w.0 w.1))

pub why_step-wants : (r : Rooted) (q : Ask) (e : Event) → q ≡ ask.WhyStep e → IsBranch r.opening r.branch → MayWant r q
why_step-wants r q e is branch =
    let w = world_before r.opening r.branch r.branch.cursor branch in
    wants-for r q (ask.WhyStep e) is (refl, ap (λ (a : Answer). is_refusal a.reply) (why_step-is r.opening r.branch w.0 w.1 e))

pub why-wants : (r : Rooted) (q : Ask) (k : ℕ) → q ≡ ask.Why k → is_refusal (why_answer r.opening k r.branch) ≡ false → MayWant r q
unfolding answer
why-wants r q k is accepted = wants-for r q (ask.Why k) is (refl, accepted)

pub frame-wants : (r : Rooted) (q : Ask) (ticket : ℕ) → q ≡ ask.Frame ticket → is_refusal (frame_answer r.opening ticket r.branch) ≡ false → MayWant r q
unfolding answer
frame-wants r q ticket is accepted = wants-for r q (ask.Frame ticket) is (refl, accepted)

pub log-wants : (r : Rooted) (q : Ask) → q ≡ ask.Log → MayWant r q
unfolding answer
log-wants r q is = wants-for r q ask.Log is (refl, refl)
