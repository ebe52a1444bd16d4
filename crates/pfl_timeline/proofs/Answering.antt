-- What holds of each answer of a branch, and what a branch gives in its place in a timeline.
use Rattle.std.specs.Prelude.{◌≡◌, ◌≤◌, ℕ, ◌+◌, ◌-◌, Bool, true, false, not, nat_lt, List, [], ◌∷◌, length, take, Option, Some, None, IfSome, IsSomeAnd, IsTrue}
use Rattle.std.specs.Prelude.{Result, Ok, Err, refl}
use Rattle.std.specs.Option.{option_map_or}
use Rattle.std.proofs.Common.{sym, ◌∙◌, ap, subst}
use Rattle.std.proofs.lemmas.Bool.{both_ways}
use Rattle.pfl_base.specs.declared.refusal.Refusal.{Refusal}
use Rattle.pfl_language.specs.declared.ask.Ask.{Ask}
use Rattle.pfl_language.specs.declared.ask.Ask.TheVariants as ask
use Rattle.pfl_language.specs.declared.command.Command.TheVariants as command
use Rattle.pfl_language.specs.declared.event.Event.{Event}
use Rattle.pfl_language.specs.declared.refused.Refused.{Refused}
use Rattle.pfl_language.specs.declared.refused.Refused.TheVariants as refused
use Rattle.pfl_search.specs.world.Events.{step}
use Rattle.pfl_search.specs.world.Meanings.{Stepped}
use Rattle.pfl_search.specs.world.Runs.{run}
use Rattle.pfl_search.specs.world.Worlds.{World}
use Rattle.pfl_timeline.specs.Answers.{Answer, says, becomes, refuses, answer_unless, answer_in, extended, undone, step_answer, at_cursor, shown_at}
use Rattle.pfl_timeline.specs.Answers.{explanation, answer}
use Rattle.pfl_timeline.specs.Commands.{replied, with_branch, with_changed, in_place, fork_reply, drop_reply, command_step}
use Rattle.pfl_timeline.specs.Excisions.{has_event, excised, fallen_places, restored}
use Rattle.pfl_timeline.specs.Laws.{changes}
use Rattle.pfl_timeline.specs.Memory.{is_refusal}
use Rattle.pfl_timeline.specs.Replies.{Reply, Replied, Stepped as StepReply, Shown, Excised, Restored, Refused as Refusing}
use Rattle.pfl_timeline.specs.Rooted.{Rooted}
use Rattle.pfl_timeline.specs.Sizes.{is_listing}
use Rattle.pfl_timeline.specs.Timelines.{Former, Branch, Timeline, branch_of, standing}
use Rattle.pfl_timeline.specs.inner.Answering.{answered, Gave}

-- ---- an answer that may be a refusal

-- a test may refuse it
pub unless : (P : Answer → Type 0) (test : Bool) (why : Refused) (done : Answer) → P (refuses why) → (test ≡ false → P done)
    → P (answer_unless ((test, why) ∷ []) done)
unless P test why done refusal given =
    elim test as (λ b. test ≡ b → P (answer_unless ((b, why) ∷ []) done)) [
      | true ↦ λ _. refusal
      | false ↦ given
    ] refl

-- it is given in a world
pub within : (P : Answer → Type 0) (o : Option World) (done : World → Answer) → P (refuses refused.NoBranch)
    → ((w : World) → o ≡ Some w → P (done w)) → P (answer_in o done)
within P o done refusal given =
    elim o as (λ x. o ≡ x → P (answer_in x done)) [
      | None ↦ λ _. refusal
      | Some w ↦ given w
    ] refl

-- an event may be refused
pub stepped : (P : Answer → Type 0) (b : Branch) (e : Event) (r : Result Stepped Refusal)
    → ((s : Stepped) → r ≡ Ok s → P (becomes (extended b e) (StepReply s.outcome (undone b))))
    → ((why : Refusal) → r ≡ Err why → P (refuses (refused.Event why))) → P (step_answer b e r)
stepped P b e (Ok s) done refusal = done s refl
stepped P b e (Err why) done refusal = refusal why refl

-- there may be nothing to bring back
pub brought : (P : Answer → Type 0) (b : Branch) → P (refuses refused.NothingExcised)
    → ((f : Former) → b.former ≡ Some f → P (becomes (restored b f) (Restored f.cursor)))
    → P (option_map_or (λ f. becomes (restored b f) (Restored f.cursor)) b.former (refuses refused.NothingExcised))
brought P b refusal given =
    elim b.former as (λ o. b.former ≡ o → P (option_map_or (λ f. becomes (restored b f) (Restored f.cursor)) o (refuses refused.NothingExcised))) [
      | None ↦ λ _. refusal
      | Some f ↦ given f
    ] refl

-- an event that is not missing is there
there_is : (b : Bool) → not b ≡ false → b ≡ true
there_is true is = refl
there_is false is = absurd cc

-- ---- each answer

-- so it is with all that a branch may say, and with all that it may become
pub record Holds (P : Answer → Type 0) (opening : World) (b : Branch) : Type 0 where
  pub said : (reply : Reply) → P (says reply)
  pub stepped : (e : Event) (w : World) (s : Stepped) → run opening (standing b) ≡ Some w → step w e ≡ Ok s
      → P (becomes (extended b e) (StepReply s.outcome (undone b)))
  pub back : (n : ℕ) → nat_lt b.cursor n ≡ false → P (at_cursor b (b.cursor - n))
  pub forward : (n : ℕ) → nat_lt (undone b) n ≡ false → P (at_cursor b (b.cursor + n))
  pub excised : (k : ℕ) → has_event k b ≡ true → P (becomes (excised opening k b) (Excised (fallen_places opening k b)))
  pub restored : (f : Former) → b.former ≡ Some f → P (becomes (restored b f) (Restored f.cursor))

pub each : (P : Answer → Type 0) (opening : World) (b : Branch) → Holds P opening b → (q : Ask) → P (answer opening b q)
unfolding answer
each P opening b h (ask.Step e) = within P (run opening (standing b)) (λ w. step_answer b e (step w e)) (h.said (Refusing refused.NoBranch))
    (λ w here. stepped P b e (step w e) (λ s is. h.stepped e w s here is) (λ why _. h.said (Refusing (refused.Event why))))
each P opening b h (ask.Back n) = unless P (nat_lt b.cursor n) refused.TooFarBack _ (h.said (Refusing refused.TooFarBack)) (h.back n)
each P opening b h (ask.Forward n) = unless P (nat_lt (undone b) n) refused.NothingForward _ (h.said (Refusing refused.NothingForward)) (h.forward n)
each P opening b h ask.Show = within P (run opening (standing b)) (λ w. says (shown_at b b.cursor w)) (h.said (Refusing refused.NoBranch)) (λ w _. h.said (shown_at b b.cursor w))
each P opening b h (ask.Past k) =
    unless P (nat_lt (length b.events) k) refused.NothingForward _ (h.said (Refusing refused.NothingForward))
    (λ _. within P (run opening (take k b.events)) (λ w. says (shown_at b k w)) (h.said (Refusing refused.NoBranch)) (λ w _. h.said (shown_at b k w)))
each P opening b h (ask.Why k) = h.said _
each P opening b h (ask.WhyStep e) =
    within P (run opening (standing b)) (λ w. says (explanation b.name (b.cursor + 1) w e)) (h.said (Refusing refused.NoBranch))
    (λ w _. h.said (explanation b.name (b.cursor + 1) w e))
each P opening b h (ask.Frame ticket) = h.said _
each P opening b h (ask.Excise k) =
    unless P (not (has_event k b)) refused.NoEvent _ (h.said (Refusing refused.NoEvent)) (λ is. h.excised k (there_is (has_event k b) is))
each P opening b h ask.Restore = brought P b (h.said (Refusing refused.NothingExcised)) h.restored
each P opening b h ask.Log = h.said _

-- a branch keeps its name
pub keeps-name : (opening : World) (b : Branch) (q : Ask) → IfSome (answer opening b q).changed (λ c. c.name ≡ b.name)
keeps-name opening b = each (λ a. IfSome a.changed (λ c. c.name ≡ b.name)) opening b (record {
  said = λ _. tt;
  stepped = λ _ _ _ _ _. refl;
  back = λ _ _. refl;
  forward = λ _ _. refl;
  excised = λ _ _. refl;
  restored = λ _ _. refl;
})

-- an answer that may want memory for its text leaves the branch as it is
pub listing-stays : (opening : World) (b : Branch) (q : Ask) → IsTrue (is_listing (answer opening b q).reply) → (answer opening b q).changed ≡ None
listing-stays opening b = each (λ a. IsTrue (is_listing a.reply) → a.changed ≡ None) opening b (record {
  said = λ _ _. refl;
  stepped = λ _ _ _ _ _ is. absurd (both_ways false refl is);
  back = λ _ _ is. absurd (both_ways false refl is);
  forward = λ _ _ is. absurd (both_ways false refl is);
  excised = λ _ _ is. absurd (both_ways false refl is);
  restored = λ _ _ is. absurd (both_ways false refl is);
})

-- an answer that refuses leaves the branch as it is
pub refusing-stays : (opening : World) (b : Branch) (q : Ask) → IsTrue (is_refusal (answer opening b q).reply) → (answer opening b q).changed ≡ None
refusing-stays opening b = each (λ a. IsTrue (is_refusal a.reply) → a.changed ≡ None) opening b (record {
  said = λ _ _. refl;
  stepped = λ _ _ _ _ _ is. absurd (both_ways false refl is);
  back = λ _ _ is. absurd (both_ways false refl is);
  forward = λ _ _ is. absurd (both_ways false refl is);
  excised = λ _ _ is. absurd (both_ways false refl is);
  restored = λ _ _ is. absurd (both_ways false refl is);
})

-- what may not change the branch does not
pub looks-stay : (opening : World) (b : Branch) (q : Ask) → changes q ≡ false → (answer opening b q).changed ≡ None
unfolding answer
looks-stay opening b (ask.Step e) is = absurd cc
looks-stay opening b (ask.Back n) is = absurd cc
looks-stay opening b (ask.Forward n) is = absurd cc
looks-stay opening b ask.Show is = within (λ a. a.changed ≡ None) (run opening (standing b)) (λ w. says (shown_at b b.cursor w)) refl (λ w _. refl)
looks-stay opening b (ask.Past k) is =
    unless (λ a. a.changed ≡ None) (nat_lt (length b.events) k) refused.NothingForward _ refl
    (λ _. within (λ a. a.changed ≡ None) (run opening (take k b.events)) (λ w. says (shown_at b k w)) refl (λ w _. refl))
looks-stay opening b (ask.Why k) is = refl
looks-stay opening b (ask.WhyStep e) is =
    within (λ a. a.changed ≡ None) (run opening (standing b)) (λ w. says (explanation b.name (b.cursor + 1) w e)) refl (λ w _. refl)
looks-stay opening b (ask.Frame ticket) is = refl
looks-stay opening b (ask.Excise k) is = absurd cc
looks-stay opening b ask.Restore is = absurd cc
looks-stay opening b ask.Log is = refl

-- ---- answers that are given

module _ (opening : World) (b : Branch) where
  -- in the world that the branch shows
  module _ (w : World) (here : run opening (standing b) ≡ Some w) where
    pub step-is : (e : Event) → answer opening b (ask.Step e) ≡ step_answer b e (step w e)
    unfolding answer
    step-is e = ap (λ o. answer_in o (λ v. step_answer b e (step v e))) here

    pub show-is : answer opening b ask.Show ≡ says (shown_at b b.cursor w)
    unfolding answer
    show-is = ap (λ o. answer_in o (λ v. says (shown_at b b.cursor v))) here

    pub why_step-is : (e : Event) → answer opening b (ask.WhyStep e) ≡ says (explanation b.name (b.cursor + 1) w e)
    unfolding answer
    why_step-is e = ap (λ o. answer_in o (λ v. says (explanation b.name (b.cursor + 1) v e))) here

  pub past-is : (k : ℕ) (w : World) → nat_lt (length b.events) k ≡ false → run opening (take k b.events) ≡ Some w
      → answer opening b (ask.Past k) ≡ says (shown_at b k w)
  unfolding answer
  past-is k w near here =
      ap (λ far. answer_unless ((far, refused.NothingForward) ∷ []) (answer_in (run opening (take k b.events)) (λ v. says (shown_at b k v)))) near
      ∙ ap (λ o. answer_in o (λ v. says (shown_at b k v))) here

  pub no_past-is : (k : ℕ) → nat_lt (length b.events) k ≡ true → answer opening b (ask.Past k) ≡ refuses refused.NothingForward
  unfolding answer
  no_past-is k far =
      ap (λ t. answer_unless ((t, refused.NothingForward) ∷ []) (answer_in (run opening (take k b.events)) (λ v. says (shown_at b k v)))) far

  pub excise-is : (k : ℕ) → has_event k b ≡ true
      → answer opening b (ask.Excise k) ≡ becomes (excised opening k b) (Excised (fallen_places opening k b))
  unfolding answer
  excise-is k has =
      ap (λ there. answer_unless ((not there, refused.NoEvent) ∷ []) (becomes (excised opening k b) (Excised (fallen_places opening k b)))) has

-- ---- what a branch gives

-- it stays as it is
pub gave-said : (r s : Rooted) (reply told : Reply) → s ≡ r → reply ≡ told → Gave r (says told) s reply
gave-said r s reply told same is = record { becomes = same; replies = is }

-- a test refuses
pub gave-refused : (r s : Rooted) (reply : Reply) (test : Bool) (why : Refused) (done : Answer) → test ≡ true → s ≡ r → reply ≡ Refusing why
    → Gave r (answer_unless ((test, why) ∷ []) done) s reply
gave-refused r s reply test why done is same told =
    subst (λ b. Gave r (answer_unless ((b, why) ∷ []) done) s reply) (sym is) (gave-said r s reply (Refusing why) same told)

-- no test refuses
pub gave-done : (r s : Rooted) (reply : Reply) (test : Bool) (why : Refused) (done : Answer) → test ≡ false → Gave r done s reply
    → Gave r (answer_unless ((test, why) ∷ []) done) s reply
gave-done r s reply test why done is gave = subst (λ b. Gave r (answer_unless ((b, why) ∷ []) done) s reply) (sym is) gave

-- this is the answer
pub gave-as : (r s : Rooted) (reply : Reply) (a b : Answer) → a ≡ b → Gave r b s reply → Gave r a s reply
gave-as r s reply a b is gave = subst (λ (x : Answer). Gave r x s reply) (sym is) gave

-- ---- a timeline

-- what is asked of a branch that is there
pub asked-there : (t : Timeline) (name : List ℕ) (b : Branch) (q : Ask) → branch_of t name ≡ Some b
    → command_step t (command.On name q) ≡ in_place t (answer t.opening b q)
unfolding command_step
asked-there t name b q here =
    ap (λ (o : Option Branch). option_map_or (λ c. in_place t (answer t.opening c q)) o (replied t (Refusing refused.NoBranch))) here

-- and of one that is not
pub asked-none : (t : Timeline) (name : List ℕ) (q : Ask) → branch_of t name ≡ None
    → command_step t (command.On name q) ≡ replied t (Refusing refused.NoBranch)
unfolding command_step
asked-none t name q none =
    ap (λ (o : Option Branch). option_map_or (λ c. in_place t (answer t.opening c q)) o (replied t (Refusing refused.NoBranch))) none

pub fork-asks : (t : Timeline) (from : List ℕ) (k : ℕ) (name : List ℕ) → command_step t (command.Fork from k name) ≡ with_branch t from (fork_reply t k name)
unfolding command_step
fork-asks t from k name = refl

pub drop-asks : (t : Timeline) (name : List ℕ) → command_step t (command.Drop name) ≡ with_branch t name (drop_reply t)
unfolding command_step
drop-asks t name = refl

-- so it is with all that is asked by a name
pub named : (P : Replied → Type 0) (t : Timeline) (name : List ℕ) (done : Branch → Replied) → P (replied t (Refusing refused.NoBranch))
    → ((b : Branch) → branch_of t name ≡ Some b → P (done b)) → P (with_branch t name done)
named P t name done none given =
    elim (branch_of t name) as (λ o. branch_of t name ≡ o → P (option_map_or done o (replied t (Refusing refused.NoBranch)))) [
      | None ↦ λ _. none
      | Some b ↦ given b
    ] refl

-- a look leaves the timeline as it was
pub looks-still : (t : Timeline) (name : List ℕ) (q : Ask) → changes q ≡ false → (command_step t (command.On name q)).timeline ≡ t
unfolding command_step
looks-still t name q looks =
    named (λ r. r.timeline ≡ t) t name (λ b. in_place t (answer t.opening b q)) refl
    (λ b _. ap (λ (o : Option Branch). option_map_or (with_changed t) o t) (looks-stay t.opening b q looks))

-- a world is shown, of which this is true
pub some-shown : {o : Option World} (P : World → Type 0) (w : World) → o ≡ Some w → P w → IsSomeAnd o P
some-shown P w here is = subst (λ (x : Option World). IsSomeAnd x P) (sym here) is

pub shown_as : (name name' : List ℕ) (events events' cursor cursor' : ℕ) (w w' : World) → name ≡ name' → events ≡ events'
    → cursor ≡ cursor' → w ≡ w' → Shown name events cursor w ≡ Shown name' events' cursor' w'
shown_as name name' events events' cursor cursor' w w' a b c d =
    ap (λ (x : List ℕ). Shown x events cursor w) a ∙ ap (λ n. Shown name' n cursor w) b ∙ ap (λ n. Shown name' events' n w) c
    ∙ ap (Shown name' events' cursor') d
