-- What is reported of an event of a branch, and of one that has not happened, is what a step of it replies where the branch stands.
use Rattle.std.specs.Prelude.{◌≡◌, ℕ, zero, suc, ◌+◌, ◌-◌, ◌<◌, ◌≤◌, Bool, true, false, ◌&&◌, nat_le, List, [], ◌∷◌, ◌++◌, length, take, drop}
use Rattle.std.specs.Prelude.{slice_get, Option, Some, None, is_some, IsTrue, Result, Ok, Err, IfOk, refl, if◌then◌else◌}
use Rattle.std.specs.Option.{option_map_or}
use Rattle.std.proofs.Common.{sym, ◌∙◌, ap, subst, arith}
use Rattle.std.proofs.lemmas.Bool.{leb-true}
use Rattle.std.proofs.lemmas.List.{take-append-drop, take_more}
use Rattle.std.proofs.lemmas.Option.{get_or_from_slice_get}
use Rattle.std.proofs.lemmas.Result.{IfOk-weaker}
use Rattle.pfl_base.specs.declared.refusal.Refusal.{Refusal}
use Rattle.pfl_language.specs.declared.event.Event.{Event}
use Rattle.pfl_language.specs.declared.ask.Ask.TheVariants as ask
use Rattle.pfl_language.specs.declared.refused.Refused.TheVariants as refused
use Rattle.pfl_language.specs.BranchWords.{same_name}
use Rattle.pfl_search.specs.world.Events.{step}
use Rattle.pfl_search.specs.world.Meanings.{Stepped}
use Rattle.pfl_search.specs.world.Runs.{run}
use Rattle.pfl_search.specs.world.Worlds.{World}
use Rattle.pfl_reasons.specs.Explaining.{came_of, explained}
use Rattle.pfl_timeline.specs.Answers.{Answer, event_at, explanation, step_answer, why_answer, answer}
use Rattle.pfl_timeline.specs.Commands.{replied, in_place, step_command, show_command, why_command, why_step_command}
use Rattle.pfl_timeline.specs.Excisions.{has_event}
use Rattle.pfl_timeline.specs.Laws.{WhysAreSteps, IsExplained, standing_before, WhysForetellSteps, step_told}
use Rattle.pfl_timeline.specs.Memory.{is_refusal}
use Rattle.pfl_timeline.specs.declared.reply.Reply.{Reply as GivenReply}
use Rattle.pfl_timeline.specs.Replies.{Reply, Replied, Stepped as StepReply, Shown, Explained, Refused as Refusing, reply_of}
use Rattle.pfl_timeline.specs.Timelines.{Branch, Timeline, IsBranch, IsTimeline, branch_of, standing, world_of}
use Rattle.pfl_timeline.specs.inner.Looking.{IsSeen, explained_there}
use Rattle.pfl_timeline.proofs.Answering.{asked-there, show-is, step-is, why_step-is}
use Rattle.pfl_timeline.proofs.Excised.{changed_there}
use Rattle.pfl_timeline.proofs.Keeping.{found_is, branches-show}
use Rattle.pfl_timeline.proofs.Prefixes.{run-front, Accepted, last_accepted}
use Rattle.pfl_timeline.proofs.Shows.{the_world}
use Rattle.pfl_timeline.specs.Histories.{History}
use Rattle.pfl_timeline.specs.Kept.{rooted}
use Rattle.pfl_timeline.specs.Rooted.{Rooted, shown}

-- ---- the event

item_at : {X : Type 0} (xs : List X) (i : ℕ) → i < length xs → (x : X) × (slice_get xs i ≡ Some x)
item_at [] i h = absurd (omega (arith, h))
item_at (x ∷ xs) zero h = (x, refl)
item_at (x ∷ xs) (suc i) h = item_at xs i (omega (arith, h))

both : (a c : Bool) → (a && c) ≡ true → (a ≡ true) × (c ≡ true)
both true c is = (refl, is)
both false c is = absurd cc

-- what a look comes to that explains an event
abbrev Explains : {M N W : Type 0} → ℕ → Event → Reply → W → W → Result (GivenReply M) N → Type 0
Explains k e told old new seen = IfOk seen (λ reply. reply_of reply ≡ explained_there k e told)

module _ (k : ℕ) (b : Branch) (has : has_event k b ≡ true) where
  some : 1 ≤ k
  some = leb-true 1 k (both (nat_le 1 k) (nat_le k (length b.events)) has).0

  within : k ≤ length b.events
  within = leb-true k (length b.events) (both (nat_le 1 k) (nat_le k (length b.events)) has).1

  the_event : (e : Event) × (slice_get b.events (k - 1) ≡ Some e)
  the_event = item_at b.events (k - 1) (omega (arith, some, within))

  -- the events up to it are those before it, and it
  up_to_it : (e : Event) → slice_get b.events (k - 1) ≡ Some e → take k b.events ≡ take (k - 1) b.events ++ e ∷ []
  up_to_it e is =
      let next : k ≡ k - 1 + 1 = omega (arith, some) in
      ap (λ n. take n b.events) next
      ∙ take_more b.events (k - 1) e (omega (arith, some, within))
      ∙ ap (λ (x : Event). take (k - 1) b.events ++ x ∷ []) (get_or_from_slice_get b.events (k - 1) e e is)

  -- it was accepted where it stands
  accepted_there : (opening : World) → IsBranch opening b → (e : Event) → slice_get b.events (k - 1) ≡ Some e → Accepted opening (take (k - 1) b.events) e
  accepted_there opening branch e is =
      let runs = run-front opening (take k b.events) (drop k b.events)
      (subst (λ (es : List Event). IsTrue (is_some (run opening es))) (sym (take-append-drop k b.events)) branch.runs) in
      last_accepted opening (take (k - 1) b.events) e (subst (λ (es : List Event). IsTrue (is_some (run opening es))) (up_to_it e is) runs)

  -- ---- its explanation

  explained_as : (opening : World) (e : Event) (w : World) → slice_get b.events (k - 1) ≡ Some e
      → run opening (take (k - 1) b.events) ≡ Some w → why_answer opening k b ≡ explanation b.name k w e
  explained_as opening e w is before =
      let there : event_at k b ≡ Some e = ap (λ t. if t then slice_get b.events (k - 1) else None) has ∙ is in
      ap (λ (o : Option Event). option_map_or
      (λ f. option_map_or (λ v. explanation b.name k v f) (run opening (take (k - 1) b.events)) (Refusing refused.NoBranch)) o
      (Refusing refused.NoEvent)) there
      ∙ ap (λ (o : Option World). option_map_or (λ v. explanation b.name k v e) o (Refusing refused.NoBranch)) before

  -- it was accepted, so its explanation is no refusal
  pub explained-is : (opening : World) → IsBranch opening b → is_refusal (why_answer opening k b) ≡ false
  explained-is opening branch =
      let e = the_event in
      let a : Accepted opening (take (k - 1) b.events) e.0 = accepted_there opening branch e.0 e.1 in
      ap is_refusal (explained_as opening e.0 a.before e.1 a.here)

  -- what is seen of it where the events before it have happened
  explained_seen : {M N W : Type 0} (opening : World) (e : Event) → slice_get b.events (k - 1) ≡ Some e → (old new : W) (seen : Result (GivenReply M) N)
      → IsSeen (Explains k e) b.name opening b.events (k - 1) old new seen → IfOk seen (λ reply. reply_of reply ≡ why_answer opening k b)
  explained_seen opening e is old new seen saw =
      IfOk-weaker seen _ _ (λ reply h. h ∙ sym (explained_as opening e saw.world is saw.run_to)) saw.sees_it

-- so it is where a branch's history is looked at
pub explained-by : {M N W : Type 0} (k : ℕ) (r : Rooted) (name : List ℕ) (h looked : History) (former : Option History)
    → rooted name h former ≡ r → looked ≡ h → has_event k r.branch ≡ true
    → (e : Event) → slice_get r.branch.events (k - 1) ≡ Some e → (old new : W) (seen : Result (GivenReply M) N)
    → IsSeen (Explains k e) name looked.opening looked.events (k - 1) old new seen → IfOk seen (λ reply. reply_of reply ≡ why_answer r.opening k r.branch)
explained-by k r name h looked former view is has e there old new seen saw =
    explained_seen k r.branch has r.opening e there old new seen
    (subst (λ (q : Rooted). IsSeen (Explains k e) q.branch.name q.opening q.branch.events (k - 1) old new seen) view
    (subst (λ (g : History). IsSeen (Explains k e) name g.opening g.events (k - 1) old new seen) is saw))

-- an event is explained where a branch stands
pub explained-here : {M N W : Type 0} (r : Rooted) (name : List ℕ) (h looked : History) (former : Option History) → rooted name h former ≡ r → looked ≡ h
    → (k : ℕ) → k ≡ h.cursor + 1 → (e : Event) (old new : W) (seen : Result (GivenReply M) N)
    → IsSeen (Explains k e) name looked.opening looked.events looked.cursor old new seen
    → IfOk seen (λ reply. (w : World) × (shown r ≡ Some w) × (reply_of reply ≡ explanation r.branch.name (r.branch.cursor + 1) w e))
explained-here r name h looked former view is k next e old new seen saw =
    let there = subst (λ (g : History). IsSeen (Explains k e) name g.opening g.events g.cursor old new seen) is saw in
    subst (λ (q : Rooted). IfOk seen (λ reply. (w : World) × (shown q ≡ Some w) × (reply_of reply ≡ explanation q.branch.name (q.branch.cursor + 1) w e))) view
    (IfOk-weaker seen _ _ (λ reply told. (there.world, there.run_to, told ∙ ap (λ n. explanation name n there.world e) next)) there.sees_it)

-- ---- a step of it

module _ (t : Timeline) (name : List ℕ) (k : ℕ) (b : Branch) (is : IsTimeline t) (here : branch_of t name ≡ Some b) (has : IsTrue (has_event k b)) where
  abbrev moved : Timeline
  moved = standing_before k b t

  abbrev before : Branch
  before = record b { cursor = k - 1 }

  found_before : branch_of moved name ≡ Some before
  found_before = changed_there t name b before here refl

  module _ (e : Event) (accepted : Accepted t.opening (take (k - 1) b.events) e) where
    shown_before : (show_command moved name).reply ≡ Shown b.name (length b.events) (k - 1) accepted.before
    shown_before =
        ap (λ (r : Replied). r.reply) (asked-there moved name before ask.Show found_before)
        ∙ ap (λ (a : Answer). a.reply) (show-is t.opening before accepted.before accepted.here)

    stepped_before : (step_command moved name e).reply ≡ StepReply accepted.gives.outcome (length b.events - (k - 1))
    stepped_before =
        ap (λ (r : Replied). r.reply) (asked-there moved name before (ask.Step e) found_before)
        ∙ ap (λ (a : Answer). a.reply) (step-is t.opening before accepted.before accepted.here e)
        ∙ ap (λ (r : Result Stepped Refusal). (step_answer before e r).reply) accepted.stepped

    reported : slice_get b.events (k - 1) ≡ Some e
        → why_command t name k ≡ replied t (Explained b.name k e (Ok accepted.gives.outcome) (explained accepted.before e))
    unfolding answer
    reported there =
        asked-there t name b (ask.Why k) here
        ∙ ap (replied t) (explained_as k b has t.opening e accepted.before there accepted.here
        ∙ ap (λ (at : Result Stepped Refusal). Explained b.name k e (came_of at) (explained accepted.before e)) accepted.stepped)

  pub why-stepped : IsExplained t name k b
  why-stepped =
      let branch = found_is (IsBranch t.opening) (λ c. same_name c.name name) t.branches b is.branches here in
      let e = the_event k b has in
      let a : Accepted t.opening (take (k - 1) b.events) e.0 = accepted_there k b has t.opening branch e.0 e.1 in
      record {
        event = e.0;
        world = a.before;
        outcome = a.gives.outcome;
        there = e.1;
        shown = shown_before e.0 a;
        stepped = stepped_before e.0 a;
        reported = reported e.0 a e.1;
      }

pub whys-are-steps : WhysAreSteps
whys-are-steps = why-stepped

-- ---- a step that has not happened

module _ (t : Timeline) (name : List ℕ) (e : Event) (b : Branch) (here : branch_of t name ≡ Some b) (w : World)
    (there : run t.opening (standing b) ≡ Some w) where
  shown_now : (show_command t name).reply ≡ Shown b.name (length b.events) b.cursor w
  shown_now =
      ap (λ (r : Replied). r.reply) (asked-there t name b ask.Show here) ∙ ap (λ (a : Answer). a.reply) (show-is t.opening b w there)

  told_of : (at : Result Stepped Refusal) → (step_answer b e at).reply ≡ step_told (length b.events - b.cursor) (came_of at)
  told_of (Ok s) = refl
  told_of (Err why) = refl

  stepped_now : (step_command t name e).reply ≡ step_told (length b.events - b.cursor) (came_of (step w e))
  stepped_now =
      ap (λ (r : Replied). r.reply) (asked-there t name b (ask.Step e) here)
      ∙ ap (λ (a : Answer). a.reply) (step-is t.opening b w there e)
      ∙ told_of (step w e)

  reported_now : why_step_command t name e ≡ replied t (Explained b.name (b.cursor + 1) e (came_of (step w e)) (explained w e))
  reported_now = asked-there t name b (ask.WhyStep e) here ∙ ap (in_place t) (why_step-is t.opening b w there e)

-- each branch shows a world
its_world : (t : Timeline) (name : List ℕ) (b : Branch) → IsTimeline t → branch_of t name ≡ Some b → (w : World) × (world_of t b ≡ Some w)
its_world t name b is here =
    the_world (world_of t b) (found_is (λ c. IsTrue (is_some (world_of t c))) (λ c. same_name c.name name) t.branches b (branches-show t is) here)

pub whys-foretell-steps : WhysForetellSteps
unfolding world_of
whys-foretell-steps t name e b is here =
    let w : (w : World) × (world_of t b ≡ Some w) = its_world t name b is here in
    record {
      world = w.0;
      came = came_of (step w.0 e);
      shown = shown_now t name e b here w.0 w.1;
      stepped = stepped_now t name e b here w.0 w.1;
      reported = reported_now t name e b here w.0 w.1;
    }
