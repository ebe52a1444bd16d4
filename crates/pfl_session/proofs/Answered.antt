-- What an answer makes of a branch: it is longer by one event at most, or as long as before an excision; and no more places are listed than it
-- had events.
use Rattle.std.specs.Prelude.{◌≡◌, ◌≤◌, ℕ, zero, suc, ◌+◌, ◌-◌, List, [], ◌∷◌, length, take, not, nat_lt, Option, Some, None, IfSome, if◌then◌else◌}
use Rattle.std.specs.Option.{option_map_or}
use Rattle.std.proofs.Common.{subst, arith, length-append}
use Rattle.pfl_language.specs.declared.ask.Ask.{Ask}
use Rattle.pfl_language.specs.declared.ask.Ask.TheVariants as ask
use Rattle.pfl_language.specs.declared.event.Event.{Event}
use Rattle.pfl_language.specs.declared.refused.Refused.TheVariants as refused
use Rattle.pfl_timeline.specs.world.Events.{step}
use Rattle.pfl_timeline.specs.world.Runs.{run}
use Rattle.pfl_timeline.specs.world.Worlds.{World}
use Rattle.pfl_timeline.specs.reasons.Frames.{traced}
use Rattle.pfl_timeline.specs.Answers.{Answer, says, answer_in, extended, undone, step_answer, shown_at, event_at, explanation, why_answer, frame_answer}
use Rattle.pfl_timeline.specs.Answers.{answer}
use Rattle.pfl_timeline.specs.Excisions.{has_event, restored}
use Rattle.pfl_timeline.specs.Replies.{Traced, Refused as Refusing}
use Rattle.pfl_timeline.specs.Timelines.{Branch, Former, standing}
use Rattle.pfl_timeline.proofs.ForCallers.{brought, each, stepped, unless, within}
use Rattle.pfl_session.specs.Listings.{places_in, takes_out}
use Rattle.pfl_session.specs.Totals.{HasFew}
use Rattle.pfl_session.proofs.Falling.{fallen-few, left-few}

-- ---- how long the branch is

pub length-front : {X : Type 0} (k : ℕ) (xs : List X) → length (take k xs) ≤ length xs
length-front zero xs = omega arith
length-front (suc k) [] = omega arith
length-front (suc k) (x ∷ xs) = let h = length-front k xs in omega arith

-- at most n events can be brought back
abbrev FewBack : ℕ → Option Former → Type 0
FewBack n o = IfSome o (λ f. length f.events ≤ n)

more_back : (n m : ℕ) (o : Option Former) → n ≤ m → FewBack n o → FewBack m o
more_back n m None le few = tt
more_back n m (Some f) le few = omega (arith, few, le)

pub more_here : (n m : ℕ) (b : Branch) → n ≤ m → HasFew n b → HasFew m b
more_here n m b le few = (omega (arith, few.0, le), more_back n m b.former le few.1)

longer : (n : ℕ) (b : Branch) (e : Event) → HasFew n b → HasFew (n + 1) (extended b e)
longer n b e is = (omega (arith, is.0, length-append (take b.cursor b.events) (e ∷ []), length-front b.cursor b.events), tt)

as-before : (n : ℕ) (b : Branch) → HasFew n b → (f : Former) → b.former ≡ Some f → HasFew (n + 1) (restored b f)
as-before n b is f there = let back : length f.events ≤ n = subst (FewBack n) there is.1 in (omega arith, tt)

pub answer-few : (n : ℕ) (opening : World) (b : Branch) → HasFew n b → (q : Ask) → IfSome (answer opening b q).changed (HasFew (n + 1))
answer-few n opening b is = each (λ a. IfSome a.changed (HasFew (n + 1))) opening b (record {
  said = λ _. tt;
  stepped = λ e _ _ _ _. longer n b e is;
  back = λ _ _. more_here n (n + 1) b (omega arith) is;
  forward = λ _ _. more_here n (n + 1) b (omega arith) is;
  excised = λ k _. (omega (arith, is.0, left-few opening k b), omega (arith, is.0));
  restored = as-before n b is;
})

-- ---- how many places are listed

abbrev Lists : ℕ → Answer → Type 0
Lists n a = length (places_in a.reply) ≤ n

-- an answer in a world, of which none lists a place
in_world : (o : Option World) (done : World → Answer) → ((w : World) → Lists 0 (done w)) → Lists 0 (answer_in o done)
in_world o done is = within (Lists 0) o done (omega arith) (λ w _. is w)

why_lists : (opening : World) (b : Branch) (k : ℕ) → length (places_in (why_answer opening k b)) ≤ 0
why_lists opening b k =
    let before = run opening (take (k - 1) b.events) in
    elim (event_at k b) as (λ o. length
    (places_in (option_map_or (λ e. option_map_or (λ w. explanation b.name k w e) before (Refusing refused.NoBranch)) o
    (Refusing refused.NoEvent))) ≤ 0) [
      | None ↦ omega arith
      | Some e ↦ elim before as (λ o. length (places_in (option_map_or (λ w. explanation b.name k w e) o (Refusing refused.NoBranch))) ≤ 0) [
        | None ↦ omega arith
        | Some w ↦ omega arith
      ]
    ]

frame_lists : (opening : World) (b : Branch) (ticket : ℕ) → length (places_in (frame_answer opening ticket b)) ≤ 0
frame_lists opening b ticket =
    elim (traced opening b.events ticket) as (λ o. length (places_in (option_map_or (Traced b.name ticket) o (Refusing refused.NoFrame))) ≤ 0) [
      | None ↦ omega arith
      | Some trace ↦ omega arith
    ]

-- an answer lists no more places than the branch has events, and none where no event is taken out
pub answer-lists : (opening : World) (b : Branch) (q : Ask) → Lists (if takes_out q then length b.events else 0) (answer opening b q)
unfolding answer
answer-lists opening b (ask.Step e) =
    in_world (run opening (standing b)) (λ w. step_answer b e (step w e))
    (λ w. stepped (Lists 0) b e (step w e) (λ _ _. omega arith) (λ _ _. omega arith))
answer-lists opening b (ask.Back n) = unless (Lists 0) (nat_lt b.cursor n) refused.TooFarBack _ (omega arith) (λ _. omega arith)
answer-lists opening b (ask.Forward n) = unless (Lists 0) (nat_lt (undone b) n) refused.NothingForward _ (omega arith) (λ _. omega arith)
answer-lists opening b ask.Show = in_world (run opening (standing b)) (λ w. says (shown_at b b.cursor w)) (λ _. omega arith)
answer-lists opening b (ask.Past k) =
    unless (Lists 0) (nat_lt (length b.events) k) refused.NothingForward _ (omega arith)
    (λ _. in_world (run opening (take k b.events)) (λ w. says (shown_at b k w)) (λ _. omega arith))
answer-lists opening b (ask.Why k) = why_lists opening b k
answer-lists opening b (ask.WhyStep e) =
    in_world (run opening (standing b)) (λ w. says (explanation b.name (b.cursor + 1) w e)) (λ _. omega arith)
answer-lists opening b (ask.Frame ticket) = frame_lists opening b ticket
answer-lists opening b (ask.Excise k) =
    unless (Lists (length b.events)) (not (has_event k b)) refused.NoEvent _ (omega arith) (λ _. fallen-few opening k b)
answer-lists opening b ask.Restore = brought (Lists 0) b (omega arith) (λ _ _. omega arith)
answer-lists opening b ask.Log = omega arith
