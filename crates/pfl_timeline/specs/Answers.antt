-- What a branch answers: what it becomes, and the reply. What is refused changes nothing (this project's profile).
use Rattle.std.specs.Prelude.{ℕ, ◌+◌, ◌-◌, Bool, not, nat_lt, List, [], ◌∷◌, ◌++◌, length, take, slice_get, Option, Some, None, Result, Ok, Err}
use Rattle.std.specs.Prelude.{if◌then◌else◌}
use Rattle.std.specs.Option.{option_map_or}
use Rattle.pfl_base.specs.declared.refusal.Refusal.{Refusal}
use Rattle.pfl_language.specs.declared.event.Event.{Event}
use Rattle.pfl_language.specs.declared.ask.Ask.{Ask}
use Rattle.pfl_language.specs.declared.ask.Ask.TheVariants as ask
use Rattle.pfl_language.specs.declared.refused.Refused.{Refused}
use Rattle.pfl_language.specs.declared.refused.Refused.TheVariants as refused
use Rattle.pfl_search.specs.world.desk.Nodes.{refused_by}
use Rattle.pfl_search.specs.world.Meanings.{Stepped}
use Rattle.pfl_search.specs.world.Events.{step}
use Rattle.pfl_search.specs.world.Runs.{run}
use Rattle.pfl_search.specs.world.Worlds.{World}
use Rattle.pfl_reasons.specs.Explaining.{came_of, explained}
use Rattle.pfl_reasons.specs.Frames.{traced}
use Rattle.pfl_timeline.specs.Excisions.{has_event, excised, fallen_places, restored}
use Rattle.pfl_timeline.specs.Replies.{Reply, Stepped as StepReply, At, Shown, Excised, Restored, Logged, Explained, Traced, Refused as Refusing}
use Rattle.pfl_timeline.specs.Timelines.{Branch, standing}

-- what the branch becomes, if it changes, and the reply
pub record Answer : Type 0 where
  pub changed : Option Branch
  pub reply : Reply

-- the reply; the branch stays as it is
abbrev pub says : Reply → Answer
says reply = record { changed = None; reply = reply }

-- the branch becomes this, with this reply
abbrev pub becomes : Branch → Reply → Answer
becomes b reply = record { changed = Some b; reply = reply }

-- why nothing is done
abbrev pub refuses : Refused → Answer
refuses why = says (Refusing why)

-- the answer, unless a test refuses it
abbrev pub answer_unless : List (Bool × Refused) → Answer → Answer
answer_unless tests done = option_map_or refuses (refused_by tests) done

-- the answer in the world that a run of events gives; those of a branch have one, since all of them were accepted
abbrev pub answer_in : Option World → (World → Answer) → Answer
answer_in w done = option_map_or done w (refuses refused.NoBranch)

-- the event after those that stand, in place of what was undone; nothing is brought back after it
abbrev pub extended : Branch → Event → Branch
extended b e = record b { events = standing b ++ e ∷ []; cursor = b.cursor + 1; former = None }

-- how many events stand no more
abbrev pub undone : Branch → ℕ
undone b = length b.events - b.cursor

-- an accepted event extends the branch; a refused one changes nothing
abbrev pub step_answer : Branch → Event → Result Stepped Refusal → Answer
step_answer b e (Ok s) = becomes (extended b e) (StepReply s.outcome (undone b))
step_answer b e (Err r) = refuses (refused.Event r)

-- the cursor moved; the events stay
abbrev pub at_cursor : Branch → ℕ → Answer
at_cursor b cursor = becomes (record b { cursor = cursor }) (At cursor)

-- the branch where this many of its events stand, with the world that they give
abbrev pub shown_at : Branch → ℕ → World → Reply
shown_at b k w = Shown b.name (length b.events) k w

-- the k-th event of the branch, where there is one
abbrev pub event_at : ℕ → Branch → Option Event
event_at k b = if has_event k b then slice_get b.events (k - 1) else None

-- an event at a place of the branch of the name: what comes of it in the world before it, and why
abbrev pub explanation : List ℕ → ℕ → World → Event → Reply
explanation name k w e = Explained name k e (came_of (step w e)) (explained w e)

-- the explanation of the branch's k-th event, those after the cursor too; it was accepted in the world that the events before it give
abbrev pub why_answer : World → ℕ → Branch → Reply
why_answer opening k b =
    option_map_or
    (λ e. option_map_or (λ w. explanation b.name k w e) (run opening (take (k - 1) b.events)) (Refusing refused.NoBranch))
    (event_at k b) (Refusing refused.NoEvent)

-- the frame that one of the branch's events sent under the ticket, those after the cursor too, and what became of it
abbrev pub frame_answer : World → ℕ → Branch → Reply
frame_answer opening ticket b = option_map_or (Traced b.name ticket) (traced opening b.events ticket) (Refusing refused.NoFrame)

-- what a branch answers that begins from this opening
unfoldable pub answer : World → Branch → Ask → Answer
answer opening b (ask.Step e) = answer_in (run opening (standing b)) (λ w. step_answer b e (step w e))
answer opening b (ask.Back n) = answer_unless ((nat_lt b.cursor n, refused.TooFarBack) ∷ []) (at_cursor b (b.cursor - n))
answer opening b (ask.Forward n) = answer_unless ((nat_lt (undone b) n, refused.NothingForward) ∷ []) (at_cursor b (b.cursor + n))
answer opening b ask.Show = answer_in (run opening (standing b)) (λ w. says (shown_at b b.cursor w))
answer opening b (ask.Past k) =
    answer_unless ((nat_lt (length b.events) k, refused.NothingForward) ∷ [])
    (answer_in (run opening (take k b.events)) (λ w. says (shown_at b k w)))
answer opening b (ask.Why k) = says (why_answer opening k b)
answer opening b (ask.WhyStep e) = answer_in (run opening (standing b)) (λ w. says (explanation b.name (b.cursor + 1) w e))
answer opening b (ask.Frame ticket) = says (frame_answer opening ticket b)
answer opening b (ask.Excise k) =
    answer_unless ((not (has_event k b), refused.NoEvent) ∷ [])
    (becomes (excised opening k b) (Excised (fallen_places opening k b)))
answer opening b ask.Restore = option_map_or (λ f. becomes (restored b f) (Restored f.cursor)) b.former (refuses refused.NothingExcised)
answer opening b ask.Log = says (Logged b.name b.events b.cursor)
