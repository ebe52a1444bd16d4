-- All worlds that ordered runs of choices lead to, in the order of the search (this project's profile).
use Rattle.std.specs.Prelude.{ℕ, zero, suc, ◌+◌, Bool, true, cond, ◌||◌, nat_eq, List, [], ◌∷◌, map, filter, find, if◌then◌else◌, is_some, Option, Some, None, Result, Ok, Err}
use Rattle.std.specs.List.{flat_map}
use Rattle.pfl_base.specs.declared.refusal.Refusal.{Refusal}
use Rattle.pfl_language.specs.declared.event.Event.{Event}
use Rattle.pfl_world.specs.Events.{step}
use Rattle.pfl_world.specs.Meanings.{Stepped}
use Rattle.pfl_world.specs.Worlds.{World}
use Rattle.pfl_search.specs.Choices.{Stage, start, taken, turns}
use Rattle.pfl_search.specs.Goals.{is_asked, meets}
use Rattle.pfl_search.specs.Orders.{in_phase, is_in_turn, last_of}
use Rattle.pfl_language.specs.declared.choice.Choice.{Choice}
use Rattle.pfl_search.specs.declared.order.Last.{Last}
use Rattle.pfl_language.specs.declared.goal.Goal.{Goal}
use Rattle.pfl_search.specs.declared.turns.Candidate.{Candidate}

-- a world, the run that leads to it, and how many events more there might have been
pub record Visit : Type 0 where
  pub run : List Event
  pub world : World
  pub more : ℕ

-- the world itself, to which the run of no events leads
abbrev pub here : ℕ → World → Visit
here depth w = record { run = []; world = w; more = depth }

-- the visit, after an event
abbrev pub after : Event → Visit → Visit
after e v = record { run = e ∷ v.run; world = v.world; more = v.more }

-- what is visited after an event: nothing, if it is refused
abbrev pub onward : Event → (World → List Visit) → Result Stepped Refusal → List Visit
onward e later (Ok s) = map (after e) (later s.world)
onward e later (Err why) = []

-- those turns whose events are in turn after the last event, or of another phase than it
abbrev pub in_turn : Option Last → ℕ → World → List Candidate → List Candidate
in_turn last begun w ts = filter (λ t. is_in_turn (in_phase last begun t.phase) w t.event) ts

-- The worlds to which ordered runs of at most `depth` events lead after the last event: the world itself, and then those after each
-- event that is in turn, turn after turn.
unfoldable pub visits : Option Last → ℕ → Stage → World → List Visit
visits last zero st w = here 0 w ∷ []
visits last (suc depth) st w =
    here (suc depth) w
    ∷ flat_map (λ t. onward t.event (λ v. visits (Some (last_of w t.event)) depth (taken st t.place t.phase) v) (step w t.event))
    (in_turn last st.phase w (turns st w))

-- the first of them that meets the goal
abbrev pub first_visit_after : Option Last → Goal → ℕ → Stage → World → Option Visit
first_visit_after last goal depth st w = find (λ v. meets goal v.world) (visits last depth st w)

-- the same where no event came before
abbrev pub first_visit : Goal → ℕ → List Choice → World → Option Visit
first_visit goal depth cs w = first_visit_after None goal depth (start cs) w

-- ---- what is counted

-- one, if it is so
abbrev pub one_if : Bool → ℕ
one_if b = cond b 1 0

-- how many of a list are of a kind, up to the first one that passes a test
abbrev pub tally : {X : Type 0} → (X → Bool) → (X → Bool) → List X → ℕ
tally kind p [] = 0
tally kind p (x ∷ xs) = one_if (kind x) + cond (p x) 0 (tally kind p xs)

-- a kind of world, of which it may be said how many events more there might have been
abbrev pub Kind : Type 0
Kind = World → ℕ → Bool

-- how many worlds of a kind are visited after the last event until one meets the goal
abbrev pub tally_after : Kind → Option Last → Goal → ℕ → Stage → World → ℕ
tally_after kind last goal depth st w = tally (λ v. kind v.world v.more) (λ v. meets goal v.world) (visits last depth st w)

-- each world
abbrev pub each : Kind
each w more = true

-- a world in which the question is asked
abbrev pub asking : Goal → Kind
asking goal w more = is_asked goal.scope w

-- a world that a run leads to which has as many events as there may be
abbrev pub at_end : Kind
at_end w more = nat_eq more 0

-- the same where no event came before
abbrev pub tally_of : Kind → Goal → ℕ → List Choice → World → ℕ
tally_of kind goal depth cs w = tally_after kind None goal depth (start cs) w

-- how many worlds are visited until one meets the goal
abbrev pub worlds_visited : Goal → ℕ → List Choice → World → ℕ
worlds_visited goal depth cs w = tally_of each goal depth cs w

-- in how many of them the question is asked
abbrev pub worlds_asked : Goal → ℕ → List Choice → World → ℕ
worlds_asked goal depth cs w = tally_of (asking goal) goal depth cs w

-- none of them is one that a run of `depth` events leads to
abbrev pub is_ended : Goal → ℕ → List Choice → World → Bool
is_ended goal depth cs w = nat_eq (tally_of at_end goal depth cs w) 0

-- how many worlds of a kind are visited by searches of this depth and of each that is deeper by up to `more`, until one finds a run,
-- or visits no world that a run of as many events leads to as it allows
unfoldable pub tally_deeper : Kind → Goal → ℕ → ℕ → List Choice → World → ℕ
tally_deeper kind goal zero depth cs w = tally_of kind goal depth cs w
tally_deeper kind goal (suc more) depth cs w =
    tally_of kind goal depth cs w
    + (if is_some (first_visit goal depth cs w) || is_ended goal depth cs w then 0 else tally_deeper kind goal more (depth + 1) cs w)

-- how many worlds are visited by searches of each depth from 0 on
abbrev pub visited_to_shortest : Goal → ℕ → List Choice → World → ℕ
visited_to_shortest goal depth cs w = tally_deeper each goal depth 0 cs w

-- in how many of these visits the question is asked
abbrev pub asked_to_shortest : Goal → ℕ → List Choice → World → ℕ
asked_to_shortest goal depth cs w = tally_deeper (asking goal) goal depth 0 cs w
