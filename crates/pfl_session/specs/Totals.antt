-- The counts of a revision, added up over branches, and how many events there may be (this project's profile).
use Rattle.std.specs.Prelude.{◌≤◌, ℕ, ◌+◌, List, length, IfSome}
use Rattle.std.specs.List.{fold, AllByRecursion}
use Rattle.std.specs.Option.{option_map_or}
use Rattle.pfl_edits.specs.Maps as maps
use Rattle.pfl_timeline.specs.queue.Queues.{pending}
use Rattle.pfl_timeline.specs.world.Worlds.{World}
use Rattle.pfl_timeline.specs.Rooted.{Rooted, shown}
use Rattle.pfl_timeline.specs.Timelines.{Branch, Timeline}
use Rattle.pfl_session.specs.declared.counts.Counts.{Counts}

-- nothing is counted
abbrev pub no_counts : Counts
no_counts = record { events = 0; cursors = 0; states_a = 0; states_b = 0; frames = 0; pending = 0 }

-- what is counted in the world that a branch shows
abbrev pub in_world : (World → ℕ) → Rooted → ℕ
in_world count r = option_map_or count (shown r) 0

-- the counts of one branch
abbrev pub counts_of_branch : Rooted → Counts
counts_of_branch r = record {
  events = length r.branch.events;
  cursors = r.branch.cursor;
  states_a = in_world (λ w. maps.len w.a.states) r;
  states_b = in_world (λ w. maps.len w.b.states) r;
  frames = in_world (λ w. maps.len w.link.frames) r;
  pending = in_world (λ w. pending w.a.queue + pending w.b.queue) r;
}

-- both added up
abbrev pub added : Counts → Counts → Counts
added c d = record {
  events = c.events + d.events;
  cursors = c.cursors + d.cursors;
  states_a = c.states_a + d.states_a;
  states_b = c.states_b + d.states_b;
  frames = c.frames + d.frames;
  pending = c.pending + d.pending;
}

-- the counts of branches, added up
abbrev pub counts_of_branches : List Rooted → Counts
counts_of_branches rs = fold (λ c r. added c (counts_of_branch r)) no_counts rs

-- no count is greater than n
pub record AreAtMost (n : ℕ) (c : Counts) : Type 0 where
  pub events : c.events ≤ n
  pub cursors : c.cursors ≤ n
  pub states_a : c.states_a ≤ n
  pub states_b : c.states_b ≤ n
  pub frames : c.frames ≤ n
  pub pending : c.pending ≤ n

-- the branch has at most n events
abbrev pub HasAtMost : ℕ → Rooted → Type 0
HasAtMost n r = length r.branch.events ≤ n

-- the branch has at most n events, and at most n can be brought back
abbrev pub HasFew : ℕ → Branch → Type 0
HasFew n b = (length b.events ≤ n) × IfSome b.former (λ f. length f.events ≤ n)

-- no branch has more than n events, nor can more be brought back
abbrev pub HasFewEvents : ℕ → Timeline → Type 0
HasFewEvents n t = AllByRecursion (HasFew n) t.branches
