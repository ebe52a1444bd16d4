use Rattle.std.specs.Prelude.{◌≡◌, ◌+◌, ◌++◌, ◌-◌, ◌≤◌, drop, length}
use Rattle.pfl_search.proofs.Visiting.{first_among, tally_among}
use Rattle.pfl_search.specs.Choices.{stage, turns}
use Rattle.pfl_search.specs.Runs.{first_run_after}
use Rattle.pfl_search.specs.Visits.{asking, at_end, each, in_turn, tally_after}
use Rattle.pfl_search.proofs.runs.+search_from.Given as goal

abbrev pub decreases-search_from : goal.decreases-search_from
decreases-search_from g l = l.depth

-- all is as it was, the turns of this world stand after the others, and the first run that leads to the goal begins with one of those
-- that are left, if there is one
abbrev pub invariant-loop-index : goal.invariant-loop-index
invariant-loop-index g l = record {
  world : l.world ≡ l.fn.world;
  tape : l.tape.list ≡ l.fn.tape.list;
  turns : l.turns.items ≡ l.fn.turns.items ++ in_turn l.fn.before l.fn.begun l.fn.world (turns (stage l.fn.choices l.fn.begun) l.fn.world);
  end : l.index-end ≡ length l.turns.items;
  choices : l.choices ≡ l.fn.choices;
  rest : first_among l.goal (l.depth - 1) (stage l.fn.choices l.fn.begun) l.fn.world (drop l.index l.turns.items)
      ≡ first_run_after l.fn.before l.goal l.depth (stage l.fn.choices l.fn.begun) l.fn.world;
  left : l.tally.left + tally_after each l.fn.before l.goal l.depth (stage l.fn.choices l.fn.begun) l.fn.world
      ≡ l.fn.tally.left + tally_among l.goal each (l.depth - 1) (stage l.fn.choices l.fn.begun) l.fn.world (drop l.index l.turns.items);
  asked : l.tally.asked + tally_among l.goal (asking l.goal) (l.depth - 1) (stage l.fn.choices l.fn.begun) l.fn.world (drop l.index l.turns.items)
      ≡ l.fn.tally.asked + tally_after (asking l.goal) l.fn.before l.goal l.depth (stage l.fn.choices l.fn.begun) l.fn.world;
  at_end : l.tally.at_end + tally_among l.goal at_end (l.depth - 1) (stage l.fn.choices l.fn.begun) l.fn.world (drop l.index l.turns.items)
      ≡ l.fn.tally.at_end + tally_after at_end l.fn.before l.goal l.depth (stage l.fn.choices l.fn.begun) l.fn.world;
  asked_room : l.tally.asked + l.tally.left ≤ 18446744073709551615;
  at_end_room : l.tally.at_end + l.tally.left ≤ 18446744073709551615;
}
