use Rattle.std.proofs.Common.{◌≤◌, ◌+◌, length}
use Rattle.std.specs.Option.{option_map, option_map_or}
use Rattle.pfl_lines.specs.inner.Parts.{parts_behind}
use Rattle.pfl_lines.proofs.Searched.{AreLeft}
use Rattle.pfl_lines.proofs.search.choices_of.Given as goal

abbrev pub invariant-loop-rest : goal.invariant-loop-rest
invariant-loop-rest l = record {
  are : AreLeft (parts_behind (option_map (λ x. x.now) l.behind)) (parts_behind (option_map (λ x. x.now) l.rest)) l.choices.items l.phase;
  begun : l.phase ≤ 15;
}

abbrev pub decreases-loop-rest : goal.decreases-loop-rest
decreases-loop-rest l = option_map_or (λ x. length x.now + 1) l.rest 0
