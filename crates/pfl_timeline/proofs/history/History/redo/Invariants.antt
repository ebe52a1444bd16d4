use Rattle.std.specs.Prelude.{◌≡◌, ◌+◌}
use Rattle.pfl_timeline.specs.inner.Histories.{standing_at}
use Rattle.pfl_timeline.proofs.history.History.redo.Given as goal

-- as many happened again as were counted
abbrev pub invariant-loop : goal.invariant-loop
invariant-loop g l = l.self ≡ standing_at l.fn.self (l.fn.self.cursor + l.counter)
