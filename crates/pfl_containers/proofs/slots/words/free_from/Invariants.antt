use Rattle.std.proofs.Common.{ℕ, ◌≤◌, ◌<◌, ◌≢◌, None}
use Rattle.pfl_containers.specs.inner.SlotWords.{entry_at}
use Rattle.pfl_containers.proofs.slots.words.free_from.Given as goal

abbrev pub invariant-loop-place : goal.invariant-loop-place
invariant-loop-place l = (i : ℕ) → l.home ≤ i → i < l.place → entry_at l.words i ≢ None
