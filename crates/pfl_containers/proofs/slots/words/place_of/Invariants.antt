use Rattle.std.proofs.Common.{ℕ, ◌≤◌, ◌-◌, length}
use Rattle.pfl_containers.specs.inner.SlotWords.{StandsAt}
use Rattle.pfl_containers.proofs.slots.words.place_of.Given as goal

-- it is not past the entry
abbrev pub invariant-loop-place : goal.invariant-loop-place
invariant-loop-place l = (place tag : ℕ) → l.home ≤ place → StandsAt l.words tag l.slot place → l.place ≤ place

abbrev pub decreases-loop-place : goal.decreases-loop-place
decreases-loop-place l = length l.words - l.place
