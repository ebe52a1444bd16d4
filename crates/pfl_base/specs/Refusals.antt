-- The numbers of refusals.
use Rattle.std.specs.Prelude.{ℕ}
use Rattle.pfl_base.specs.declared.refusal.Refusal.{Refusal}
use Rattle.pfl_base.specs.declared.refusal.Refusal.TheVariants.{NoSuchFrame, NothingPending, NoSuchState, LinkFull, QueueFull, ClockFull, CountFull}
use Rattle.pfl_base.specs.declared.refusal.Refusal.TheVariants.{NotSyncing, TooEarly, NoMemory}

-- the lowest number that applies is reported, want of memory last but for a frame that could not be decoded (this project's profile)
abbrev pub refusal_number : Refusal → ℕ
refusal_number NoSuchFrame = 1
refusal_number NothingPending = 2
refusal_number NoSuchState = 3
refusal_number LinkFull = 4
refusal_number QueueFull = 5
refusal_number ClockFull = 6
refusal_number CountFull = 7
refusal_number NotSyncing = 8
refusal_number TooEarly = 9
refusal_number NoMemory = 10
