-- The numbers of faults, and the refusals of their events. This project's profile.
use Rattle.std.specs.Prelude.{ℕ}
use Rattle.pfl_base.specs.declared.refusal.Refusal.{Refusal}
use Rattle.pfl_base.specs.declared.refusal.Refusal.TheVariants as refusal
use Rattle.pfl_queue.specs.declared.QueueFault.{QueueFault}
use Rattle.pfl_queue.specs.declared.QueueFault.TheVariants.{QueueFull, CountFull}

-- the first of these that applies is reported
abbrev pub fault_number : QueueFault → ℕ
fault_number QueueFull = 1
fault_number CountFull = 2

-- the refusal of the event that meets the fault
abbrev pub refusal_of : QueueFault → Refusal
refusal_of QueueFull = refusal.QueueFull
refusal_of CountFull = refusal.CountFull
