-- What would become of packets (this project's profile).
use Rattle.std.specs.Prelude.{Bool, true, false, Option, Some, None, Result, Ok, Err}
use Rattle.pfl_base.specs.declared.refusal.Refusal.{Refusal}
use Rattle.pfl_language.specs.declared.fate.Fate.{Fate}
use Rattle.pfl_language.specs.declared.fate.Fate.TheVariants as fate
use Rattle.pfl_language.specs.declared.node_event.NodeOutcome.{NodeOutcome}
use Rattle.pfl_language.specs.declared.node_event.NodeOutcome.TheVariants as given
use Rattle.pfl_language.specs.declared.outcome.Outcome.{Outcome}
use Rattle.pfl_language.specs.declared.outcome.Outcome.TheVariants as outcome
use Rattle.pfl_world.specs.Meanings.{Stepped}

-- what became of a packet that came to a node
abbrev pub fate_at : NodeOutcome → Option Fate
fate_at (given.Handled f) = Some f
fate_at other = None

-- what became of a packet that came to the pair
abbrev pub fate_in : Outcome → Option Fate
fate_in (outcome.At o) = fate_at o
fate_in other = None

-- what becomes of the packet that the event brings: nothing, where the event is refused or brings none
abbrev pub fate_after : Result Stepped Refusal → Option Fate
fate_after (Ok s) = fate_in s.outcome
fate_after (Err why) = None

-- it goes on at once
abbrev pub passes : Fate → Bool
passes (fate.Pass by) = true
passes other = false

-- it is dropped
abbrev pub drops : Fate → Bool
drops (fate.Dropped why) = true
drops other = false

-- it goes on, or is held, and so is not dropped
abbrev pub admits : Fate → Bool
admits (fate.Pass by) = true
admits (fate.Held name) = true
admits (fate.Dropped why) = false

-- a packet goes on at once
abbrev pub is_passed : Option Fate → Bool
is_passed None = false
is_passed (Some f) = passes f

-- a packet is dropped
abbrev pub is_dropped : Option Fate → Bool
is_dropped None = false
is_dropped (Some f) = drops f

-- a packet goes on, or is held
abbrev pub is_admitted : Option Fate → Bool
is_admitted None = false
is_admitted (Some f) = admits f
