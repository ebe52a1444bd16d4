-- The text of outcomes and refusals (this project's profile).
use Rattle.std.specs.Prelude.{ℕ, List, ◌++◌, Option, Some, None, codes}
use Rattle.std.specs.Fmt.{decimal}
use Rattle.pfl_base.specs.Refusals.{refusal_number}
use Rattle.pfl_base.specs.Texts.{name_text, refusal_text}
use Rattle.pfl_wire.specs.Faults.{frame_fault, fault_number as frame_fault_number}
use Rattle.pfl_language.specs.declared.node_event.NodeOutcome.{NodeOutcome}
use Rattle.pfl_language.specs.declared.node_event.NodeOutcome.TheVariants as given
use Rattle.pfl_language.specs.declared.fate.Fate.{Fate}
use Rattle.pfl_language.specs.declared.fate.Fate.TheVariants as fate
use Rattle.pfl_language.specs.declared.fate.Reason.{Reason}
use Rattle.pfl_language.specs.declared.retried.Retried.TheVariants as retried
use Rattle.pfl_language.specs.declared.fate.Reason.TheVariants.{Block, Max, Full, Key, Window}
use Rattle.pfl_language.specs.declared.outcome.Outcome.{Outcome}
use Rattle.pfl_language.specs.declared.outcome.Outcome.TheVariants.{At, Sent, Taken, Broken, Lost, CutTo, Boot}
use Rattle.pfl_language.specs.declared.refused.Refused.{Refused}
use Rattle.pfl_language.specs.declared.refused.Refused.TheVariants as refused
use Rattle.pfl_lines.specs.declared.fault.LineFault.{LineFault}
use Rattle.pfl_lines.specs.declared.fault.LineFault.TheVariants.{Long, NotAscii, Unknown, Missing, Number, Extra, Packet}

-- a value that may be none, which prints as a dash
abbrev pub or_dash : {X : Type 0} → (X → List ℕ) → Option X → List ℕ
or_dash text None = codes "-"
or_dash text (Some x) = text x

-- the line for a faulty line: the number and the word of its fault
abbrev pub bad_text : LineFault → List ℕ
bad_text Long = codes "bad 1 Long\n"
bad_text NotAscii = codes "bad 2 NotAscii\n"
bad_text Unknown = codes "bad 3 Unknown\n"
bad_text Missing = codes "bad 4 Missing\n"
bad_text Number = codes "bad 5 Number\n"
bad_text Extra = codes "bad 6 Extra\n"
bad_text (Packet why) = codes "bad 7 Packet\n"

-- why a packet is dropped
abbrev pub reason_text : Reason → List ℕ
reason_text Block = codes "block"
reason_text Max = codes "max"
reason_text Full = codes "full"
reason_text Key = codes "key"
reason_text Window = codes "window"

-- what became of a packet
abbrev pub fate_text : Fate → List ℕ
fate_text (fate.Pass name) = codes "pass " ++ or_dash name_text name
fate_text (fate.Held name) = codes "held " ++ name_text name
fate_text (fate.Dropped reason) = codes "drop " ++ reason_text reason

-- the words of what an event of a node gives
abbrev pub given_text : NodeOutcome → List ℕ
given_text (given.Handled f) = fate_text f
given_text (given.Clock ms) = codes "clock " ++ decimal ms
given_text (given.Purged n) = codes "purged " ++ decimal n
given_text (given.Released n) = codes "released " ++ decimal n
given_text given.Killed = codes "killed"
given_text (given.Cleared n) = codes "cleared " ++ decimal n
given_text (given.Queued n) = codes "queued " ++ decimal n
given_text (given.Tried (retried.Asked tries)) = codes "asked " ++ decimal tries
given_text (given.Tried retried.Served) = codes "served"

-- the words of an outcome
abbrev pub outcome_text : Outcome → List ℕ
outcome_text (At o) = given_text o
outcome_text (Sent ticket len) = codes "sent " ++ decimal ticket ++ codes " " ++ decimal len
outcome_text (Taken n) = codes "taken " ++ decimal n
outcome_text (Broken why) = codes "broken " ++ decimal (frame_fault_number (frame_fault why))
outcome_text Lost = codes "lost"
outcome_text (CutTo n) = codes "cut " ++ decimal n
outcome_text (Boot n) = codes "boot " ++ decimal n

-- the number and the word of a refused command, and for an event the refusal after them
abbrev pub refused_text : Refused → List ℕ
refused_text refused.NoBranch = codes "1 NoBranch"
refused_text refused.NameTaken = codes "2 NameTaken"
refused_text refused.BadName = codes "3 BadName"
refused_text refused.TooFarBack = codes "4 TooFarBack"
refused_text refused.NothingForward = codes "5 NothingForward"
refused_text refused.LastBranch = codes "6 LastBranch"
refused_text refused.BranchesFull = codes "7 BranchesFull"
refused_text (refused.Event r) = codes "8 Event " ++ decimal (refusal_number r) ++ codes " " ++ refusal_text r
refused_text refused.NoEvent = codes "9 NoEvent"
refused_text refused.NothingExcised = codes "10 NothingExcised"
refused_text refused.NoFrame = codes "11 NoFrame"
