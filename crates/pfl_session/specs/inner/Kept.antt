-- Entries as they are kept: what each stands for.
use Rattle.std.specs.Prelude.{ℕ, List, Some, None}
use Rattle.pfl_language.specs.declared.ask.Ask.{Ask}
use Rattle.pfl_language.specs.declared.ask.Ask.TheVariants as ask
use Rattle.pfl_language.specs.declared.command.Command.{Command}
use Rattle.pfl_language.specs.declared.command.Command.TheVariants as command
use Rattle.pfl_language.specs.declared.event.Event.{Event}
use Rattle.pfl_language.specs.declared.event.Event.TheVariants as event
use Rattle.pfl_language.specs.declared.event.FrameEvent.TheVariants as of_frame
use Rattle.pfl_language.specs.declared.fate.Fate.TheVariants as fate
use Rattle.pfl_language.specs.declared.node_event.NodeEvent.TheVariants as at_node
use Rattle.pfl_language.specs.declared.node_event.NodeOutcome.TheVariants as node_gives
use Rattle.pfl_language.specs.declared.outcome.Outcome.{Outcome}
use Rattle.pfl_language.specs.declared.outcome.Outcome.TheVariants as outcome
use Rattle.pfl_timeline.specs.declared.reply.Reply.{Reply}
use Rattle.pfl_timeline.specs.declared.reply.Reply.TheVariants as given
use Rattle.pfl_session.specs.declared.entry.Entry.{Entry}
use Rattle.pfl_session.specs.declared.kept.form.Form.{Form}
use Rattle.pfl_session.specs.declared.kept.form.Form.TheVariants.{Step, WhyStep, Plain, Whole}
use Rattle.pfl_session.specs.declared.kept.command.Asked.{Asked}
use Rattle.pfl_session.specs.declared.kept.command.Asked.TheVariants as asked
use Rattle.pfl_session.specs.declared.kept.command.KeptAsk.{KeptAsk}
use Rattle.pfl_session.specs.declared.kept.command.KeptAsk.TheVariants as kept_ask
use Rattle.pfl_session.specs.declared.kept.command.KeptCommand.{KeptCommand}
use Rattle.pfl_session.specs.declared.kept.command.KeptCommand.TheVariants as kept_command
use Rattle.pfl_session.specs.declared.kept.event.JournalEvent.{JournalEvent}
use Rattle.pfl_session.specs.declared.kept.event.JournalEvent.TheVariants as kept_event
use Rattle.pfl_session.specs.declared.kept.outcome.KeptOutcome.{KeptOutcome}
use Rattle.pfl_session.specs.declared.kept.outcome.KeptOutcome.TheVariants as kept_outcome
use Rattle.pfl_session.specs.declared.kept.reply.KeptReply.{KeptReply}
use Rattle.pfl_session.specs.declared.kept.reply.KeptReply.TheVariants as kept_reply

-- the event
abbrev pub event_in : JournalEvent → Event
event_in (kept_event.Packet node dir packet) = event.At node (at_node.Packet dir packet)
event_in (kept_event.Tick node ms) = event.At node (at_node.Tick ms)
event_in (kept_event.Purge node) = event.At node at_node.Purge
event_in (kept_event.Release node) = event.At node at_node.Release
event_in (kept_event.Kill node name) = event.At node (at_node.Kill name)
event_in (kept_event.Clear node) = event.At node at_node.Clear
event_in (kept_event.BulkTurn node) = event.At node at_node.BulkTurn
event_in (kept_event.BulkRetry node) = event.At node at_node.BulkRetry
event_in (kept_event.Flush node) = event.Flush node
event_in (kept_event.Deliver ticket) = event.Of ticket of_frame.Deliver
event_in (kept_event.Lose ticket) = event.Of ticket of_frame.Lose
event_in (kept_event.Repeat ticket) = event.Of ticket of_frame.Repeat
event_in (kept_event.Cut ticket len) = event.Of ticket (of_frame.Cut len)
event_in (kept_event.Restart node) = event.Restart node

-- what is asked
abbrev pub ask_in : KeptAsk → Ask
ask_in (kept_ask.Back n) = ask.Back n
ask_in (kept_ask.Forward n) = ask.Forward n
ask_in kept_ask.Show = ask.Show
ask_in (kept_ask.Past k) = ask.Past k
ask_in (kept_ask.Why k) = ask.Why k
ask_in (kept_ask.Frame ticket) = ask.Frame ticket
ask_in (kept_ask.Excise k) = ask.Excise k
ask_in kept_ask.Restore = ask.Restore
ask_in kept_ask.Log = ask.Log

-- the command of the branch of the name
abbrev pub command_in : List ℕ → KeptCommand → Command
command_in name (kept_command.On q) = command.On name (ask_in q)
command_in name (kept_command.Fork k new) = command.Fork name k new
command_in name kept_command.Drop = command.Drop name
command_in name kept_command.Names = command.Names

-- the command
abbrev pub asked_in : Asked → Command
asked_in (asked.Step name e) = command.On name (ask.Step (event_in e))
asked_in (asked.WhyStep name e) = command.On name (ask.WhyStep (event_in e))
asked_in (asked.Plain name c) = command_in name c

-- the outcome
abbrev pub outcome_in : KeptOutcome → Outcome
outcome_in kept_outcome.Free = outcome.At (node_gives.Handled (fate.Pass None))
outcome_in (kept_outcome.Dropped reason) = outcome.At (node_gives.Handled (fate.Dropped reason))
outcome_in (kept_outcome.Clock ms) = outcome.At (node_gives.Clock ms)
outcome_in (kept_outcome.Purged n) = outcome.At (node_gives.Purged n)
outcome_in (kept_outcome.Released n) = outcome.At (node_gives.Released n)
outcome_in kept_outcome.Killed = outcome.At node_gives.Killed
outcome_in (kept_outcome.Cleared n) = outcome.At (node_gives.Cleared n)
outcome_in (kept_outcome.Queued n) = outcome.At (node_gives.Queued n)
outcome_in (kept_outcome.Tried retried) = outcome.At (node_gives.Tried retried)
outcome_in (kept_outcome.Sent ticket len) = outcome.Sent ticket len
outcome_in (kept_outcome.Taken records) = outcome.Taken records
outcome_in (kept_outcome.Broken fault) = outcome.Broken fault
outcome_in kept_outcome.Lost = outcome.Lost
outcome_in (kept_outcome.CutTo len) = outcome.CutTo len
outcome_in (kept_outcome.Boot boot) = outcome.Boot boot

-- the reply
abbrev pub reply_in : {M : Type 0} → KeptReply M → Reply M
reply_in (kept_reply.Passed dropped state) = given.Stepped (outcome.At (node_gives.Handled (fate.Pass (Some state)))) dropped
reply_in (kept_reply.Held dropped state) = given.Stepped (outcome.At (node_gives.Handled (fate.Held state))) dropped
reply_in (kept_reply.Stepped dropped came) = given.Stepped (outcome_in came) dropped
reply_in (kept_reply.At cursor) = given.At cursor
reply_in kept_reply.Forked = given.Forked
reply_in kept_reply.Removed = given.Removed
reply_in (kept_reply.Names names) = given.Names names
reply_in (kept_reply.Excised places) = given.Excised places
reply_in (kept_reply.Restored cursor) = given.Restored cursor
reply_in (kept_reply.Explained boxed) = given.Explained boxed
reply_in (kept_reply.Traced boxed) = given.Traced boxed
reply_in (kept_reply.Refused why) = given.Refused why

-- the entry
abbrev pub entry_in : {M : Type 0} → Form M → Entry M
entry_in (Step name session e r) = record { session = session; command = command.On name (ask.Step (event_in e)); reply = reply_in r }
entry_in (WhyStep name session e r) = record { session = session; command = command.On name (ask.WhyStep (event_in e)); reply = reply_in r }
entry_in (Plain name session c r) = record { session = session; command = command_in name c; reply = reply_in r }
entry_in (Whole boxed) = boxed.value
