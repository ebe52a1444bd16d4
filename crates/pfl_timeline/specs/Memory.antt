-- Where a command may want memory: only where something has to be made, and after all that it could be refused for (this project's
-- profile).
use Rattle.std.specs.Prelude.{Bool, true, false, IsTrue, IsFalse}
use Rattle.pfl_language.specs.declared.ask.Ask.{Ask}
use Rattle.pfl_language.specs.declared.ask.Ask.TheVariants as ask
use Rattle.pfl_language.specs.declared.command.Command.{Command}
use Rattle.pfl_language.specs.declared.command.Command.TheVariants as command
use Rattle.pfl_timeline.specs.Commands.{command_step}
use Rattle.pfl_timeline.specs.Replies.{Reply, Replied, Refused as Refusing}
use Rattle.pfl_timeline.specs.Timelines.{Timeline}

-- the reply says why the command is refused
abbrev pub is_refusal : Reply → Bool
is_refusal (Refusing why) = true
is_refusal _ = false

-- the command is not refused
abbrev pub IsAccepted : Replied → Type 0
IsAccepted done = IsFalse (is_refusal done.reply)

-- what is asked makes something: a step and a way forward make changes, a show a copy of a world, at another place too, an explanation
-- what it says, a frame's trace a copy of the frame, a log a list, and an excision a branch beside the one that it takes the place of;
-- a way back and a restoration make nothing
abbrev pub makes : Ask → Bool
makes (ask.Back n) = false
makes ask.Restore = false
makes _ = true

-- the command makes something: a fork a branch, and the names a list; a drop makes nothing
abbrev pub makes_something : Command → Bool
makes_something (command.On name q) = makes q
makes_something (command.Fork from k name) = true
makes_something (command.Drop name) = false
makes_something command.Names = true

-- the command makes something, and nothing refuses it
pub record MayWantMemory (t : Timeline) (c : Command) : Type 0 where
  pub makes : IsTrue (makes_something c)
  pub not_refused : IsAccepted (command_step t c)
