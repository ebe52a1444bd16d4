-- The commands over a timeline: the timeline after each, and the reply. A refused command changes nothing (this project's profile).
use Rattle.std.specs.Prelude.{ℕ, Bool, not, nat_lt, nat_le, List, [], ◌∷◌, ◌++◌, length, map, filter, take, Option, None, Some, is_some, if◌then◌else◌}
use Rattle.std.specs.List.{fold}
use Rattle.std.specs.Option.{option_map_or}
use Rattle.pfl_language.specs.declared.event.Event.{Event}
use Rattle.pfl_language.specs.declared.ask.Ask.{Ask}
use Rattle.pfl_language.specs.declared.ask.Ask.TheVariants as ask
use Rattle.pfl_language.specs.declared.command.Command.{Command}
use Rattle.pfl_language.specs.declared.command.Command.TheVariants as command
use Rattle.pfl_language.specs.declared.refused.Refused.{Refused}
use Rattle.pfl_language.specs.declared.refused.Refused.TheVariants as refused
use Rattle.pfl_language.specs.BranchWords.{same_name, is_branch_name}
use Rattle.pfl_search.specs.world.desk.Nodes.{refused_by}
use Rattle.pfl_timeline.specs.Answers.{Answer, answer}
use Rattle.pfl_timeline.specs.Replies.{Reply, Forked, Removed, Names, Refused as Refusing, Replied}
use Rattle.pfl_timeline.specs.Timelines.{Branch, Timeline, branch_of}

-- the timeline with a reply
abbrev pub replied : Timeline → Reply → Replied
replied t reply = record { timeline = t; reply = reply }

-- the refusal, or else what was done
abbrev pub reply_unless : Timeline → Option Refused → Replied → Replied
reply_unless t None done = done
reply_unless t (Some r) done = replied t (Refusing r)

-- what is done with the branch of the name
abbrev pub with_branch : Timeline → List ℕ → (Branch → Replied) → Replied
with_branch t name done = option_map_or done (branch_of t name) (replied t (Refusing refused.NoBranch))

-- the branch in place of the one of its name
abbrev pub with_changed : Timeline → Branch → Timeline
with_changed t b = record t { branches = map (λ c. if same_name c.name b.name then b else c) t.branches }

-- the branch as it answers, in its place, and the reply
abbrev pub in_place : Timeline → Answer → Replied
in_place t a = replied (option_map_or (with_changed t) a.changed t) a.reply

-- the first k events under a new name
abbrev pub first_events : ℕ → List ℕ → Branch → Branch
first_events k name b = record { name = name; events = take k b.events; cursor = k; former = None }

-- why no branch of the first k events is made under this name, if there is a reason: the first one
abbrev pub fork_refusal : Timeline → ℕ → List ℕ → Branch → Option Refused
fork_refusal t k name b =
    refused_by (
    (is_some (branch_of t name), refused.NameTaken) ∷ (not (is_branch_name name), refused.BadName)
    ∷ (nat_lt (length b.events) k, refused.NothingForward) ∷ (nat_le 16 (length t.branches), refused.BranchesFull) ∷ [])

-- the branch of the first k events, after all branches
abbrev pub fork_reply : Timeline → ℕ → List ℕ → Branch → Replied
fork_reply t k name b = reply_unless t (fork_refusal t k name b) (replied (record t { branches = t.branches ++ first_events k name b ∷ [] }) Forked)

-- the branch removed
abbrev pub drop_reply : Timeline → Branch → Replied
drop_reply t b =
    reply_unless t (refused_by ((nat_le (length t.branches) 1, refused.LastBranch) ∷ []))
    (replied (record t { branches = filter (λ c. not (same_name c.name b.name)) t.branches }) Removed)

-- a command over the timeline
unfoldable pub command_step : Timeline → Command → Replied
command_step t (command.On name q) = with_branch t name (λ b. in_place t (answer t.opening b q))
command_step t (command.Fork from k name) = with_branch t from (fork_reply t k name)
command_step t (command.Drop name) = with_branch t name (drop_reply t)
command_step t command.Names = replied t (Names (map (λ b. b.name) t.branches))

-- the timeline after commands
unfoldable pub replayed : Timeline → List Command → Timeline
replayed t cs = fold (λ at c. (command_step at c).timeline) t cs

-- ---- what is asked of a branch, by name

-- an event after those that stand
abbrev pub step_command : Timeline → List ℕ → Event → Replied
step_command t name e = command_step t (command.On name (ask.Step e))

-- the last n events undone
abbrev pub back_command : Timeline → List ℕ → ℕ → Replied
back_command t name n = command_step t (command.On name (ask.Back n))

-- the world of a branch
abbrev pub show_command : Timeline → List ℕ → Replied
show_command t name = command_step t (command.On name ask.Show)

-- the world of a branch at another place
abbrev pub past_command : Timeline → List ℕ → ℕ → Replied
past_command t name k = command_step t (command.On name (ask.Past k))

-- an event of a branch explained
abbrev pub why_command : Timeline → List ℕ → ℕ → Replied
why_command t name k = command_step t (command.On name (ask.Why k))

-- an event explained that has not happened
abbrev pub why_step_command : Timeline → List ℕ → Event → Replied
why_step_command t name e = command_step t (command.On name (ask.WhyStep e))

-- the events of a branch
abbrev pub log_command : Timeline → List ℕ → Replied
log_command t name = command_step t (command.On name ask.Log)
