-- How much room the copy of a reply wants (this project's profile).
use Rattle.std.specs.Prelude.{ℕ, Bool, true, false, List, [], length, if◌then◌else◌}
use Rattle.std.specs.Option.{option_map_or}
use Rattle.pfl_language.specs.declared.ask.Ask.{Ask}
use Rattle.pfl_language.specs.declared.ask.Ask.TheVariants as ask
use Rattle.pfl_language.specs.declared.command.Command.{Command}
use Rattle.pfl_language.specs.declared.command.Command.TheVariants as command
use Rattle.pfl_timeline.specs.Replies.{Reply, Excised}
use Rattle.pfl_timeline.specs.Timelines.{Timeline, branch_of}

-- the places that the reply lists
abbrev pub places_in : Reply → List ℕ
places_in (Excised places) = places
places_in _ = []

-- what is asked takes an event out
abbrev pub takes_out : Ask → Bool
takes_out (ask.Excise k) = true
takes_out _ = false

-- the most places that the reply to the command lists: as many as the branch has events
abbrev pub most_places : Timeline → Command → ℕ
most_places t (command.On name q) = if takes_out q then option_map_or (λ b. length b.events) (branch_of t name) 0 else 0
most_places t _ = 0
