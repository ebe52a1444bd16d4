-- Why nothing is seen of a branch at a place (this project's profile).
use Rattle.std.specs.Prelude.{◌≡◌}
use Rattle.pfl_timeline.specs.declared.look.NotSeen.{NotSeen}
use Rattle.pfl_timeline.specs.declared.look.NotSeen.TheVariants as not_seen
use Rattle.pfl_timeline.specs.Commands.{replied}
use Rattle.pfl_timeline.specs.Memory.{IsAccepted}
use Rattle.pfl_timeline.specs.Replies.{Replied, Refused as Refusing}
use Rattle.pfl_timeline.specs.Timelines.{Timeline}

-- the command is refused for this reason, or it is not refused and memory is wanting
abbrev pub IsNotSeen : Timeline → Replied → NotSeen → Type 0
IsNotSeen t done (not_seen.Refused why) = done ≡ replied t (Refusing why)
IsNotSeen t done not_seen.NoMemory = IsAccepted done
