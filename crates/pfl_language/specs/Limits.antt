-- The limits of a node and of the link (this project's profile): their words, their ranges, and their values where nothing is said;
-- and which rules are the kernel's.
use Rattle.std.specs.Prelude.{◌≤◌, ℕ, ◌*◌, ◌/◌, false, not, ◌==◌, nat_lt, List, [], ◌∷◌, find, bytes_eq, codes, Option, Some, None, unwrap_or, if◌then◌else◌}
use Rattle.std.specs.List.{AllByRecursion, list_any}
use Rattle.pfl_base.specs.declared.kernel.Kernel.{Kernel}
use Rattle.pfl_base.specs.Kernels.{profile, rules_of_either}
use Rattle.pfl_base.specs.Numbers.{greatest}
use Rattle.pfl_rules.specs.declared.adaptive.Adaptive.{Adaptive}
use Rattle.pfl_language.specs.declared.limits.Limit.{Limit}
use Rattle.pfl_language.specs.declared.limits.Limit.TheVariants.{States, Queue, Frames, Mtu, Held, Defer, DeferMs, MaxUpdates, Batch, BulkMs}
use Rattle.pfl_language.specs.declared.limits.Limit.TheVariants.{AdaptiveStart, AdaptiveEnd}
use Rattle.pfl_language.specs.declared.limits.LimitFault.{LimitFault}
use Rattle.pfl_language.specs.declared.limits.LimitFault.TheVariants.{TooSmall, TooLarge}
use Rattle.pfl_language.specs.declared.limits.Limits.{Limits}

-- the word of a limit
abbrev pub limit_text : Limit → List ℕ
limit_text States = codes "states"
limit_text Queue = codes "queue"
limit_text Frames = codes "frames"
limit_text Mtu = codes "mtu"
limit_text Held = codes "held"
limit_text Defer = codes "defer"
limit_text DeferMs = codes "defer_ms"
limit_text MaxUpdates = codes "maxupd"
limit_text Batch = codes "batch"
limit_text BulkMs = codes "bulk_ms"
limit_text AdaptiveStart = codes "astart"
limit_text AdaptiveEnd = codes "aend"

-- all limits
abbrev pub all_limits : List Limit
all_limits = States ∷ Queue ∷ Frames ∷ Mtu ∷ Held ∷ Defer ∷ DeferMs ∷ MaxUpdates ∷ Batch ∷ BulkMs ∷ AdaptiveStart ∷ AdaptiveEnd ∷ []

-- the limit with the word, if there is one
abbrev pub limit_at_word : List ℕ → Option Limit
limit_at_word word = find (λ limit. bytes_eq (limit_text limit) word) all_limits

-- the least and the greatest value of a limit; `defer` is 0 or 1, for no and yes
abbrev pub range : Limit → ℕ × ℕ
range States = (1, 65536)
range Queue = (1, 65536)
range Frames = (1, 4096)
range Mtu = (148, 9000)
range Held = (1, 128)
range Defer = (0, 1)
range DeferMs = (1, 10000)
range MaxUpdates = (1, 255)
range Batch = (1, 256)
range BulkMs = (1, 60000)
range AdaptiveStart = (0, 131072)
range AdaptiveEnd = (0, 131072)

-- the limits where no line sets them
abbrev pub default_limits : Limits
default_limits = record {
  states = 64;
  queue = 256;
  frames = 64;
  mtu = 1500;
  held = 128;
  defer = false;
  defer_ms = 20;
  maxupd = 128;
  batch = 16;
  bulk_ms = 10000;
  astart = None;
  aend = None;
  kernel = profile;
}

-- the limits with this value of one
abbrev pub with_limit : Limits → Limit → ℕ → Limits
with_limit l States n = record l { states = n }
with_limit l Queue n = record l { queue = n }
with_limit l Frames n = record l { frames = n }
with_limit l Mtu n = record l { mtu = n }
with_limit l Held n = record l { held = n }
with_limit l Defer n = record l { defer = not (n == 0) }
with_limit l DeferMs n = record l { defer_ms = n }
with_limit l MaxUpdates n = record l { maxupd = n }
with_limit l Batch n = record l { batch = n }
with_limit l BulkMs n = record l { bulk_ms = n }
with_limit l AdaptiveStart n = record l { astart = Some n }
with_limit l AdaptiveEnd n = record l { aend = Some n }

-- the limits with these rules of the kernel besides
abbrev pub with_kernel : Limits → Kernel → Limits
with_kernel l kernel = record l { kernel = rules_of_either l.kernel kernel }

-- the numbers of states between which timeouts shrink: where they are not set, three and six fifths of the limit `states` (pf.conf(5),
-- `adaptive.start` and `adaptive.end`; how they are truncated, and that one alone may be set, is this project's profile)
abbrev pub adaptive : Limits → Adaptive
adaptive l = record { start = unwrap_or l.astart (l.states * 3 / 5); end = unwrap_or l.aend (l.states * 6 / 5) }

-- the greatest number that a line may say for a limit: 1 for `defer`, and any of 32 bits for the others, whose ranges are looked at
-- once all are set
abbrev pub greatest_said : Limit → ℕ
greatest_said Defer = 1
greatest_said _ = greatest

-- the value of a limit, with the least and the greatest that it may have
abbrev pub ranged : Limit → ℕ → ℕ × ℕ × ℕ
ranged limit n = (n, (range limit).0, (range limit).1)

-- each limit that is a number, with its least and its greatest value; one that is not set counts as 0
abbrev pub ranges : Limits → List (ℕ × ℕ × ℕ)
ranges l =
    ranged States l.states ∷ ranged Queue l.queue ∷ ranged Frames l.frames ∷ ranged Mtu l.mtu ∷ ranged Held l.held
    ∷ ranged DeferMs l.defer_ms ∷ ranged MaxUpdates l.maxupd ∷ ranged Batch l.batch ∷ ranged BulkMs l.bulk_ms
    ∷ ranged AdaptiveStart (unwrap_or l.astart 0) ∷ ranged AdaptiveEnd (unwrap_or l.aend 0) ∷ []

-- each limit is in its range
abbrev pub AreLimits : Limits → Type 0
AreLimits l = AllByRecursion (λ r. (r.1 ≤ r.0) × (r.0 ≤ r.2)) (ranges l)

-- why these limits are none: one of them below its range comes before any above it
abbrev pub limit_fault : Limits → Option LimitFault
limit_fault l =
    if list_any (λ r. nat_lt r.0 r.1) (ranges l) then Some TooSmall else
    if list_any (λ r. nat_lt r.2 r.0) (ranges l) then Some TooLarge else None
