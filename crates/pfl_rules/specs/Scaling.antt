-- Timeouts shorten as the table of states fills (pf.conf(5), `adaptive.start` and `adaptive.end`).
use Rattle.std.specs.Prelude.{ℕ, ◌-◌, ◌*◌, ◌/◌, not, ◌&&◌, nat_lt, nat_le, if◌then◌else◌}
use Rattle.pfl_rules.specs.declared.adaptive.Adaptive.{Adaptive}

-- the seconds of a timeout where there are this many states: above the start it shrinks with what is left up to the end, truncated,
-- and from the end on it is 0; where the end is not above the start it never shrinks
abbrev pub scaled : ℕ → Adaptive → ℕ → ℕ
scaled timeout a states =
    if not (nat_lt a.start states && nat_lt a.start a.end) then timeout else
    if nat_le a.end states then 0 else timeout * (a.end - states) / (a.end - a.start)
