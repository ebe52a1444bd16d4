-- Heads and when their rows are due, of which the first is sought.
use Rattle.std.specs.Prelude.{ℕ, ◌+◌, ◌*◌, ◌==◌, ◌&&◌, ◌||◌, nat_lt, Bool, Option, Some, None, if◌then◌else◌}
use Rattle.std.specs.Ordering.{is_lt}
use Rattle.pfl_base.specs.Names.{name_cmp}
use Rattle.pfl_table.specs.declared.heads.DueHead.{DueHead}
use Rattle.pfl_table.specs.declared.heads.Head.{Head}
use Rattle.pfl_table.specs.inner.Ordering.{name_in}

-- the head with when it is due, if its timeout scales to this many seconds
abbrev pub due_head : Head → ℕ → DueHead
due_head h seconds = record { at = h.key.time + seconds * 1000; head = h }

-- by when it is due, then by name
abbrev pub is_before : DueHead → DueHead → Bool
is_before d e = nat_lt d.at e.at || ((d.at == e.at) && is_lt (name_cmp (name_in d.head.key) (name_in e.head.key)))

-- which of these is due first: the latter unless the former is due before it
abbrev pub earlier : Option DueHead → DueHead → DueHead
earlier None d = d
earlier (Some first) d = if is_before first d then first else d
