-- How the bytes of a frame grow record by record.
use Rattle.std.specs.Prelude.{ℕ, List, map, ◌+◌, Option, Some, None, if◌then◌else◌, nat_le, [], filter, unwrap_or}
use Rattle.pfl_base.specs.Lists.{last_of, prefixes}
use Rattle.pfl_wire.specs.declared.action.Action.{Action}
use Rattle.pfl_wire.specs.Actions.{record_len}
use Rattle.pfl_queue.specs.declared.Entry.{Entry}
use Rattle.pfl_queue.specs.Taking.{entry_action, bytes_of, one_action}

-- the bytes of a frame of these entries
abbrev pub entry_bytes : List Entry → ℕ
entry_bytes es = bytes_of (map entry_action es)

-- what a record adds to a frame, where this is the last one before it
abbrev pub added : Option Action → Action → ℕ
added None a = 4 + record_len a
added (Some before) a = (if one_action before a then 0 else 4) + record_len a

-- the longest prefix whose frame has at most mtu bytes
abbrev pub longest : List Entry → ℕ → List Entry
longest es mtu = unwrap_or (last_of (filter (λ front. nat_le (entry_bytes front) mtu) (prefixes es))) []
