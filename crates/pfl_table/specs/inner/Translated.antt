-- The two keys of a new state whose rule translates: the packet's own key, and the translated one.
use Rattle.std.specs.Prelude.{ℕ, ◌+◌, ◌-◌, Bool, true, false, not, find, is_some, unwrap_or, if◌then◌else◌}
use Rattle.std.specs.List.{range_with_len}
use Rattle.pfl_base.specs.declared.flow.Key.{Key}
use Rattle.pfl_base.specs.declared.proto.Proto.{Proto}
use Rattle.pfl_base.specs.declared.proto.Proto.TheVariants.{Icmp, Other}
use Rattle.pfl_rules.specs.declared.ports.PortsFields.{PortsFields}
use Rattle.pfl_rules.specs.declared.rule.Rule.{Rule}
use Rattle.pfl_track.specs.declared.key_pair.KeyFields.{KeyFields}
use Rattle.pfl_table.specs.Tables.{States, by_wire, by_stack}

-- translation puts a port into the keys of the protocol: that of TCP and UDP, or the identifier of an ICMP echo
abbrev pub takes_port : Proto → Bool
takes_port (Other n) = false
takes_port _ = true

-- the packet's own key is in use: `rdr` leaves the wire key alone, and `nat` the stack key
abbrev pub own_in_use : States → Rule → KeyFields → Bool
own_in_use m r keys = if is_some r.rdr then is_some (by_wire m keys.wire) else is_some (by_stack m keys.stack)

-- the one of the two keys that the rule translates
abbrev pub translated_of : Rule → KeyFields → Key
translated_of r keys = if is_some r.rdr then keys.stack else keys.wire

-- the translated key is in use
abbrev pub translated_in_use : States → Rule → Key → Bool
translated_in_use m r k = if is_some r.rdr then is_some (by_stack m k) else is_some (by_wire m k)

-- the translated key with another port of the pool
abbrev pub with_port : Key → ℕ → Proto → Key
with_port k port Icmp = record k { far = record k.far { port = port }; near = record k.near { port = port } }
with_port k port (Other n) = k
with_port k port _ = record k { near = record k.near { port = port } }

-- with this port the translated key is free
abbrev pub is_free : States → Rule → Key → ℕ → Bool
is_free m r k port = not (translated_in_use m r (with_port k port k.proto))

-- the first of the ports that passes, or the last one
abbrev pub first_port : (ℕ → Bool) → PortsFields → ℕ
first_port passes ports = unwrap_or (find passes (range_with_len ports.first (ports.last - ports.first + 1))) ports.last

-- the first port with which the translated key is free, or the last one
abbrev pub free_port : States → Rule → Key → PortsFields → ℕ
free_port m r k ports = first_port (is_free m r k) ports
