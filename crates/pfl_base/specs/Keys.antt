-- The keys of flows.
use Rattle.std.specs.Prelude.{Bool, true, false, ◌&&◌, ◌==◌}
use Rattle.pfl_base.specs.declared.direction.Dir.{Dir}
use Rattle.pfl_base.specs.declared.direction.Dir.TheVariants.{Inbound, Outbound}
use Rattle.pfl_base.specs.declared.flow.Key.{Key}
use Rattle.pfl_base.specs.declared.fields.PacketFields.{PacketFields}
use Rattle.pfl_base.specs.Ends.{is_end, proto_number}

-- the flow of a packet: far is the source on the way in and the destination on the way out (this project's profile)
abbrev pub key : PacketFields → Dir → Key
key p Inbound = record { proto = p.proto; far = p.src; near = p.dst }
key p Outbound = record { proto = p.proto; far = p.dst; near = p.src }

-- the two are one flow
abbrev pub is_key : Key → Key → Bool
is_key a b = (proto_number a.proto == proto_number b.proto) && is_end a.far b.far && is_end a.near b.near

-- the two are one direction
abbrev pub is_dir : Dir → Dir → Bool
is_dir Inbound Inbound = true
is_dir Outbound Outbound = true
is_dir _ _ = false

-- the other direction
abbrev pub other_dir : Dir → Dir
other_dir Inbound = Outbound
other_dir Outbound = Inbound
