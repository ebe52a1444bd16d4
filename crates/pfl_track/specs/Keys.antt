-- The two keys of a state, and how translation makes the one from the other (pf.c, pf.conf(5)).
use Rattle.std.specs.Prelude.{◌≡◌, Bool, true, ◌&&◌, ◌==◌, Option}
use Rattle.std.specs.Option.{option_map_or}
use Rattle.pfl_base.specs.declared.addr.End.{End}
use Rattle.pfl_base.specs.declared.flow.Key.{Key}
use Rattle.pfl_base.specs.declared.proto.Proto.{Proto}
use Rattle.pfl_base.specs.declared.proto.Proto.TheVariants.{Icmp, Other}
use Rattle.pfl_base.specs.Ends.{same_family, proto_number, IsProto}

-- a wire key and a stack key: of one protocol, and all four ends of one family
pub record AreKeys (wire stack : Key) : Type 0 where
  pub proto : IsProto wire.proto
  pub one_proto : stack.proto ≡ wire.proto
  pub wire_family : same_family wire.far.addr wire.near.addr ≡ true
  pub stack_family : same_family stack.far.addr stack.near.addr ≡ true
  pub one_family : same_family wire.far.addr stack.far.addr ≡ true

-- the wire key of a translation to e (pf.conf(5), `nat`); ICMP has e's port as its identifier, and protocols without ports have none (this project's profile)
abbrev pub translated_to : Key → End → Proto → Key
translated_to k e Icmp = record k { far = record k.far { port = e.port }; near = e }
translated_to k e (Other n) = record k { near = record e { port = 0 } }
translated_to k e _ = record k { near = e }

-- the key on the wire
abbrev pub wire_key : Key → Option End → Key
wire_key k nat = option_map_or (λ e. translated_to k e k.proto) nat k

-- the test of the same: two keys may be those of a state
abbrev pub are_keys : Key → Key → Bool
are_keys wire stack =
    (proto_number stack.proto == proto_number wire.proto)
    && same_family wire.far.addr wire.near.addr
    && same_family stack.far.addr stack.near.addr
    && same_family wire.far.addr stack.far.addr

-- a translation is to an end of the flow's own family (pf.conf(5))
abbrev pub fits_family : Key → Option End → Bool
fits_family k nat = option_map_or (λ e. same_family k.near.addr e.addr) nat true
