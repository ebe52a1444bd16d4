-- Worked cases of single records, computed: a name that the node itself would have given, and did not.
use Rattle.std.specs.Prelude.{◌≡◌, ℕ, false, List, [], Option, Some, None, replicate, refl}
use Rattle.std.specs.Option.{option_map}
use Rattle.pfl_base.specs.declared.addr.Addr.TheVariants.{V4}
use Rattle.pfl_base.specs.declared.proto.Proto.TheVariants.{Udp}
use Rattle.pfl_base.specs.declared.direction.Dir.TheVariants.{Outbound}
use Rattle.pfl_base.specs.declared.class.Class.TheVariants.{UdpFirst}
use Rattle.pfl_base.specs.declared.flow.Key.{Key}
use Rattle.pfl_base.specs.declared.state_name.StateName.{StateName}
use Rattle.pfl_edits.specs.Maps as maps
use Rattle.pfl_edits.proofs.ForCallers as map_lemmas
use Rattle.pfl_language.specs.Limits.{default_limits}
use Rattle.pfl_track.specs.declared.state.State.{State}
use Rattle.pfl_track.specs.Tracking.{silent}
use Rattle.pfl_wire.specs.declared.message.Message.{Message}
use Rattle.pfl_wire.specs.declared.message.Message.TheVariants.{Insert}
use Rattle.pfl_receive.specs.desk.Nodes.{Node, new_node, no_counts}
use Rattle.pfl_receive.specs.Receiving as receiving
use Rattle.pfl_node.specs.Delivering.{message_refusal, message_taken}

abbrev name : ℕ → ℕ → StateName
name creator id = record { creator = creator; id = id }

-- 16 equal bytes, which stand for the checksum of no rules
abbrev print : List ℕ
print = replicate 16 7

-- a new node of creator 1, whose next id is this
abbrev from : ℕ → Node
from next = new_node default_limits (record { list = []; timeouts = replicate 14 None; print = print }) 1 next 0

abbrev fresh : Node
fresh = from 1

-- a query of 10.0.0.1:1000 to 192.0.2.9:53
abbrev flow : Key
flow = record { proto = Udp; far = record { addr = V4 0xc0000209; port = 53 }; near = record { addr = V4 0x0a000001; port = 1000 } }

-- the whole state of the query, under a name
abbrev insertion : StateName → Message
insertion of = Insert (record {
  name = of;
  keys = record { wire = flow; stack = flow };
  direction = Outbound;
  ack_wanted = false;
  src = silent;
  dst = silent;
  class = UdpFirst;
  remaining = 60;
  rule = None;
})

unfoldable computing : ℕ
unfolding map_lemmas.computing receiving.decided receiving.does receiving.taken
computing = 0

-- the first name that the node would give: the record is bad, and no more happens
own_name_is_bad : message_taken fresh (insertion (name 1 1)) print ≡ record fresh { counters = record no_counts { bad = 1 } }
unfolding computing
own_name_is_bad = refl

not_refused : message_refusal fresh (insertion (name 1 1)) print ≡ None
unfolding computing
not_refused = refl

-- whether the record of a name brings the node a state of that name
abbrev brings : Node → StateName → Option StateName
brings n of = option_map (λ (s : State). s.name) (maps.get (message_taken n (insertion of) print).states of)

-- the same state under a name of the peer's is taken over, and one that the node gave before
peers_name_is_taken : brings fresh (name 2 1) ≡ Some (name 2 1)
unfolding computing
peers_name_is_taken = refl

given_name_is_taken : brings (from 2) (name 1 1) ≡ Some (name 1 1)
unfolding computing
given_name_is_taken = refl
