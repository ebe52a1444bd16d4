-- Worked cases of two copies of a connection of TCP: one has heard the other end answer, and the other a later number of it.
use Rattle.std.specs.Prelude.{◌≡◌, ℕ, true, None, refl}
use Rattle.std.proofs.Common.{arith}
use Rattle.pfl_base.specs.Kernels.{profile, every_rule}
use Rattle.pfl_base.specs.Packets.{is_tcp}
use Rattle.pfl_world.specs.track.declared.peer.Peer.{Peer}
use Rattle.pfl_world.specs.track.declared.state.State.{State}
use Rattle.pfl_laws.specs.Rest.{AreCopies, RestWithin, GoOnFor}
use Rattle.pfl_laws.proofs.Rest.{copies-rest, crossed-go-on, cross}

abbrev client : Peer
client = record { level = 4; scale = None; window = 1000; lo = 201; hi = 2000 }

-- the same connection, with this as the server's end
abbrev with_server : State → ℕ → ℕ → State
with_server s level lo = record s { src = client; dst = record { level = level; scale = None; window = 1000; lo = lo; hi = 1500 } }

abbrev ahead_in_level : State → State
ahead_in_level s = with_server s 4 501

abbrev ahead_in_number : State → State
ahead_in_number s = with_server s 2 701

are-copies : (s : State) → AreCopies (ahead_in_level s) (ahead_in_number s)
are-copies s = record { proto = refl; s_src = omega arith; s_dst = omega arith; t_src = omega arith; t_dst = omega arith }

-- by the profile each answer is answered
without_end : (s : State) (messages : ℕ) → is_tcp s.wire.proto ≡ true → GoOnFor profile messages (ahead_in_level s) (ahead_in_number s)
without_end s messages tcp =
    crossed-go-on profile _ _ messages refl (cross (ahead_in_level s) (ahead_in_number s) (are-copies s) tcp (omega arith) (omega arith) refl)

-- with `merge` they come to rest
three_messages : (s : State) → RestWithin every_rule 3 (ahead_in_level s) (ahead_in_number s)
three_messages s = copies-rest every_rule _ _ refl (are-copies s)
