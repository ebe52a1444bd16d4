-- What a merge promises (pf.c: the levels of a connection; if_pfsync.c: what is stale; this project's profile).
use Rattle.std.specs.Prelude.{◌≡◌, ◌≤◌, true, false}
use Rattle.pfl_base.specs.Packets.{is_tcp}
use Rattle.pfl_base.specs.Sequence.{seq_gt}
use Rattle.pfl_track.specs.declared.state.State.{State}
use Rattle.pfl_track.specs.Levels.{syn_sent}
use Rattle.pfl_merge.specs.declared.received.Received.{Received}

-- both ends have at least their former levels
pub record Rises (held kept : State) : Type 0 where
  pub src : held.src.level ≤ kept.src.level
  pub dst : held.dst.level ≤ kept.dst.level

-- it is the same flow of the same name, with what the peer is not asked about
pub record Keeps (held kept : State) : Type 0 where
  pub name : kept.name ≡ held.name
  pub wire : kept.wire ≡ held.wire
  pub stack : kept.stack ≡ held.stack
  pub direction : kept.direction ≡ held.direction
  pub rule : kept.rule ≡ held.rule
  pub no_sync : kept.no_sync ≡ held.no_sync
  pub ack_wanted : kept.ack_wanted ≡ held.ack_wanted
  pub updates : kept.updates ≡ held.updates

-- TCP: at one level the source's held sequence is not ahead of the kept one
abbrev pub SourceInOrder : State → Received → State → Type 0
SourceInOrder held r kept = is_tcp held.wire.proto ≡ true → held.src.level ≡ r.src.level → seq_gt held.src.lo kept.src.lo ≡ false

-- TCP: nor is the destination's, once it has begun
abbrev pub DestinationInOrder : State → State → Type 0
DestinationInOrder held kept = is_tcp held.wire.proto ≡ true → syn_sent ≤ held.dst.level → seq_gt held.dst.lo kept.dst.lo ≡ false

-- the destination has not fallen, in level or in sequence
pub record DestinationStays (held kept : State) : Type 0 where
  pub level : held.dst.level ≤ kept.dst.level
  pub sequence : DestinationInOrder held kept
