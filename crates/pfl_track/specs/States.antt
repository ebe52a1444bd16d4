-- What a state is: levels and scales in their ranges, and all four ends of one family and one protocol (pf.c; the ranges are
-- this project's profile).
use Rattle.std.specs.Prelude.{◌≡◌, true}
use Rattle.pfl_base.specs.Ends.{same_family, IsProto}
use Rattle.pfl_track.specs.declared.state.StateFields.{StateFields}
use Rattle.pfl_track.specs.Peers.{IsPeer}

-- a state
pub record IsState (s : StateFields) : Type 0 where
  pub src : IsPeer s.src
  pub dst : IsPeer s.dst
  pub proto : IsProto s.wire.proto
  pub one_proto : s.stack.proto ≡ s.wire.proto
  pub wire_family : same_family s.wire.far.addr s.wire.near.addr ≡ true
  pub stack_family : same_family s.stack.far.addr s.stack.near.addr ≡ true
  pub one_family : same_family s.wire.far.addr s.stack.far.addr ≡ true
