-- What an end of a connection is (the ranges are this project's profile; that of scales is RFC 7323, 2.3).
use Rattle.std.specs.Prelude.{◌≤◌, Bool, not, ◌&&◌, nat_le, IfSome}
use Rattle.pfl_base.specs.Packets.{scale_too_large}
use Rattle.pfl_track.specs.declared.peer.PeerFields.{PeerFields}

-- an end
pub record IsPeer (e : PeerFields) : Type 0 where
  pub level : e.level ≤ 10
  pub scale : IfSome e.scale (λ s. s ≤ 14)

-- the test of the same
abbrev pub is_peer : PeerFields → Bool
is_peer e = nat_le e.level 10 && not (scale_too_large e.scale)
