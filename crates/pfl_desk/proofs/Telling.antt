-- What a change of a state leaves alone.
use Rattle.std.specs.Prelude.{◌≡◌, ◌≤◌, ℕ, true, false}
use Rattle.std.proofs.Common.{cond, ap}
use Rattle.pfl_track.specs.declared.state.State.{State}
use Rattle.pfl_desk.specs.inner.Kept.{MayReplace}
use Rattle.pfl_desk.specs.Nodes.{Node}
use Rattle.pfl_desk.specs.Changes.{put_state, push_if, told, changed, is_recent}

-- a state that is not announced is put alone
pub changed-unsynced : (n : Node) (s : State) → s.no_sync ≡ true → changed n s ≡ put_state n s
unfolding changed
changed-unsynced n s e = ap (λ b. cond b (put_state n s) (push_if (is_recent n s) (told n s))) e

-- and every other one is announced
pub changed-synced : (n : Node) (s : State) → s.no_sync ≡ false → changed n s ≡ push_if (is_recent n s) (told n s)
unfolding changed
changed-synced n s e = ap (λ b. cond b (put_state n s) (push_if (is_recent n s) (told n s))) e

-- a state with another number of updates may take its place as well
pub updates-may : (n : Node) (s : State) (k : ℕ) → k ≤ 255 → MayReplace n s → MayReplace n (record s { updates = k })
updates-may n s k few may = record {
  former = may.former;
  stands = may.stands;
  wire = may.wire;
  stack = may.stack;
  no_sync = may.no_sync;
  is = record {
    is = let one = may.is.is in record {
      src = one.src;
      dst = one.dst;
      proto = one.proto;
      one_proto = one.one_proto;
      wire_family = one.wire_family;
      stack_family = one.stack_family;
      one_family = one.one_family;
    };
    given = may.is.given;
    rule = may.is.rule;
    last = may.is.last;
    ahead = may.is.ahead;
    peer_change = may.is.peer_change;
    updates = few;
  };
}
