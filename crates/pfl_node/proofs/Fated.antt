-- What a packet does, by cases.
use Rattle.std.specs.Prelude.{◌≡◌, ◌⊎◌, ℕ, Bool, false, nat_le, List, [], ◌∷◌, length, IfSome, ◌<◌, slice_get, Option, Some, None, zero, suc}
use Rattle.std.specs.Prelude.{refl}
use Rattle.std.proofs.Common.{◌∙◌, ap, sym, subst, arith, inl, inr}
use Rattle.pfl_base.specs.declared.direction.Dir.{Dir}
use Rattle.pfl_base.specs.declared.kernel.Kernel.{Kernel}
use Rattle.pfl_base.specs.declared.packet.Packet.{Packet}
use Rattle.pfl_base.specs.Keys.{key}
use Rattle.pfl_base.specs.Packets.{IsPacket}
use Rattle.pfl_base.specs.declared.flow.Key.{Key}
use Rattle.pfl_base.specs.declared.state_name.StateName.{StateName}
use Rattle.pfl_edits.specs.Maps as maps
use Rattle.pfl_rules.specs.declared.rule.Rule.{Rule}
use Rattle.pfl_track.specs.declared.state.State.{State}
use Rattle.pfl_track.specs.declared.tracked.Tracked.{Tracked}
use Rattle.pfl_track.specs.declared.tracked.Tracked.TheVariants.{Moved}
use Rattle.pfl_track.specs.Keys.{AreKeys}
use Rattle.pfl_track.specs.States.{IsState}
use Rattle.pfl_track.specs.Rules.{started_by, tracked_by}
use Rattle.pfl_track.specs.Tracking.{start_state, used}
use Rattle.std.proofs.lemmas.Bool.Decides.{nat_tests}
use Rattle.pfl_track.proofs.ForCallers.{ends-move, stays-state, start-is}
use Rattle.pfl_receive.specs.table.Tables.{found, key_in_use}
use Rattle.pfl_receive.proofs.ForCallers.table.{found-stands}
use Rattle.pfl_receive.specs.desk.inner.Kept.{MayReplace, MayStart}
use Rattle.pfl_receive.specs.desk.Nodes.{Node, AreParts, IsGiven, IsPast}
use Rattle.pfl_receive.proofs.ForCallers.desk.{left-same}
use Rattle.pfl_node.specs.Starting.{Handled, judged, next_name}
use Rattle.pfl_node.specs.Packets.{handled, handled_by, followed, packet_points, before_rules, on_the_way, tracked_at}

-- ---- a packet of a state

pub handled-some : (n : Node) (dir : Dir) (p : Packet) (s : State) → found n.states (key p dir) dir ≡ Some s
    → handled n dir p ≡ followed n dir p s (tracked_at n s p dir)
unfolding handled
handled-some n dir p s at = ap (handled_by n dir p) at

pub points-some : (n : Node) (dir : Dir) (p : Packet) (s : State) → found n.states (key p dir) dir ≡ Some s
    → packet_points n dir p ≡ (followed n dir p s (tracked_at n s p dir)).node ∷ on_the_way n s (tracked_at n s p dir)
unfolding packet_points
points-some n dir p s at =
    ap (λ (h : Handled). h.node ∷ before_rules n dir p (found n.states (key p dir) dir)) (handled-some n dir p s at)
    ∙ ap (λ (o : Option State). (followed n dir p s (tracked_at n s p dir)).node ∷ before_rules n dir p o) at

-- by the node's own rules and clock
pub tracks-at : (n : Node) (s : State) (p : Packet) (dir : Dir) (k : Kernel) (now : ℕ) (t : Tracked) → k ≡ n.limits.kernel → now ≡ n.clock
    → t ≡ tracked_by k s p dir now → tracked_at n s p dir ≡ t
tracks-at n s p dir k now t kernel clock e = cc

-- what a packet moved has the name, the keys and all else of the state, and is used now, or has its class and its last use
record IsMoved (n : Node) (s t : State) : Type 0 where
  name : t.name ≡ s.name
  wire : t.wire ≡ s.wire
  stack : t.stack ≡ s.stack
  no_sync : t.no_sync ≡ s.no_sync
  rule : t.rule ≡ s.rule
  peer_change : t.peer_change ≡ s.peer_change
  updates : t.updates ≡ s.updates
  last : (t.last ≡ n.clock) ⊎ ((t.class ≡ s.class) × (t.last ≡ s.last))

of-used : (n : Node) (s t : State) → t ≡ used s t.src t.dst n.clock → IsMoved n s t
of-used n s t e = record {
  name = ap (λ (u : State). u.name) e;
  wire = ap (λ (u : State). u.wire) e;
  stack = ap (λ (u : State). u.stack) e;
  no_sync = ap (λ (u : State). u.no_sync) e;
  rule = ap (λ (u : State). u.rule) e;
  peer_change = ap (λ (u : State). u.peer_change) e;
  updates = ap (λ (u : State). u.updates) e;
  last = inl (ap (λ (u : State). u.last) e);
}

-- one that passes loosely renews nothing
of-ends : (n : Node) (s t : State) → t ≡ record s { src = t.src; dst = t.dst } → IsMoved n s t
of-ends n s t e = record {
  name = ap (λ (u : State). u.name) e;
  wire = ap (λ (u : State). u.wire) e;
  stack = ap (λ (u : State). u.stack) e;
  no_sync = ap (λ (u : State). u.no_sync) e;
  rule = ap (λ (u : State). u.rule) e;
  peer_change = ap (λ (u : State). u.peer_change) e;
  updates = ap (λ (u : State). u.updates) e;
  last = inr (ap (λ (u : State). u.class) e, ap (λ (u : State). u.last) e);
}

is-moved : (n : Node) (s : State) (p : Packet) (dir : Dir) (t : State) → tracked_at n s p dir ≡ Moved t → IsMoved n s t
is-moved n s p dir t moved = elim (ends-move n.limits.kernel s p dir n.clock t moved) [
  | inl renewed ↦ of-used n s t renewed
  | inr ends ↦ of-ends n s t ends
]

pub found-replaces : (n : Node) (dir : Dir) (p : Packet) (s t : State) → AreParts n → IsPacket p → found n.states (key p dir) dir ≡ Some s
    → tracked_at n s p dir ≡ Moved t → MayReplace n t
found-replaces n dir p s t is packet at moved =
    let stands = found-stands n.states (key p dir) dir s is.states at in
    let old = is.each s.name s stands in
    let kept = is-moved n s p dir t moved in
    record {
      former = s;
      stands = ap (λ (name : StateName). maps.get n.states name) kept.name ∙ stands;
      wire = kept.wire;
      stack = kept.stack;
      no_sync = kept.no_sync;
      is = record {
        is = stays-state n.limits.kernel s p dir n.clock t old.is packet moved;
        given = subst (IsGiven n) (sym kept.name) old.given;
        rule = subst (λ (o : Option ℕ). IfSome o (λ i. i < length n.rules.list)) (sym kept.rule) old.rule;
        last = λ off. elim kept.last [
          | inl now ↦ subst (IsPast n) (sym now) (omega arith)
          | inr held ↦ subst (IsPast n) (sym held.1) (old.last off)
        ];
        ahead = λ ahead. elim kept.last [
          | inl now ↦ absurd (omega arith)
          | inr held ↦ left-same n s t kept.rule held.0 held.1 old.ahead ahead
        ];
        peer_change = subst (λ (o : Option ℕ). IfSome o (IsPast n)) (sym kept.peer_change) old.peer_change;
        updates = let same = kept.updates in let few = old.updates in omega (arith, same, few);
      };
    }

-- ---- a packet that no state takes

pub handled-none : (n : Node) (dir : Dir) (p : Packet) → found n.states (key p dir) dir ≡ None → handled n dir p ≡ judged n dir p
unfolding handled
handled-none n dir p at = ap (handled_by n dir p) at

pub points-none : (n : Node) (dir : Dir) (p : Packet) → found n.states (key p dir) dir ≡ None → packet_points n dir p ≡ (judged n dir p).node ∷ []
unfolding packet_points
points-none n dir p at =
    ap (λ (h : Handled). h.node ∷ before_rules n dir p (found n.states (key p dir) dir)) (handled-none n dir p at)
    ∙ ap (λ (ns : List Node). (judged n dir p).node ∷ ns) (ap (before_rules n dir p) at)

-- ---- a new state

within_list : (rules : List Rule) (i : ℕ) (r : Rule) → slice_get rules i ≡ Some r → i < length rules
within_list [] i r e = absurd (cc)
within_list (q ∷ rules) zero r e = omega arith
within_list (q ∷ rules) (suc i) r e = let h = within_list rules i r e in omega arith

-- the rule of the scale changes the window of its first end alone
pub started-starts : (n : Node) (kernel : Kernel) (s : State) → IsState (started_by kernel s) → MayStart n s → MayStart n (started_by kernel s)
started-starts n kernel s is may = record {
  creator = may.creator;
  id = may.id;
  unused = may.unused;
  room = may.room;
  is = is;
  rule = may.rule;
  last = may.last;
  peer_change = may.peer_change;
  updates = may.updates;
}

pub new-starts : (n : Node) (wire stack : Key) (dir : Dir) (p : Packet) (number : ℕ) (r : Rule) (no_sync : Bool) → IsPacket p
    → AreKeys wire stack → key_in_use n.states wire stack ≡ false → nat_le n.limits.states (maps.len n.states) ≡ false
    → slice_get n.rules.list number ≡ Some r
    → MayStart n (start_state (next_name n) wire stack dir p (Some number) no_sync n.clock)
new-starts n wire stack dir p number r no_sync packet keys unused room stands = record {
  creator = refl;
  id = refl;
  unused = unused;
  room = grind (arith, nat_tests);
  is = start-is (next_name n) wire stack dir p (Some number) no_sync n.clock keys packet;
  rule = within_list n.rules.list number r stands;
  last = omega arith;
  peer_change = tt;
  updates = omega arith;
}
