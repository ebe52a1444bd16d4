-- What a node keeps where a packet is held, and where one goes.
use Rattle.std.specs.Prelude.{◌≡◌, ◌<◌, Bool, true, false, nat_le, [], ◌∷◌, ◌++◌, length, slice_get, Option, Some, None, refl}
use Rattle.std.specs.Option.{option_map, option_map_or, option_to_list}
use Rattle.std.proofs.Common.{cond, ◌∙◌, ap, subst, arith, inl, inr}
use Rattle.std.proofs.lemmas.Bool.Decides.{nat_tests}
use Rattle.pfl_base.specs.declared.packet.Packet.{Packet}
use Rattle.pfl_base.specs.declared.state_name.StateName.{StateName}
use Rattle.pfl_edits.specs.Maps as maps
use Rattle.pfl_track.specs.declared.state.State.{State}
use Rattle.pfl_defer.specs.declared.Held.{Held}
use Rattle.pfl_defer.specs.declared.edits.DeferEdit.{DeferEdit}
use Rattle.pfl_defer.specs.Deferring as deferring
use Rattle.pfl_defer.specs.Deferring.{Deferrals, held_of, let_go, pushed_out, with_held}
use Rattle.pfl_defer.specs.Edits.{held_by}
use Rattle.pfl_defer.proofs.ForCallers.{with_held-keeps, last_cases}
use Rattle.pfl_desk.specs.Changes.{put_state, is_held, freed, count_freed, without_held, not_waiting}
use Rattle.pfl_desk.specs.inner.Kept.{MayReplace}
use Rattle.pfl_desk.specs.Nodes.{Node, AreParts, IsGiven}
use Rattle.pfl_desk.proofs.Keeps.{keeps_held, state_still}

-- the state of a name that has one waits no more, and else nothing changes
pub not_waiting-some : (n : Node) (name : StateName) (s : State) → maps.get n.states name ≡ Some s
    → not_waiting n name ≡ put_state n (record s { ack_wanted = false })
not_waiting-some n name s e = ap (λ (o : Option State). option_map_or (λ s. put_state n (record s { ack_wanted = false })) o n) e

pub not_waiting-none : (n : Node) (name : StateName) → maps.get n.states name ≡ None → not_waiting n name ≡ n
not_waiting-none n name e = ap (λ (o : Option State). option_map_or (λ s. put_state n (record s { ack_wanted = false })) o n) e

-- the state with another wish for an acknowledgement may take its place as well
pub wanted-may : (n : Node) (s : State) (wanted : Bool) → MayReplace n s → MayReplace n (record s { ack_wanted = wanted })
wanted-may n s wanted may = record {
  former = may.former;
  stands = may.stands;
  wire = may.wire;
  stack = may.stack;
  no_sync = may.no_sync;
  is = record {
    is = let one = may.is.is in record {
      src = one.src;
      dst = one.dst;
      proto = one.proto;
      one_proto = one.one_proto;
      wire_family = one.wire_family;
      stack_family = one.stack_family;
      one_family = one.one_family;
    };
    given = may.is.given;
    rule = may.is.rule;
    last = may.is.last;
    ahead = may.is.ahead;
    peer_change = may.is.peer_change;
    updates = may.is.updates;
  };
}

-- nor does a packet that goes out keep it from that
pub freed-may : (n : Node) (name : StateName) (s : State) → MayReplace n s → MayReplace (freed n name) s
freed-may n name s may = by (is_held n name)
  where
    by : (b : Bool) → MayReplace (cond b (count_freed (without_held n name)) n) s
    by true = record {
      former = may.former;
      stands = may.stands;
      wire = may.wire;
      stack = may.stack;
      no_sync = may.no_sync;
      is = state_still n (count_freed (without_held n name)) s refl refl refl refl refl may.is;
    }
    by false = may

-- a state of the node may take its own place
pub stands-may : (n : Node) (name : StateName) (s : State) → AreParts n → maps.get n.states name ≡ Some s → MayReplace n s
stands-may n name s is at = record {
  former = s;
  stands = ap (maps.get n.states) (is.states.filed name s at) ∙ at;
  wire = refl;
  stack = refl;
  no_sync = refl;
  is = is.each name s at;
}

-- a node with one packet more, which is held from now on
pub held-node : (n : Node) (name : StateName) (p : Packet) → AreParts n → IsGiven n name → length n.held.list < n.held.limit
    → held_of n.held name ≡ None → AreParts (record n { held = with_held n.held name p n.clock })
held-node n name p is given free fresh =
    keeps_held n (with_held n.held name p n.clock) is (with_held-keeps n.held name p n.clock is.deferrals free fresh (λ i h at. (is.held i h at).1)) refl
    (λ i h at. elim (last_cases n.held.list (record { name = name; packet = p; held_at = n.clock }) i h at) [
      | inl stood ↦ is.held i h stood
      | inr same ↦ (subst (λ (k : Held). IsGiven n k.name) same given, let now = ap (λ (k : Held). k.held_at) same in omega (arith, now))
    ])

-- and its state may take its own place in it
pub held-may : (n : Node) (s : State) (d : Deferrals) → MayReplace n s → MayReplace (record n { held = d }) s
held-may n s d may = record {
  former = may.former;
  stands = may.stands;
  wire = may.wire;
  stack = may.stack;
  no_sync = may.no_sync;
  is = state_still n (record n { held = d }) s refl refl refl refl refl may.is;
}

-- a list with room lets none go
pub stays-roomy : (d : Deferrals) → length d.list < d.limit → (pushed_out d ≡ None) × (deferring.with_room d ≡ d)
stays-roomy d free =
    let test : nat_le d.limit (length d.list) ≡ false = grind (arith, nat_tests) in
    let none : pushed_out d ≡ None = ap (λ b. cond b (slice_get d.list 0) None) test in
    (none, ap (λ (o : Option Held). option_map_or (λ h. let_go d h.name) o d) none)

-- and one edit holds the packet
pub one_edit : (o : Option DeferEdit) (e : DeferEdit) → option_map held_by o ≡ None → option_to_list o ++ e ∷ [] ≡ e ∷ []
one_edit None e none = refl
one_edit (Some d) e none = absurd (cc)
