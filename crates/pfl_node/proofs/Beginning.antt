-- What a node keeps where it gives a new state its next name.
use Rattle.std.specs.Prelude.{◌≡◌, ◌≤◌, ◌<◌, ℕ, ◌+◌, Bool, true, false, Option, Some, None, refl}
use Rattle.std.proofs.Common.{cond, sym, subst, arith}
use Rattle.pfl_base.specs.declared.state_name.StateName.{StateName}
use Rattle.pfl_base.proofs.ForCallers.{names_total}
use Rattle.pfl_edits.specs.Maps as maps
use Rattle.pfl_edits.proofs.ForCallers.{len-insert}
use Rattle.pfl_track.specs.declared.state.State.{State}
use Rattle.pfl_receive.proofs.ForCallers.table.{OwnsKeys-unused}
use Rattle.pfl_receive.specs.queue.declared.Mark.{Mark}
use Rattle.pfl_receive.specs.desk.inner.Kept.{MayStart, MayAdd}
use Rattle.pfl_receive.specs.desk.Nodes.{Node, AreParts, IsGiven}
use Rattle.pfl_node.specs.Starting.{with_new}
use Rattle.pfl_receive.proofs.ForCallers.desk.{keeps_next_id, put-node}

-- its name was on no queue
pub fresh-name : (n : Node) (name : StateName) → AreParts n → name.creator ≡ n.creator → name.id ≡ n.next_id → (k : Mark)
    → maps.get n.queue.marks name ≡ Some k → ⊥
fresh-name n name is creator id k at = let below = (is.marks name k at).0 creator in absurd (omega (arith, id, below))

within : (b : Bool) (len limit : ℕ) → len < limit → cond b len (len + 1) ≤ limit
within true len limit h = omega arith
within false len limit h = omega arith

-- the next id is taken, and the state is put
pub started-node : (n : Node) (s : State) → AreParts n → MayStart n s → AreParts (with_new n s)
started-node n s is may =
    let next = keeps_next_id n (n.next_id + 1) is (omega arith) in
    let id = may.id in
    put-node (record n { next_id = n.next_id + 1 }) s next (OwnsKeys-unused n.states s may.unused)
    (subst (λ (k : ℕ). k ≤ n.limits.states) (sym (len-insert names_total n.states s.name s))
    (within (maps.contains_key n.states s.name) (maps.len n.states) n.limits.states may.room))
    (record {
      is = may.is;
      given = λ own. omega arith;
      rule = may.rule;
      last = λ off. may.last;
      ahead = λ ahead. let past = may.last in absurd (omega arith);
      peer_change = may.peer_change;
      updates = may.updates;
    })
    (λ k at. absurd (fresh-name n s.name is may.creator may.id k at))

no_state : (n : Node) (s : State) (o : Option State) → AreParts n → s.name.creator ≡ n.creator → s.name.id ≡ n.next_id → maps.get n.states s.name ≡ o → o ≡ None
no_state n s None is creator id at = refl
no_state n s (Some t) is creator id at =
    let below = (is.each s.name t at).given in
    let filed : t.name ≡ s.name = is.states.filed s.name t at in
    let given : s.name.id < n.next_id = subst (IsGiven n) filed below creator in
    absurd (omega (arith, id, given))

-- then it may be added
pub started-may : (n : Node) (s : State) → AreParts n → MayStart n s → MayAdd (record n { next_id = n.next_id + 1 }) s
started-may n s is may = record { fresh = no_state n s (maps.get n.states s.name) is may.creator may.id refl; unused = may.unused; room = may.room }
