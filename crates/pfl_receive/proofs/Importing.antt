-- A state that may be taken over may be put.
use Rattle.std.specs.Prelude.{◌≡◌, ◌≢◌, ◌≤◌, ◌<◌, ℕ, ◌+◌, ◌==◌, ◌&&◌, ◌||◌, Bool, true, false, not, nat_le, nat_lt, length, Option, Some, None}
use Rattle.std.specs.Prelude.{is_some, IfSome, refl}
use Rattle.std.specs.Option.{option_map, option_or}
use Rattle.std.proofs.Common.{cond, T, ◌∙◌, ap, sym, subst, arith}
use Rattle.std.proofs.lemmas.Bool.Decides.{nat_tests}
use Rattle.pfl_base.specs.declared.state_name.StateName.{StateName}
use Rattle.pfl_base.proofs.ForCallers.{names_total, names_exact}
use Rattle.pfl_edits.specs.Maps as maps
use Rattle.pfl_edits.proofs.ForCallers.{len-insert, get-set_at_same}
use Rattle.pfl_track.specs.declared.state.State.{State}
use Rattle.pfl_track.specs.States.{IsState}
use Rattle.pfl_desk.specs.table.Tables.{by_stack, by_wire, key_in_use}
use Rattle.pfl_desk.proofs.ForCallers.table.{OwnsKeys-unused}
use Rattle.pfl_wire.specs.declared.message.StateRecord.{StateRecord}
use Rattle.pfl_desk.specs.queue.declared.Kind.{Kind}
use Rattle.pfl_desk.specs.queue.declared.Kind.TheVariants.{Delete, InsertAck}
use Rattle.pfl_desk.specs.queue.declared.Mark.{Mark}
use Rattle.pfl_desk.specs.queue.Queues.{kind_of}
use Rattle.pfl_desk.specs.Changes.{is_delete, put_state}
use Rattle.pfl_desk.specs.inner.Kept.{MayAdd, MayMark}
use Rattle.pfl_desk.specs.Nodes.{Node, AreParts, IsNodeState, IsGiven, IsPast, LeftFits}
use Rattle.pfl_desk.proofs.ForCallers.{put-node, told-may}
use Rattle.pfl_receive.specs.declared.decision.BadRecord.{BadRecord}
use Rattle.pfl_receive.specs.declared.decision.BadRecord.TheVariants as bad
use Rattle.pfl_receive.specs.declared.decision.Decision.{Decision}
use Rattle.pfl_receive.specs.declared.decision.Decision.TheVariants as decision
use Rattle.pfl_receive.specs.inner.Deciding.{MayDo, MayTakeOver}
use Rattle.pfl_receive.specs.Receiving.{import_fault, is_deleting, is_known, is_not_given, imported, kept_rule}

-- ---- why it may be

-- no state, and no deletion that is to be announced, has the name, which is one that may stand, the keys are free, and there is room
pub record MayImport (n : Node) (r : StateRecord) : Type 0 where
  pub fresh : maps.get n.states r.name ≡ None
  pub given : IsGiven n r.name
  pub untold : n.limits.kernel.revive ≡ false → is_delete (kind_of n.queue r.name) ≡ false
  pub unused : key_in_use n.states r.keys.wire r.keys.stack ≡ false
  pub room : maps.len n.states < n.limits.states

is-none : {X : Type 0} (o : Option X) → is_some o ≡ false → o ≡ None
is-none None e = refl
is-none (Some x) e = absurd (subst T e tt)

given-is : (n : Node) (name : StateName) → is_not_given n name ≡ false → IsGiven n name
given-is n name e same = by (nat_le n.next_id name.id) refl (sym (ap (λ b. b && nat_le n.next_id name.id) own) ∙ e)
  where
    own : (name.creator == n.creator) ≡ true
    own = grind (arith, nat_tests, same)

    by : (b : Bool) → nat_le n.next_id name.id ≡ b → (true && b) ≡ false → name.id < n.next_id
    by true is e = absurd (cc)
    by false is e = grind (arith, nat_tests)

below : (a b : ℕ) → nat_le a b ≡ false → b < a
below a b e = grind (arith, nat_tests)

-- a record with no fault
pub may-import : (n : Node) (r : StateRecord) → import_fault n r ≡ None → MayImport n r
may-import n r e = by (is_known n r.name) refl (is_not_given n r.name) refl (is_deleting n r.name) refl
    (by_wire n.states r.keys.wire) refl (by_stack n.states r.keys.stack) refl (nat_le n.limits.states (maps.len n.states)) refl e
  where
    by : (known : Bool) → is_known n r.name ≡ known → (not_given : Bool) → is_not_given n r.name ≡ not_given
        → (deleting : Bool) → is_deleting n r.name ≡ deleting → (wire : Option State) → by_wire n.states r.keys.wire ≡ wire
        → (stack : Option State) → by_stack n.states r.keys.stack ≡ stack → (full : Bool) → nat_le n.limits.states (maps.len n.states) ≡ full
        → cond known (Some bad.Known) (cond not_given (Some bad.NotGiven) (cond deleting (Some bad.Deleting)
        (option_or (option_map (λ (s : State). bad.WireInUse s.name) wire)
        (option_or (option_map (λ (s : State). bad.StackInUse s.name) stack) (cond full (Some bad.Full) None))))) ≡ None → MayImport n r
    by true k not_given g deleting d wire w stack s full f e = absurd (cc)
    by false k true g deleting d wire w stack s full f e = absurd (cc)
    by false k false g true d wire w stack s full f e = absurd (cc)
    by false k false g false d (Some x) w stack s full f e = absurd (cc)
    by false k false g false d None w (Some x) s full f e = absurd (cc)
    by false k false g false d None w None s true f e = absurd (cc)
    by false k false g false d None w None s false f e = record {
      fresh = is-none (maps.get n.states r.name) k;
      given = given-is n r.name g;
      untold = λ off. sym (ap (λ b. not b && is_delete (kind_of n.queue r.name)) off) ∙ d;
      unused = λ i. is_some (w i) || is_some (s i);
      room = below n.limits.states (maps.len n.states) f;
    }

-- ---- the state as it is kept

-- its rule is one of the node's
rule-is : (n : Node) (b : Bool) (o : Option ℕ) → IfSome (kept_rule n b o) (λ r. r < length n.rules.list)
rule-is n false o = tt
rule-is n true None = tt
rule-is n true (Some r) = by (nat_lt r (length n.rules.list)) refl
  where
    by : (b : Bool) → nat_lt r (length n.rules.list) ≡ b → IfSome (cond b (Some r) None) (λ q. q < length n.rules.list)
    by true is = grind (arith, nat_tests)
    by false is = tt

imported-state : (n : Node) (b : Bool) (r : StateRecord) → IsGiven n r.name → IsState (imported n b r)
    → (n.limits.kernel.expiry ≡ false → IsPast n (imported n b r).last)
    → (n.clock < (imported n b r).last → LeftFits n (imported n b r)) → IsNodeState n (imported n b r)
imported-state n b r given is past ahead = record {
  is = is;
  given = given;
  rule = rule-is n b r.rule;
  last = past;
  ahead = ahead;
  peer_change = omega arith;
  updates = omega arith;
}

within : (b : Bool) (len limit : ℕ) → len < limit → cond b len (len + 1) ≤ limit
within true len limit h = omega arith
within false len limit h = omega arith

-- a deletion of its name may be pending with `revive` alone
no-deletion : (n : Node) (r : StateRecord) → MayImport n r → (k : Mark) → maps.get n.queue.marks r.name ≡ Some k
    → n.limits.kernel.revive ≡ false → k.kind ≢ Delete
no-deletion n r may k at off deletes =
    let kind : kind_of n.queue r.name ≡ Some k.kind = ap (option_map (λ (m : Mark). m.kind)) at in
    let told : is_delete (kind_of n.queue r.name) ≡ true = ap is_delete kind ∙ ap (λ (d : Kind). is_delete (Some d)) deletes in
    subst T (sym told ∙ may.untold off) tt

-- the node with it is one
imported-node : (n : Node) (b : Bool) (r : StateRecord) → AreParts n → MayImport n r → IsState (imported n b r)
    → (n.limits.kernel.expiry ≡ false → IsPast n (imported n b r).last)
    → (n.clock < (imported n b r).last → LeftFits n (imported n b r)) → AreParts (put_state n (imported n b r))
imported-node n b r is may state past ahead =
    let s = imported n b r in
    put-node n s is (OwnsKeys-unused n.states s may.unused)
    (subst (λ (k : ℕ). k ≤ n.limits.states) (sym (len-insert names_total n.states s.name s))
    (within (maps.contains_key n.states s.name) (maps.len n.states) n.limits.states may.room))
    (imported-state n b r may.given state past ahead)
    (λ k at. (no-deletion n r may k at, refl))

imported-may : (n : Node) (b : Bool) (r : StateRecord) → MayImport n r → MayAdd n (imported n b r)
imported-may n b r may = record { fresh = may.fresh; unused = may.unused; room = may.room }

-- and the name may be acknowledged
acknowledged-may : (n : Node) (b : Bool) (r : StateRecord) → MayImport n r → MayMark (put_state n (imported n b r)) r.name InsertAck
acknowledged-may n b r may =
    let s = imported n b r in
    told-may (put_state n s) r.name InsertAck s (get-set_at_same names_total names_exact n.states s.name (Some s)) refl may.given (λ e. cc)

-- so it may be taken over
pub imported-so : (n : Node) (b : Bool) (r : StateRecord) (o : Option BadRecord) (s : State) (ack : Bool) (d : Decision) → AreParts n
    → o ≡ import_fault n r → o ≡ None → s ≡ imported n b r → IsState s → (n.limits.kernel.expiry ≡ false → IsPast n s.last)
    → (n.clock < s.last → LeftFits n s) → d ≡ decision.Import s ack → MayDo n d
imported-so n b r o s ack d is fault none same state past ahead gives =
    let may = may-import n r (sym fault ∙ none) in
    let kept = subst IsState same state in
    let before = subst (λ (t : State). n.limits.kernel.expiry ≡ false → IsPast n t.last) same past in
    let after = subst (λ (t : State). n.clock < t.last → LeftFits n t) same ahead in
    let all : MayTakeOver n (imported n b r) = record {
      parts = imported-node n b r is may kept before after;
      add = imported-may n b r may;
      mark = acknowledged-may n b r may;
    } in
    subst (MayDo n) (sym gives) (subst (MayTakeOver n) (sym same) all)
