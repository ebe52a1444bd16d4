-- What a node keeps where a state is put, and where a name is marked.
use Rattle.std.specs.Prelude.{◌≡◌, ◌≢◌, ◌≤◌, ◌<◌, ◌+◌, false, Option, Some, None, is_some, IfSome, refl}
use Rattle.std.proofs.Common.{cond, ◌∙◌, ap, sym, subst, arith, inl, inr}
use Rattle.pfl_base.specs.declared.state_name.StateName.{StateName}
use Rattle.pfl_base.proofs.ForCallers.{names_total, names_exact}
use Rattle.pfl_edits.specs.Maps as maps
use Rattle.pfl_edits.proofs.ForCallers.{len-insert, get-set_at_same, get-set_at_other, get-set_at_cases, key_cases, some_is_none}
use Rattle.pfl_track.specs.declared.state.State.{State}
use Rattle.pfl_table.specs.Tables.{States}
use Rattle.pfl_table.proofs.ForCallers.{OwnsKeys, OwnsKeys-known, AreStates-with}
use Rattle.pfl_queue.specs.declared.Kind.{Kind}
use Rattle.pfl_queue.specs.declared.Kind.TheVariants.{Delete}
use Rattle.pfl_queue.specs.declared.Mark.{Mark}
use Rattle.pfl_queue.specs.Queues.{room_fault, most_numbers}
use Rattle.pfl_queue.proofs.ForCallers.{marked_kept}
use Rattle.pfl_desk.specs.inner.Kept.{MayReplace, MayMark}
use Rattle.pfl_desk.specs.Nodes.{Node, AreParts, IsNodeState, IsGiven, MarksRightly}
use Rattle.pfl_desk.specs.Changes.{put_state, mark}
use Rattle.pfl_desk.proofs.Keeps.{keeps_states, keeps_queue}

pub inner : {X : Type 0} (x y : X) → Some x ≡ Some y → x ≡ y
inner x y e = cc

-- what stands under a name, if anything, is announced
abbrev pub IsTold : Option State → Type 0
IsTold at = IfSome at (λ s. s.no_sync ≡ false)

-- a mark of a name under which the same stands
pub rightly-still : (n : Node) (m : States) (name : StateName) (k : Mark) → maps.get m name ≡ maps.get n.states name
    → MarksRightly n name k → MarksRightly (record n { states = m }) name k
rightly-still n m name k still rightly =
    (λ none. rightly.0 (sym still ∙ none), (λ off gone. still ∙ rightly.1.0 off gone, subst IsTold (sym still) rightly.1.1))

pub put-node : (n : Node) (s : State) → AreParts n → OwnsKeys n.states s → maps.len (maps.insert n.states s.name s) ≤ n.limits.states → IsNodeState n s
    → ((k : Mark) → maps.get n.queue.marks s.name ≡ Some k → (n.limits.kernel.revive ≡ false → k.kind ≢ Delete) × (s.no_sync ≡ false))
    → AreParts (put_state n s)
put-node n s is owns few it kinds =
    let m = maps.insert n.states s.name s in
    keeps_states n m is (AreStates-with n.states s is.states owns) few
    (λ name u at. elim (get-set_at_cases names_total names_exact n.states s.name (Some s) name u at) [
      | inl here ↦ subst (IsNodeState n) (inner s u here.1) it
      | inr other ↦ is.each name u other.1
    ])
    (λ name k at. elim (key_cases names_total names_exact name s.name) [
      | inl same ↦
          let stands = ap (maps.get m) same ∙ get-set_at_same names_total names_exact n.states s.name (Some s) in
          let facts = kinds k (ap (maps.get n.queue.marks) (sym same) ∙ at) in
          (λ none. absurd (some_is_none s (sym stands ∙ none)), (λ off gone. absurd (facts.0 off gone), subst IsTold (sym stands) facts.1))
      | inr other ↦ rightly-still n m name k (get-set_at_other names_total names_exact n.states s.name (Some s) name other) (is.marks name k at).1
    ])

-- in place of a state of its name and keys
pub replaced-node : (n : Node) (s : State) → AreParts n → MayReplace n s → AreParts (put_state n s)
replaced-node n s is may =
    let filed : may.former.name ≡ s.name = is.states.filed s.name may.former may.stands in
    let stands : maps.get n.states may.former.name ≡ Some may.former = ap (maps.get n.states) filed ∙ may.stands in
    let same = len-insert names_total n.states s.name s ∙ ap (λ (o : Option State). cond (is_some o) (maps.len n.states) (maps.len n.states + 1)) may.stands in
    put-node n s is (OwnsKeys-known n.states may.former s is.states stands (record { name = sym filed; wire = may.wire; stack = may.stack }))
    (let few = is.few in omega (arith, same, few)) may.is
    (λ k at.
    let rightly = (is.marks s.name k at).1 in
    (λ off gone. some_is_none may.former (sym may.stands ∙ rightly.1.0 off gone), may.no_sync ∙ subst IsTold may.stands rightly.1.1))

-- ---- marks

-- a name that may be on a queue, and that there is room for, is marked
pub marked-node : (n : Node) (name : StateName) (kind : Kind) → AreParts n → MayMark n name kind → room_fault n.queue name ≡ None
    → n.queue.next < most_numbers → AreParts (mark n name kind)
marked-node n name kind is may free number =
    keeps_queue n _ is (marked_kept n.queue is.queue name kind free number) refl
    (λ q k at. elim (get-set_at_cases names_total names_exact n.queue.marks name (Some (record { name = name; kind = kind; number = n.queue.next })) q k at) [
      | inl here ↦ (
        subst (IsGiven n) (sym here.0) may.given,
        subst (λ (o : StateName). MarksRightly n o k) (sym here.0)
            (subst (MarksRightly n name) (inner _ k here.1) may.rightly),
      )
      | inr old ↦ is.marks q k old.1
    ])

-- a name with a state that is announced may be on each queue but that of deletions
pub told-may : (n : Node) (name : StateName) (kind : Kind) (s : State) → maps.get n.states name ≡ Some s → s.no_sync ≡ false
    → IsGiven n name → kind ≢ Delete → MayMark n name kind
told-may n name kind s there told given other = record {
  given = given;
  rightly = (λ none. absurd (some_is_none s (sym there ∙ none)), (λ off gone. absurd (other gone), subst IsTold (sym there) told));
}

-- a name without a state may be on that
pub gone-may : (n : Node) (name : StateName) → maps.get n.states name ≡ None → IsGiven n name → MayMark n name Delete
gone-may n name none given = record { given = given; rightly = (λ nothing. refl, (λ off gone. none, subst IsTold (sym none) tt)) }
