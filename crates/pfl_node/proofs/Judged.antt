-- How an event ends that was carried out on a desk: it is judged by its points, and what it recorded stands, or is taken back.
use Rattle.std.specs.Prelude.{◌≡◌, ℕ, ◌+◌, Bool, true, false, ◌||◌, List, [], ◌∷◌, length, Option, Some, None, Result, Ok, Err, IfOk, IfErr, OnOk, OnErr}
use Rattle.std.specs.Prelude.{if◌then◌else◌, refl}
use Rattle.std.specs.List.{list_any}
use Rattle.std.proofs.Common.{◌∙◌, ap, sym, subst}
use Rattle.pfl_base.specs.declared.refusal.Refusal.{Refusal}
use Rattle.pfl_base.specs.declared.refusal.Refusal.TheVariants.{QueueFull, CountFull}
use Rattle.pfl_edits.specs.Changes.{Edits}
use Rattle.pfl_receive.specs.desk.declared.edit.NodeEdit.{NodeEdit}
use Rattle.pfl_receive.specs.desk.declared.parts.judge.Overfull.{Overfull}
use Rattle.pfl_receive.specs.desk.Drafts.{Draft, Writes, AllRecorded, began}
use Rattle.pfl_receive.specs.desk.inner.Judging.{Went, end_judgement, judged_as, judgement}
use Rattle.pfl_receive.specs.desk.Nodes.{Node, AreParts, IsNode, IsRefusal, is_overcounted, is_overfull, points_refusal, refused_by}
use Rattle.pfl_receive.proofs.ForCallers.desk.{went-refusal, went-counted, writes-none}
use Rattle.pfl_node.specs.Calls.{NodeGives, NodeSteps}
use Rattle.pfl_node.specs.inner.Carried.{Does}
use Rattle.pfl_node.specs.inner.Room.{IsReady}
use Rattle.pfl_node.proofs.Ready.{concluded, alone}

-- ---- it is judged

-- by the points that it went through
pub by-points : {T : Type 0} (k : ℕ) (refusal : Option Refusal) (after : Node) (IsAnswer : T → Type 0) (points : List Node) (a b : Draft)
    (tried : Result (T × Bool) Overfull) (result : Result T Refusal) → judged_as result ≡ judgement tried → IfOk result (λ t. tried ≡ Ok (t, false))
    → refusal ≡ points_refusal points → Went tried points → OnOk tried (b.node ≡ after) → IfOk tried (λ r. IsAnswer r.0)
    → ((t : T) → tried ≡ Ok (t, false) → list_any is_overcounted points ≡ false → is_overcounted b.node ≡ false)
    → Writes k a b → Does k refusal after IsAnswer result a b
by-points {T} k refusal after IsAnswer points a b tried (Ok t) refused stands why went node answer counted writes = record {
  refused = tt;
  not_refused = why ∙ (went-refusal tried points went ∙ sym refused);
  node = subst (λ (q : Result (T × Bool) Overfull). OnOk q (b.node ≡ after)) stands node;
  answer = subst (λ (q : Result (T × Bool) Overfull). IfOk q (λ r. IsAnswer r.0)) stands answer;
  counted = counted t stands (went-counted tried t points went stands);
  writes = writes;
}
by-points k refusal after IsAnswer points a b tried (Err e) refused stands why went node answer counted writes = record {
  refused = subst (λ (o : Option Refusal). IsRefusal o e) (sym (why ∙ (went-refusal tried points went ∙ sym refused))) refl;
  not_refused = tt;
  node = tt;
  answer = tt;
  counted = tt;
  writes = writes;
}

-- by its end, which is the only point that it goes through
one_point : (a b : Bool) → refused_by ((a || false, QueueFull) ∷ (b || false, CountFull) ∷ [])
    ≡ (if a then Some QueueFull else if b then Some CountFull else None)
one_point true b = refl
one_point false true = refl
one_point false false = refl

end-refusal : {T : Type 0} (after b : Node) (tried : Result T Overfull) → OnErr tried (is_overfull after ≡ true) → OnOk tried (b ≡ after)
    → is_overfull b ≡ false → points_refusal (after ∷ []) ≡ end_judgement tried b
end-refusal after b (Ok t) full node fits =
    one_point (is_overfull after) (is_overcounted after)
    ∙ (λ i. if (ap is_overfull (sym node) ∙ fits) i then Some QueueFull else if is_overcounted (sym node i) then Some CountFull else None)
end-refusal after b (Err e) full node fits =
    one_point (is_overfull after) (is_overcounted after)
    ∙ (λ i. if full i then Some QueueFull else if is_overcounted after then Some CountFull else None)

low : (b : Bool) → (if b then Some CountFull else None) ≡ None → b ≡ false
low true e = absurd (cc)
low false e = refl

pub by-end : {T : Type 0} (k : ℕ) (refusal : Option Refusal) (after : Node) (IsAnswer : T → Type 0) (a b : Draft) (tried : Result T Overfull)
    (result : Result T Refusal) → judged_as result ≡ end_judgement tried b.node → IfOk result (λ t. tried ≡ Ok t) → is_overfull b.node ≡ false
    → refusal ≡ points_refusal (after ∷ []) → OnErr tried (is_overfull after ≡ true) → OnOk tried (b.node ≡ after) → IfOk tried IsAnswer
    → Writes k a b → Does k refusal after IsAnswer result a b
by-end {T} k refusal after IsAnswer a b tried (Ok t) refused stands fits why full node answer writes = record {
  refused = tt;
  not_refused = why ∙ (end-refusal after b.node tried full node fits ∙ sym refused);
  node = subst (λ (q : Result T Overfull). OnOk q (b.node ≡ after)) stands node;
  answer = subst (λ (q : Result T Overfull). IfOk q IsAnswer) stands answer;
  counted = low (is_overcounted b.node) (ap (λ (q : Result T Overfull). end_judgement q b.node) (sym stands) ∙ sym refused);
  writes = writes;
}
by-end k refusal after IsAnswer a b tried (Err e) refused stands fits why full node answer writes = record {
  refused = subst (λ (o : Option Refusal). IsRefusal o e) (sym (why ∙ (end-refusal after b.node tried full node fits ∙ sym refused))) refl;
  not_refused = tt;
  node = tt;
  answer = tt;
  counted = tt;
  writes = writes;
}

-- by a test of its own
pub by-judgement : {T : Type 0} (k : ℕ) (refusal : Option Refusal) (after : Node) (IsAnswer : T → Type 0) (a b : Draft) (result : Result T Refusal)
    → refusal ≡ judged_as result → b.node ≡ after → IfOk result IsAnswer → OnOk result (is_overcounted b.node ≡ false) → Writes k a b
    → Does k refusal after IsAnswer result a b
by-judgement k refusal after IsAnswer a b (Ok t) why node answer counted writes = record {
  refused = tt;
  not_refused = why;
  node = node;
  answer = answer;
  counted = counted;
  writes = writes;
}
by-judgement k refusal after IsAnswer a b (Err e) why node answer counted writes = record {
  refused = subst (λ (o : Option Refusal). IsRefusal o e) (sym why) refl;
  not_refused = tt;
  node = tt;
  answer = tt;
  counted = tt;
  writes = writes;
}

-- it is refused before it changes anything
pub at-once : {T : Type 0} (k : ℕ) (refusal : Option Refusal) (after : Node) (IsAnswer : T → Type 0) (a : Draft) (e : Refusal) → refusal ≡ Some e
    → Does k refusal after IsAnswer (Err e) a a
at-once k refusal after IsAnswer a e why = record {
  refused = subst (λ (o : Option Refusal). IsRefusal o e) (sym why) refl;
  not_refused = tt;
  node = tt;
  answer = tt;
  counted = tt;
  writes = writes-none k a;
}

-- the node after it, in other words
pub moved-to : {T : Type 0} {k : ℕ} {refusal : Option Refusal} {after meant : Node} {IsAnswer : T → Type 0} {result : Result T Refusal} {a b : Draft}
    → after ≡ meant → Does k refusal after IsAnswer result a b → Does k refusal meant IsAnswer result a b
moved-to {T} {k} {refusal} {after} {meant} {IsAnswer} {result} {a} {b} same d = subst (λ (n : Node). Does k refusal n IsAnswer result a b) same d

-- ---- it ends

-- what was answered stands
stood : {T : Type 0} (done : Result T Refusal) (P : T → Type 0) → IfOk done P → (result : Result T Refusal)
    → IfOk result (λ t. done ≡ Ok t) → IfOk result P
stood {T} done P answer (Ok t) stands = subst (λ (q : Result T Refusal). IfOk q P) stands answer
stood done P answer (Err e) stands = tt

-- and what was true where it was
held : {T : Type 0} (P : Type 0) (done : Result T Refusal) → OnOk done P → (result : Result T Refusal) → IfOk result (λ t. done ≡ Ok t) → OnOk result P
held {T} P done p (Ok t) stands = subst (λ (q : Result T Refusal). OnOk q P) stands p
held P done p (Err e) stands = tt

-- the node that was kept is the one after the event
kept_as : {T : Type 0} (m n after : Node) (result : Result T Refusal) → OnOk result (n ≡ after) → OnOk result (m ≡ n) → OnOk result (m ≡ after)
kept_as m n after (Ok t) same kept = kept ∙ same
kept_as m n after (Err e) same kept = tt

-- what is refused in the end is refused for the event's reason, or for want of memory
refused_as : {T : Type 0} (refusal : Option Refusal) (done : Result T Refusal) → IfErr done (IsRefusal refusal) → OnOk done (refusal ≡ None)
    → (result : Result T Refusal) → IfErr result (IsRefusal (judged_as done)) → IfErr result (IsRefusal refusal)
refused_as refusal done why none (Ok t) refused = tt
refused_as refusal (Ok t) why none (Err e) refused = subst (λ (o : Option Refusal). IsRefusal o e) (sym none) refused
refused_as refusal (Err f) why none (Err e) refused = subst (IsRefusal refusal) (sym refused) why

-- the node n is on the desk d again, ready for the next event
pub record Ends {T W : Type 0} (of : NodeEdit → W) (k : ℕ) (refusal : Option Refusal) (after : Node) (IsAnswer : T → Type 0) (n : Node) (d : Draft)
    (before later : List W) (result : Result T Refusal) : Type 0 where
  pub node : IsNode d.node
  pub ready : IsReady d.node.limits d.edits
  pub steps : NodeSteps of k refusal after IsAnswer result n d.node before later

pub ends : {T W : Type 0} (of : NodeEdit → W) (before later : List W) (k : ℕ) (refusal : Option Refusal) (after : Node) (IsAnswer : T → Type 0)
    (a b d : Draft) (done result : Result T Refusal) → IsNode a.node → IsReady a.node.limits a.edits → Does k refusal after IsAnswer done a b
    → IfErr result (IsRefusal (judged_as done)) → OnErr result (d.node ≡ began b) → OnErr result (later ≡ before)
    → IfOk result (λ t. done ≡ Ok t) → OnOk result (d.node ≡ b.node) → OnOk result (AreParts d.node)
    → OnOk result (AllRecorded of b d.node before later) → d.edits.list ≡ [] → d.edits.spare ≡ b.edits.spare + length b.edits.list
    → Ends of k refusal after IsAnswer a.node d before later result
ends {T} of before later k refusal after IsAnswer a b d done result is ready does refused undone untaken stands kept parts recorded none room =
    let counted = λ (t : T) (stand : done ≡ Ok t). subst (λ (q : Result T Refusal). OnOk q (is_overcounted b.node ≡ false)) stand does.counted in
    let all = concluded of before later k a b d (λ t. done ≡ Ok t) is ready does.writes counted none room result undone stands kept parts recorded in
    record {
      node = all.node;
      ready = all.ready;
      steps = record {
        refused = refused_as refusal done does.refused does.not_refused result refused;
        unchanged = all.unchanged;
        untaken = untaken;
        not_refused = held (refusal ≡ None) done does.not_refused result stands;
        node = kept_as d.node b.node after result (held (b.node ≡ after) done does.node result stands) kept;
        answer = stood done IsAnswer does.answer result stands;
        recorded = all.recorded;
      };
    }

-- ---- with its edits in a change of their own

pub gives-ok : {T : Type 0} (k : ℕ) (refusal : Option Refusal) (after : Node) (IsAnswer : T → Type 0) (t : T) (edits : Edits NodeEdit) (old new : Node)
    (before : List NodeEdit) (result : Result T Refusal) → result ≡ Ok t → before ≡ []
    → NodeSteps (λ e. e) k refusal after IsAnswer result old new before edits.list → NodeGives k refusal after IsAnswer (Ok (t, edits)) old new
gives-ok {T} k refusal after IsAnswer t edits old new before result was none s =
    let stands = subst (λ (q : Result T Refusal). NodeSteps (λ e. e) k refusal after IsAnswer q old new before edits.list) was s in
    let own = alone k old new before edits.list stands.recorded none in
    record {
      refused = tt;
      unchanged = tt;
      not_refused = stands.not_refused;
      node = stands.node;
      answer = stands.answer;
      leads_back = own.leads_back;
      weight = own.weight;
    }
