-- What a call promises that carries an event out at a node (this project's profile).
--
-- `refusal` says why the event is refused, if there is a reason, and `after` what the node is where there is none. The edits lead the
-- node back, and are at most k.
use Rattle.std.specs.Prelude.{◌≡◌, ◌≤◌, ℕ, List, length, Option, None, Result, IfOk, IfErr, OnOk, OnErr}
use Rattle.pfl_base.specs.declared.refusal.Refusal.{Refusal}
use Rattle.pfl_edits.specs.Changes.{Edits}
use Rattle.pfl_receive.specs.desk.declared.edit.NodeEdit.{NodeEdit}
use Rattle.pfl_receive.specs.desk.Edits.{NodeLeadsBack, NodeRecorded}
use Rattle.pfl_receive.specs.desk.Nodes.{Node, IsRefusal}

-- The event is refused for its reason, or for want of memory, and node and record are as they were; or the node is the one after it,
-- with a right answer, and its edits are recorded after those from before, each as the edit of a whole that `of` says.
pub record NodeSteps {T W : Type 0} (of : NodeEdit → W) (k : ℕ) (refusal : Option Refusal) (after : Node) (IsAnswer : T → Type 0)
    (result : Result T Refusal) (old new : Node) (recorded_before recorded_after : List W) : Type 0 where
  pub refused : IfErr result (IsRefusal refusal)
  pub unchanged : OnErr result (new ≡ old)
  pub untaken : OnErr result (recorded_after ≡ recorded_before)
  pub not_refused : OnOk result (refusal ≡ None)
  pub node : OnOk result (new ≡ after)
  pub answer : IfOk result IsAnswer
  pub recorded : OnOk result (NodeRecorded of k old new recorded_before recorded_after)

-- The same of a call that returns the edits with the answer.
pub record NodeGives {T : Type 0} (k : ℕ) (refusal : Option Refusal) (after : Node) (IsAnswer : T → Type 0)
    (result : Result (T × Edits NodeEdit) Refusal) (old new : Node) : Type 0 where
  pub refused : IfErr result (IsRefusal refusal)
  pub unchanged : OnErr result (new ≡ old)
  pub not_refused : OnOk result (refusal ≡ None)
  pub node : OnOk result (new ≡ after)
  pub answer : IfOk result (λ r. IsAnswer r.0)
  pub leads_back : IfOk result (λ r. NodeLeadsBack r.1.list old new)
  pub weight : IfOk result (λ r. length r.1.list ≤ k)

-- a call that has nothing to answer
abbrev pub Any : {T : Type 0} → T → Type 0
Any _ = Unit {0}
