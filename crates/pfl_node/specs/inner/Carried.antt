-- How an event is carried out on the desk of a node.
use Rattle.std.specs.Prelude.{◌≡◌, ℕ, Result, Option, None, IfOk, IfErr, OnOk, OnErr, true, false, List, Bool}
use Rattle.pfl_base.specs.declared.refusal.Refusal.{Refusal}
use Rattle.pfl_language.specs.declared.fate.Fate.{Fate}
use Rattle.pfl_language.specs.declared.node_event.NodeOutcome.{NodeOutcome}
use Rattle.pfl_receive.specs.desk.declared.parts.judge.Overfull.{Overfull}
use Rattle.pfl_receive.specs.desk.Drafts.{Draft, Writes}
use Rattle.pfl_receive.specs.desk.Nodes.{Node, IsNode, IsRefusal, is_overcounted, is_overfull}
use Rattle.pfl_receive.specs.desk.inner.Judging.{Went}
use Rattle.pfl_receive.specs.desk.inner.Kept.{MayStart}
use Rattle.pfl_node.specs.Meanings.{NodeMeaning}
use Rattle.pfl_node.specs.declared.packet.ruling.Ruling.{Ruling}
use Rattle.pfl_node.specs.declared.packet.ruling.Ruling.TheVariants.{Starts}
use Rattle.pfl_node.specs.Starting.{Handled}
use Rattle.pfl_node.specs.inner.Room.{IsReady}

-- between events a node is on the desk, with nothing recorded and room for all that an event records
pub record IsIdle (d : Draft) : Type 0 where
  pub node : IsNode d.node
  pub ready : IsReady d.node.limits d.edits

-- An event is refused for its reason, or for want of memory; or the node is the one after it, with a right answer and no number too
-- high. It makes at most k edits on the desk.
pub record Does {T : Type 0} (k : ℕ) (refusal : Option Refusal) (after : Node) (IsAnswer : T → Type 0) (result : Result T Refusal) (old new : Draft)
    : Type 0 where
  pub refused : IfErr result (IsRefusal refusal)
  pub not_refused : OnOk result (refusal ≡ None)
  pub node : OnOk result (new.node ≡ after)
  pub answer : IfOk result IsAnswer
  pub counted : OnOk result (is_overcounted new.node ≡ false)
  pub writes : Writes k old new

-- an event is carried out as it means by at most k edits, and its answer is the outcome in this form
abbrev pub Carries : {T : Type 0} → ℕ → NodeMeaning → (T → NodeOutcome) → Result T Refusal → Draft → Draft → Type 0
Carries k m form = Does k m.refusal m.after (λ t. form t ≡ m.outcome)

-- a packet gives h, by at most k edits, or stops where too much is pending
pub record Tried (k : ℕ) (result : Result Fate Overfull) (old new : Draft) (h : Handled) : Type 0 where
  pub full : OnErr result (is_overfull h.node ≡ true)
  pub step : IfOk result (λ fate. record { fate = fate; node = new.node } ≡ h)
  pub writes : Writes k old new

-- a packet gives h and goes through these points, by at most 14 edits, or stops where too much is pending
pub record Handles (result : Result (Fate × Bool) Overfull) (old new : Draft) (h : Handled) (points : List Node) : Type 0 where
  pub went : Went result points
  pub step : IfOk result (λ r. record { fate = r.0; node = new.node } ≡ h)
  pub writes : Writes 14 old new

-- what the rules made of a packet may be done at the node: a state that it makes may be started there
abbrev pub MayCarry : Node → Ruling → Type 0
MayCarry n (Starts rule s) = MayStart n s
MayCarry n other = Unit {0}
