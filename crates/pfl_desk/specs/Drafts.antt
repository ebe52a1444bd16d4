-- A node while an event changes it, with what was recorded since the event began (this project's profile).
use Rattle.std.specs.Prelude.{◌≡◌, ◌≤◌, ℕ, ◌+◌, List, length}
use Rattle.pfl_edits.specs.Changes.{Edits, back}
use Rattle.pfl_edits.specs.Recorders.{Recorded}
use Rattle.pfl_desk.specs.declared.edit.NodeEdit.{NodeEdit}
use Rattle.pfl_desk.specs.Edits.{Finds, put_back}
use Rattle.pfl_desk.specs.Nodes.{Node, AreParts}

-- a node as it stands, and the edits since the event began, with the room for those that it still makes
pub record Draft : Type 0 where
  pub node : Node
  pub edits : Edits NodeEdit

-- the node that the event began with
abbrev pub began : Draft → Node
began d = back put_back d.edits.list d.node

-- at most as many edits as were recorded since the event began were recorded elsewhere, each as that of a whole that `of` says; they lead
-- back from the node as it stands to where the event began
abbrev pub AllRecorded : {W : Type 0} → (NodeEdit → W) → Draft → Node → List W → List W → Type 0
AllRecorded of d n = Recorded Finds AreParts put_back of (length d.edits.list) (began d) n

-- from one draft to a later one of the same event at most k edits were recorded, in room that was there
pub record Writes (k : ℕ) (d e : Draft) : Type 0 where
  pub spare : d.edits.spare ≤ e.edits.spare + k
  pub room : e.edits.spare + length e.edits.list ≡ d.edits.spare + length d.edits.list
  pub began : began e ≡ began d
