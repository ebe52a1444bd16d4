-- What it takes to do what was decided.
use Rattle.std.specs.Prelude.{ℕ, ◌≡◌, true, length}
use Rattle.pfl_track.specs.declared.state.State.{State}
use Rattle.pfl_desk.specs.queue.declared.Kind.TheVariants.{InsertAck, Update}
use Rattle.pfl_desk.specs.Changes.{lost, put_state}
use Rattle.pfl_desk.specs.inner.Kept.{MayAdd, MayMark, MayReplace}
use Rattle.pfl_desk.specs.Nodes.{Node, AreParts}
use Rattle.pfl_receive.specs.declared.decision.Decision.{Decision}
use Rattle.pfl_receive.specs.declared.decision.Decision.TheVariants.{Import, Merge, Queue, Delete, Clear, Hear, Nothing}
use Rattle.pfl_receive.specs.Receiving.{cleared_names, is_known}

-- the state may be taken over, and then acknowledged
pub record MayTakeOver (n : Node) (s : State) : Type 0 where
  pub parts : AreParts (put_state n s)
  pub add : MayAdd n s
  pub mark : MayMark (put_state n s) s.name InsertAck

-- what was decided may be done at the node
abbrev pub MayDo : Node → Decision → Type 0
MayDo n (Import s ack_wanted) = MayTakeOver n s
MayDo n (Merge m) = MayReplace (lost n m.state.name) m.state
MayDo n (Queue name) = MayMark n name Update
MayDo n (Delete name) = is_known n name ≡ true
MayDo n other = Unit {0}

-- what is done is paid by this many edits, and by four for each state that it takes out
abbrev pub done_edits : Decision → ℕ
done_edits (Import s ack_wanted) = 7
done_edits (Merge m) = 11
done_edits (Delete name) = 0
done_edits (Clear creator bound) = 0
done_edits (Hear status) = 1
done_edits Nothing = 0
done_edits other = 3

-- the states that it clears
abbrev pub cleared_in : Node → Decision → ℕ
cleared_in n (Clear creator bound) = length (cleared_names n creator bound)
cleared_in n other = 0
