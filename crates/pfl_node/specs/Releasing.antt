-- Held packets whose time has come go out (ifconfig(8), `defer`; if_pfsync.c: the time).
use Rattle.std.specs.Prelude.{ℕ, ◌*◌, ◌==◌, List, [], ◌∷◌, length, map, Option}
use Rattle.std.specs.List.{fold}
use Rattle.pfl_base.specs.declared.refusal.Refusal.{Refusal}
use Rattle.pfl_base.specs.declared.refusal.Refusal.TheVariants.{NothingPending, CountFull, TooEarly}
use Rattle.pfl_base.specs.declared.state_name.StateName.{StateName}
use Rattle.pfl_receive.specs.defer.Deferring.{due}
use Rattle.pfl_language.specs.declared.node_event.NodeOutcome.TheVariants.{Released}
use Rattle.pfl_receive.specs.desk.Nodes.{Node, is_overcounted, refused_by}
use Rattle.pfl_receive.specs.desk.Changes.{released}
use Rattle.pfl_receive.specs.desk.Weights.{released_edits}
use Rattle.pfl_node.specs.Meanings.{NodeMeaning}

-- the names of the packets that are due, the oldest first
abbrev pub due_names : Node → List StateName
due_names n = map (λ h. h.name) (due n.held n.clock n.limits.defer_ms)

-- the due packets go out
unfoldable pub released_due : Node → Node
released_due n = fold released n (due_names n)

-- none is held, or none is due
abbrev pub release_refusal : Node → Option Refusal
release_refusal n = refused_by
    ((length n.held.list == 0, NothingPending) ∷ (length (due_names n) == 0, TooEarly) ∷ (is_overcounted (released_due n), CountFull) ∷ [])

-- a release takes at most this many edits
abbrev pub release_edits : Node → ℕ
release_edits n = released_edits * length (due_names n)

-- what a release means
abbrev pub release_meaning : Node → NodeMeaning
release_meaning n = record {
  refusal = release_refusal n;
  after = released_due n;
  outcome = Released (length (due_names n));
  points = released_due n ∷ [];
  work = length (due_names n);
}
