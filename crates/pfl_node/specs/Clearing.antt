-- A node gives up all its states (if_pfsync.c; that it does so is this project's profile).
use Rattle.std.specs.Prelude.{ℕ, ◌*◌, ◌+◌, ◌-◌, [], ◌∷◌, Option}
use Rattle.std.specs.List.{fold}
use Rattle.pfl_base.specs.declared.refusal.Refusal.{Refusal}
use Rattle.pfl_edits.specs.Maps as maps
use Rattle.pfl_language.specs.declared.node_event.NodeOutcome.TheVariants.{Cleared}
use Rattle.pfl_receive.specs.desk.Nodes.{Node, points_refusal}
use Rattle.pfl_receive.specs.desk.Changes.{announce_clear, forgotten}
use Rattle.pfl_receive.specs.desk.Weights.{forgotten_edits, listed_edits}
use Rattle.pfl_node.specs.Meanings.{NodeMeaning}

-- all states go unannounced, and the peer is asked to clear up to the last id
unfoldable pub cleared : Node → Node
cleared n = announce_clear (fold forgotten n (maps.keys n.states)) n.creator (n.next_id - 1)

-- why a clear is refused: it cannot be sent
abbrev pub clear_refusal : Node → Option Refusal
clear_refusal n = points_refusal (cleared n ∷ [])

-- a clear takes at most this many edits
abbrev pub clear_edits : Node → ℕ
clear_edits n = forgotten_edits * maps.len n.states + listed_edits

-- what a clear means
abbrev pub clear_meaning : Node → NodeMeaning
clear_meaning n = record {
  refusal = clear_refusal n;
  after = cleared n;
  outcome = Cleared (maps.len n.states);
  points = cleared n ∷ [];
  work = maps.len n.states;
}
