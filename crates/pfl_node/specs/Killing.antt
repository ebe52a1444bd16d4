-- A state is deleted by its name (its form is this project's profile).
use Rattle.std.specs.Prelude.{[], ◌∷◌, Option, is_none}
use Rattle.std.specs.Option.{option_map_or}
use Rattle.pfl_base.specs.declared.refusal.Refusal.{Refusal}
use Rattle.pfl_base.specs.declared.refusal.Refusal.TheVariants.{NoSuchState}
use Rattle.pfl_base.specs.declared.state_name.StateName.{StateName}
use Rattle.pfl_edits.specs.Maps as maps
use Rattle.pfl_language.specs.declared.node_event.NodeOutcome.TheVariants.{Killed}
use Rattle.pfl_receive.specs.desk.Nodes.{Node, full_tests, refused_by}
use Rattle.pfl_receive.specs.desk.Changes.{deleted}
use Rattle.pfl_node.specs.Meanings.{NodeMeaning}

-- the node without the state of the name, by itself
abbrev pub killed : Node → StateName → Node
killed n name = option_map_or (deleted n) (maps.get n.states name) n

-- why a deletion is refused: no state has the name, or the deletion cannot be announced
abbrev pub kill_refusal : Node → StateName → Option Refusal
kill_refusal n name = refused_by ((is_none (maps.get n.states name), NoSuchState) ∷ full_tests (killed n name ∷ []))

-- what a deletion means
abbrev pub kill_meaning : Node → StateName → NodeMeaning
kill_meaning n name = record {
  refusal = kill_refusal n name;
  after = killed n name;
  outcome = Killed;
  points = killed n name ∷ [];
  work = 1;
}
