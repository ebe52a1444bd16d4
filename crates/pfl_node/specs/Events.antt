-- What a restart makes of a node (its form is this project's profile).
use Rattle.std.specs.Prelude.{ℕ}
use Rattle.pfl_bulk.specs.Bulk.{no_name, first_asked}
use Rattle.pfl_receive.specs.desk.Nodes.{Node, new_node}
use Rattle.pfl_receive.specs.desk.Changes.{ask}

-- a node as new but for its clock and rules, which asks for all states
unfoldable pub restarted : Node → ℕ → Node
restarted n boot = record (ask (new_node n.limits n.rules boot 1 n.clock) no_name) { client = first_asked n.clock }
