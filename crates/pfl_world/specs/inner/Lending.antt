-- How a node of the pair is lent to what changes it. It says nothing of what a node does.
use Rattle.std.specs.Borrow.{Lends, MutBor, Fml, RattleType}
use Rattle.std.specs.declared.alloc.Allocator.{Ghosts}
use Rattle.pfl_base.specs.declared.node_id.NodeId.{NodeId}
use Rattle.pfl_node.specs.desk.Nodes.{Node}
use Rattle.pfl_node.specs.contracts.node.Node as node
use Rattle.pfl_world.specs.contracts.nodes.Nodes.{the_row}
use Rattle.pfl_world.specs.Worlds.{Nodes, of_name}

-- the nodes end with the last value after the reference under the name
abbrev pub LendsNode : (M : RattleType) → Ghosts M.Denot → MutBor Nodes → NodeId → MutBor Node → Fml
LendsNode M memory ns id r = Lends (the_row M memory) (node.the_row M memory) ns r (λ n. record { a = of_name id n ns.now.a; b = of_name id ns.now.b n })
