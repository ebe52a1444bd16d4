-- The pair of nodes and the link between them (this project's profile).
use Rattle.std.specs.Prelude.{◌≡◌, ◌≤◌, ℕ, Option, Some, None}
use Rattle.std.specs.Option.{option_map}
use Rattle.pfl_base.specs.declared.node_id.NodeId.{NodeId}
use Rattle.pfl_base.specs.declared.node_id.NodeId.TheVariants.{A, B}
use Rattle.pfl_rules.specs.Rules.{Rules}
use Rattle.pfl_language.specs.declared.limits.Limits.{Limits}
use Rattle.pfl_language.specs.declared.limits.LimitFault.{LimitFault}
use Rattle.pfl_language.specs.declared.limits.LimitFault.TheVariants as limit
use Rattle.pfl_language.specs.Limits.{limit_fault}
use Rattle.pfl_node.specs.desk.Nodes.{Node, IsNode, new_node}
use Rattle.pfl_link.specs.Links.{Link, IsLink, empty_link}
use Rattle.pfl_world.specs.declared.fault.WorldFault.{WorldFault}
use Rattle.pfl_world.specs.declared.fault.WorldFault.TheVariants.{TooSmall, TooLarge, NoMemory}

-- both nodes
pub record Nodes : Type 0 where
  pub a : Node
  pub b : Node

-- the whole state of the pair
pub record World : Type 0 where
  pub a : Node
  pub b : Node
  pub link : Link
  pub next_boot : ℕ

-- the parts of a world agree: both nodes and the link have the same limits, and the next boot has a number
pub record PartsAgree (w : World) : Type 0 where
  pub nodes : w.b.limits ≡ w.a.limits
  pub link : w.link.limit ≡ w.a.limits.frames
  pub mtu : w.link.mtu ≡ w.a.limits.mtu
  pub countable : w.next_boot ≤ 4294967295

-- a world
pub record IsWorld (w : World) : Type 0 where
  pub a : IsNode w.a
  pub b : IsNode w.b
  pub link : IsLink w.link
  pub parts : PartsAgree w

-- two nodes and their link, as a world
abbrev pub joined : Nodes → Link → ℕ → World
joined ns link next_boot = record { a = ns.a; b = ns.b; link = link; next_boot = next_boot }

-- of a's node and b's, that of the name
abbrev pub of_name : NodeId → Node → Node → Node
of_name A a b = a
of_name B a b = b

-- the node of the name
abbrev pub node_at : World → NodeId → Node
node_at w id = of_name id w.a w.b

-- the world with this node
abbrev pub with_node : World → NodeId → Node → World
with_node w id n = record w { a = of_name id n w.a; b = of_name id w.b n }

-- the world with this link
abbrev pub with_link : World → Link → World
with_link w l = record w { link = l }

-- the pair before any event, with these next numbers: of ids, queueing numbers and tickets, and of boots; the nodes are boots 1 and 2
abbrev pub opening_world : Limits → Rules → Rules → ℕ → ℕ → World
opening_world limits rules_a rules_b next next_boot = record {
  a = new_node limits rules_a 1 next 0;
  b = new_node limits rules_b 2 next 0;
  link = empty_link limits.frames limits.mtu next;
  next_boot = next_boot;
}

-- the pair before any event: each next number is the first that was not given
abbrev pub new_world : Limits → Rules → Rules → World
new_world limits rules_a rules_b = opening_world limits rules_a rules_b 1 3

-- the same with all next numbers `start`
abbrev pub new_world_at : Limits → Rules → Rules → ℕ → World
new_world_at limits rules_a rules_b start = opening_world limits rules_a rules_b start start

-- the fault of a pair with limits that have this one
abbrev pub from_limits : LimitFault → WorldFault
from_limits limit.TooSmall = TooSmall
from_limits limit.TooLarge = TooLarge

-- why there is no pair with these limits, if there is a reason in them
abbrev pub world_fault : Limits → Option WorldFault
world_fault l = option_map from_limits (limit_fault l)

-- a fault that is reported: the one of the limits; where they have none, want of memory
abbrev pub IsFault : Option WorldFault → WorldFault → Type 0
IsFault (Some first) f = f ≡ first
IsFault None f = f ≡ NoMemory
