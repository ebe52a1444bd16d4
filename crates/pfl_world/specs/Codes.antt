-- A world and its nodes as nested pairs, by which the logic distinguishes two of them. It says nothing of worlds.
use Rattle.std.specs.Prelude.{ℕ, refl}
use Rattle.std.specs.Coded.{Coded, code_by, coded×, coded_ℕ}
use Rattle.pfl_node.specs.desk.Nodes.{Node}
use Rattle.pfl_node.specs.desk.Codes.{coded_node}
use Rattle.pfl_link.specs.Links.{Link, coded_link}
use Rattle.pfl_world.specs.Worlds.{Nodes, World}

abbrev pub coded_nodes : Coded Nodes
coded_nodes = code_by (Node × Node) (coded× coded_node coded_node) (λ ns. (ns.a, ns.b)) (λ p. record { a = p.0; b = p.1 }) (λ _. refl)

abbrev pub coded_world : Coded World
coded_world = code_by (Node × (Node × (Link × ℕ))) (coded× coded_node (coded× coded_node (coded× coded_link coded_ℕ)))
    (λ w. (w.a, (w.b, (w.link, w.next_boot)))) (λ p. record { a = p.0; b = p.1.0; link = p.1.1.0; next_boot = p.1.1.1 }) (λ _. refl)
