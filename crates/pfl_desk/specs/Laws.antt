-- Laws of nodes, in their own words (pf.c, if_pfsync.c).
use Rattle.std.specs.Prelude.{◌≤◌, ℕ}
use Rattle.pfl_base.specs.Numbers.{greatest}
use Rattle.pfl_rules.specs.Rules.{Rules, AreRules}
use Rattle.pfl_language.specs.declared.limits.Limits.{Limits}
use Rattle.pfl_language.specs.Limits.{AreLimits}
use Rattle.pfl_desk.specs.Nodes.{IsNode, new_node, last_millisecond}

-- a node that has seen nothing is a node, if its limits and rules are, and its first number and its clock are not too high
abbrev pub NewNodesAreNodes : Type 0
NewNodesAreNodes =
    (l : Limits) (r : Rules) (creator next clock : ℕ)
    → AreLimits l → AreRules r → next ≤ greatest → clock ≤ last_millisecond → IsNode (new_node l r creator next clock)
