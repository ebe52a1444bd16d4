-- The edit of a restart, and what is kept of it while it is taken back (this project's profile).
use Rattle.std.specs.Prelude.{ℕ, refl}
use Rattle.std.specs.Coded.{Coded, code_by, coded×, coded_ℕ}
use Rattle.pfl_base.specs.declared.node_id.NodeId.{NodeId}
use Rattle.pfl_base.specs.contracts.node_id.NodeId as node_id
use Rattle.pfl_node.specs.desk.Nodes.{Node}
use Rattle.pfl_node.specs.desk.Codes.{coded_node}
use Rattle.pfl_node.specs.Events.{restarted}

-- the node that began anew as this boot, as it was before: what it is after follows from that
pub record RestartEdit : Type 0 where
  pub node : NodeId
  pub former : Node
  pub boot : ℕ

-- an edit is stored as the tuple of its fields
abbrev pub coded_restart : Coded RestartEdit
coded_restart =
    code_by (NodeId × (Node × ℕ)) (coded× node_id.the_row.coded (coded× coded_node coded_ℕ)) (λ e. (e.node, (e.former, e.boot)))
    (λ p. record { node = p.0; former = p.1.0; boot = p.1.1 }) (λ _. refl)

-- what is kept of a restart that is taken back for a while: the node that it made
pub record RestartUndone : Type 0 where
  pub node : NodeId
  pub anew : Node
  pub boot : ℕ

-- what is kept of an edit
abbrev pub undone : RestartEdit → RestartUndone
undone e = record { node = e.node; anew = restarted e.former e.boot; boot = e.boot }

-- it is stored as the tuple of its fields
abbrev pub coded_restart_undone : Coded RestartUndone
coded_restart_undone =
    code_by (NodeId × (Node × ℕ)) (coded× node_id.the_row.coded (coded× coded_node coded_ℕ)) (λ u. (u.node, (u.anew, u.boot)))
    (λ p. record { node = p.0; anew = p.1.0; boot = p.1.1 }) (λ _. refl)
