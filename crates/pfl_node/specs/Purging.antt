-- What has expired is deleted (pf.conf(5), `interval` and `adaptive.start`; the order, and that the number of states counts which the
-- purge finds, is this project's profile).
use Rattle.std.specs.Prelude.{ℕ, ◌*◌, Bool, ◌&&◌, ◌||◌, ◌==◌, nat_lt, List, filter, Option, length}
use Rattle.std.specs.List.{fold}
use Rattle.std.specs.Ordering.{is_lt}
use Rattle.pfl_base.specs.Lists.{in_order, folds}
use Rattle.pfl_base.specs.declared.refusal.Refusal.{Refusal}
use Rattle.pfl_base.specs.Names.{name_cmp}
use Rattle.pfl_edits.specs.Maps as maps
use Rattle.pfl_track.specs.declared.state.State.{State}
use Rattle.pfl_track.specs.Tracking.{expiry, expired}
use Rattle.pfl_language.specs.declared.node_event.NodeOutcome.TheVariants.{Purged}
use Rattle.pfl_receive.specs.desk.Nodes.{Node, timeout_among, points_refusal}
use Rattle.pfl_receive.specs.desk.Changes.{deleted}
use Rattle.pfl_receive.specs.desk.Weights.{deleted_edits}
use Rattle.pfl_node.specs.Meanings.{NodeMeaning}

-- the timeout of a state where the node has this many states, in seconds
abbrev pub timeout_of : ℕ → Node → State → ℕ
timeout_of states n s = timeout_among states n s.rule s.class

-- when it then expires
abbrev pub expiry_among : ℕ → Node → State → ℕ
expiry_among states n s = expiry s (timeout_of states n s)

-- by expiry, and then by name
abbrev pub expires_before : ℕ → Node → State → State → Bool
expires_before states n s t =
    nat_lt (expiry_among states n s) (expiry_among states n t) || ((expiry_among states n s == expiry_among states n t) && is_lt (name_cmp s.name t.name))

-- the states that have expired by such timeouts, the first to expire first
abbrev pub expired_among : ℕ → Node → List State
expired_among states n = in_order (expires_before states n) (filter (λ s. expired s (timeout_of states n s) n.clock) (maps.values n.states))

-- those that a purge deletes: its timeouts are those of as many states as it finds, to its end
abbrev pub expired_states : Node → List State
expired_states n = expired_among (maps.len n.states) n

-- all that has expired is deleted, in this order
unfoldable pub purged : Node → Node
purged n = fold deleted n (expired_states n)

-- the points of a purge: one after each deletion
unfoldable pub purge_points : Node → List Node
purge_points n = folds deleted n (expired_states n)

-- why a purge is refused: one of its deletions cannot be announced
abbrev pub purge_refusal : Node → Option Refusal
purge_refusal n = points_refusal (purge_points n)

-- a purge takes at most this many edits
abbrev pub purge_edits : Node → ℕ
purge_edits n = deleted_edits * length (expired_states n)

-- what a purge means
abbrev pub purge_meaning : Node → NodeMeaning
purge_meaning n = record {
  refusal = purge_refusal n;
  after = purged n;
  outcome = Purged (length (expired_states n));
  points = purge_points n;
  work = length (expired_states n);
}
