-- When the states expire that a purge looks at (pf.conf(5), `adaptive.start`; that it is shown is this project's profile).
use Rattle.std.specs.Prelude.{◌≡◌, ◌&&◌, ℕ, Bool, nat_le, List, filter, length, map, None, if◌then◌else◌}
use Rattle.std.specs.List.{AllZip, list_any}
use Rattle.pfl_base.specs.declared.state_name.StateName.{StateName}
use Rattle.pfl_base.specs.Names.{is_name}
use Rattle.pfl_edits.specs.Maps as maps
use Rattle.pfl_language.specs.Limits.{adaptive}
use Rattle.pfl_rules.specs.declared.adaptive.Adaptive.{Adaptive}
use Rattle.pfl_rules.specs.Rules.{timeout}
use Rattle.pfl_rules.specs.Scaling.{scaled}
use Rattle.pfl_track.specs.declared.state.State.{State}
use Rattle.pfl_track.specs.Tracking.{expiry}
use Rattle.pfl_world.specs.desk.Nodes.{Node}
use Rattle.pfl_world.specs.node.Purging.{expiry_among, timeout_of}
use Rattle.pfl_reasons.specs.declared.expiry.Expiry.{Expiry}

-- a state of the node, where it has this number of states
abbrev pub expiry_of : ℕ → Node → State → Expiry
expiry_of states n s = record {
  name = s.name;
  class = s.class;
  timeout = timeout n.rules s.rule s.class;
  scaled = timeout_of states n s;
  expires = expiry_among states n s;
}

-- the states of the node, by name
unfoldable pub expiries : Node → List Expiry
expiries n = map (expiry_of (maps.len n.states) n) (maps.values n.states)

-- the time has come
abbrev pub is_due : ℕ → Expiry → Bool
is_due clock e = nat_le e.expires clock

-- ---- what a purge does by them

-- the entry is that of the state: its class, its timeout by its rule and class, that timeout as it is scaled among so many states between
-- these numbers, and when it expires by that
abbrev pub IsExpiryOf : Node → ℕ → Adaptive → Expiry → State → Type 0
IsExpiryOf n states between e s = (e.name ≡ s.name) × (e.class ≡ s.class) × (e.timeout ≡ timeout n.rules s.rule s.class)
    × (e.scaled ≡ scaled e.timeout between states) × (e.expires ≡ expiry s e.scaled)

-- The clock, the number of states and the numbers between which timeouts shrink are the node's; each state has its entry. As many are
-- deleted as are due by the list, and these are the states that are gone then; any other is as it was
pub record PurgedSo (n : Node) (clock states : ℕ) (between : Adaptive) (list : List Expiry) (many : ℕ) (after : Node) : Type 0 where
  pub own_clock : clock ≡ n.clock
  pub own_states : states ≡ maps.len n.states
  pub own_bounds : between ≡ adaptive n.limits
  pub entries : AllZip (IsExpiryOf n states between) list (maps.values n.states)
  pub counted : many ≡ length (filter (is_due clock) list)
  pub gone : (name : StateName) → maps.get after.states name
      ≡ (if list_any (λ e. is_due clock e && is_name name e.name) list then None else maps.get n.states name)
