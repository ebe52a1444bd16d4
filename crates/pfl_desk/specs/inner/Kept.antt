-- How the parts of the code stand for a node, and what some changes of one place ask of it.
use Rattle.std.specs.Prelude.{ℕ, Bool, ◌≡◌, Some, ◌<◌, false, None, ◌≤◌, IfSome, length}
use Rattle.pfl_base.specs.declared.state_name.StateName.{StateName}
use Rattle.pfl_edits.specs.Maps as maps
use Rattle.pfl_rules.specs.Rules.{Rules, timeout}
use Rattle.pfl_track.specs.declared.state.State.{State}
use Rattle.pfl_track.specs.Motions.{motion, with_motion}
use Rattle.pfl_track.specs.States.{IsState}
use Rattle.pfl_table.specs.declared.row.Row.{Row}
use Rattle.pfl_table.specs.Tables.{Table, states_of, key_in_use}
use Rattle.pfl_queue.specs.declared.Kind.{Kind}
use Rattle.pfl_queue.specs.Queues.{Queue}
use Rattle.pfl_defer.specs.Deferring.{Deferrals}
use Rattle.pfl_bulk.specs.declared.BulkServer.{BulkServer}
use Rattle.pfl_bulk.specs.declared.BulkClient.{BulkClient}
use Rattle.pfl_language.specs.declared.limits.Limits.{Limits}
use Rattle.pfl_desk.specs.declared.counters.Counters.{Counters}
use Rattle.pfl_desk.specs.declared.edit.NodeEdit.{NodeEdit}
use Rattle.pfl_desk.specs.declared.edit.NodeEdit.TheVariants.{OfState, Moved}
use Rattle.pfl_desk.specs.Nodes.{Node, IsNodeState, IsPast, IsGiven, MarksRightly}

-- the table holds the states alone, as far as a node goes
abbrev pub node_of : Limits → Rules → Table → Queue → Deferrals → BulkServer → BulkClient → ℕ → ℕ → ℕ → Bool → Counters → Node
node_of limits rules table queue held server client clock creator next_id push counters = record {
  limits = limits;
  rules = rules;
  states = states_of table;
  queue = queue;
  held = held;
  server = server;
  client = client;
  clock = clock;
  creator = creator;
  next_id = next_id;
  push = push;
  counters = counters;
}

-- the timeout of a state under the rules, in seconds
abbrev pub timeout_by : Rules → State → ℕ
timeout_by rules s = timeout rules s.rule s.class

-- the table has the node's room, and keeps with each state its timeout
pub record IsTimely (limits : Limits) (rules : Rules) (table : Table) : Type 0 where
  pub room : table.limit ≡ limits.states
  pub timeouts : (name : StateName) (row : Row) → maps.get table.rows name ≡ Some row → row.timeout ≡ timeout_by rules row.state

-- the state may take the place of one of the node, of its name and keys, and announced like it
pub record MayReplace (n : Node) (s : State) : Type 0 where
  pub former : State
  pub stands : maps.get n.states s.name ≡ Some former
  pub wire : s.wire ≡ former.wire
  pub stack : s.stack ≡ former.stack
  pub no_sync : s.no_sync ≡ former.no_sync
  pub is : IsNodeState n s

-- the state may be added: no state has its name or keys, and there is room
pub record MayAdd (n : Node) (s : State) : Type 0 where
  pub fresh : maps.get n.states s.name ≡ None
  pub unused : key_in_use n.states s.wire s.stack ≡ false
  pub room : maps.len n.states < n.limits.states

-- the state may be a new one of the node, under its next name
pub record MayStart (n : Node) (s : State) : Type 0 where
  pub creator : s.name.creator ≡ n.creator
  pub id : s.name.id ≡ n.next_id
  pub unused : key_in_use n.states s.wire s.stack ≡ false
  pub room : maps.len n.states < n.limits.states
  pub is : IsState s
  pub rule : IfSome s.rule (λ r. r < length n.rules.list)
  pub last : IsPast n s.last
  pub peer_change : IfSome s.peer_change (IsPast n)
  pub updates : s.updates ≤ 255

-- the name may be put on this queue
pub record MayMark (n : Node) (name : StateName) (kind : Kind) : Type 0 where
  pub given : IsGiven n name
  pub rightly : MarksRightly n name (record { name = name; kind = kind; number = n.queue.next })

-- the edit puts the state in the place of the former one: it holds what moved where nothing else changed
abbrev pub Replaces : State → State → NodeEdit → Type 0
Replaces former s (OfState e) = e ≡ record { name = s.name; before = Some former; after = Some s }
Replaces former s (Moved e) = (e ≡ record { name = s.name; slot = e.slot; before = motion former; after = motion s }) × (s ≡ with_motion (motion s) former)
Replaces former s _ = ⊥
