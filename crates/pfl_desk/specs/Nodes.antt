-- A node of the pair, and what is true of each (pf.c, if_pfsync.c; what limits an event is this project's profile).
use Rattle.std.specs.Prelude.{◌≡◌, ◌≤◌, ◌<◌, ◌+◌, ℕ, Bool, false, nat_lt, List, [], ◌∷◌, length, find, Option, Some, None, Result, Ok, Err, IfSome}
use Rattle.std.specs.List.{list_any, slice_get}
use Rattle.std.specs.Option.{option_map}
use Rattle.pfl_base.specs.declared.class.Class.{Class}
use Rattle.pfl_base.specs.Numbers.{greatest}
use Rattle.pfl_base.specs.declared.refusal.Refusal.{Refusal}
use Rattle.pfl_base.specs.declared.refusal.Refusal.TheVariants.{QueueFull, CountFull, NoMemory}
use Rattle.pfl_base.specs.declared.state_name.StateName.{StateName}
use Rattle.pfl_edits.specs.Maps as maps
use Rattle.pfl_rules.specs.Rules.{Rules, AreRules, timeout}
use Rattle.pfl_rules.specs.Scaling.{scaled}
use Rattle.pfl_track.specs.declared.state.State.{State}
use Rattle.pfl_track.specs.States.{IsState}
use Rattle.pfl_track.specs.Tracking.{expiry}
use Rattle.pfl_table.specs.Tables.{States, AreStates}
use Rattle.pfl_queue.specs.declared.Mark.{Mark}
use Rattle.pfl_queue.specs.declared.Kind.TheVariants as kind
use Rattle.pfl_queue.specs.Queues.{Queue, IsQueue, pending, empty_queue}
use Rattle.pfl_defer.specs.declared.Held.{Held}
use Rattle.pfl_defer.specs.Deferring.{Deferrals, IsDeferrals, no_deferrals}
use Rattle.pfl_bulk.specs.declared.BulkServer.{BulkServer}
use Rattle.pfl_bulk.specs.declared.BulkServer.TheVariants as server
use Rattle.pfl_bulk.specs.declared.BulkClient.{BulkClient}
use Rattle.pfl_bulk.specs.declared.BulkClient.TheVariants as client
use Rattle.pfl_language.specs.declared.limits.Limits.{Limits}
use Rattle.pfl_language.specs.Limits.{AreLimits, adaptive}
use Rattle.pfl_desk.specs.declared.counters.Counters.{Counters}

-- a node: its limits and rules never change
pub record Node : Type 0 where
  pub limits : Limits
  pub rules : Rules
  pub states : States
  pub queue : Queue
  pub held : Deferrals
  pub server : BulkServer
  pub client : BulkClient
  pub clock : ℕ
  pub creator : ℕ
  pub next_id : ℕ
  pub push : Bool
  pub counters : Counters

-- nothing is counted
abbrev pub no_counts : Counters
no_counts = record { passed = 0; blocked = 0; freed = 0; lost = 0; bad = 0; stale = 0; broken = 0 }

-- a node that has seen nothing
abbrev pub new_node : Limits → Rules → ℕ → ℕ → ℕ → Node
new_node limits rules creator next clock = record {
  limits = limits;
  rules = rules;
  states = maps.empty;
  queue = empty_queue limits.queue next;
  held = no_deferrals limits.held;
  server = server.Idle;
  client = client.Idle;
  clock = clock;
  creator = creator;
  next_id = next;
  push = false;
  counters = no_counts;
}

-- a clock's last millisecond
abbrev pub last_millisecond : ℕ
last_millisecond = 1000000000000

-- the timeout that the node gives the states of a rule and a class where it has this many states, in seconds (pf.conf(5), `timeout`,
-- `adaptive.start`)
abbrev pub timeout_among : ℕ → Node → Option ℕ → Class → ℕ
timeout_among states n rule class = scaled (timeout n.rules rule class) (adaptive n.limits) states

-- the timeout that it gives them as it stands
abbrev pub timeout_at : Node → Option ℕ → Class → ℕ
timeout_at n = timeout_among (maps.len n.states) n

-- when a state of the node expires, as it stands
abbrev pub expiry_at : Node → State → ℕ
expiry_at n s = expiry s (timeout_at n s.rule s.class)

-- ---- what limits an event

-- more is pending than may be
abbrev pub is_overfull : Node → Bool
is_overfull n = nat_lt n.queue.limit (pending n.queue)

-- the next id, the next queueing number or a counter is past the greatest
abbrev pub is_overcounted : Node → Bool
is_overcounted n = list_any (nat_lt greatest)
    (n.next_id ∷ n.queue.next ∷ n.counters.passed ∷ n.counters.blocked ∷ n.counters.freed ∷ n.counters.lost ∷ n.counters.bad
    ∷ n.counters.stale ∷ n.counters.broken ∷ [])

-- an event refused for the points that it would go through: at one of them too much would be pending, or a number too high
abbrev pub full_tests : List Node → List (Bool × Refusal)
full_tests points = (list_any is_overfull points, QueueFull) ∷ (list_any is_overcounted points, CountFull) ∷ []

-- the first refusal whose test holds; the tests stand in the order of the refusals
abbrev pub refused_by : {R : Type 0} → List (Bool × R) → Option R
refused_by tests = option_map (λ t. t.1) (find (λ t. t.0) tests)

-- why an event that goes through these points is refused, if there is a reason: the first one
abbrev pub points_refusal : List Node → Option Refusal
points_refusal points = refused_by (full_tests points)

-- the refusal, or else what the event gives
abbrev pub unless_refused : {X : Type 0} → Option Refusal → X → Result X Refusal
unless_refused None x = Ok x
unless_refused (Some r) x = Err r

-- an event that is refused reports this refusal; where there is none, it wanted memory
abbrev pub IsRefusal : Option Refusal → Refusal → Type 0
IsRefusal (Some first) r = r ≡ first
IsRefusal None r = r ≡ NoMemory

-- ---- what is true of each node

-- a name that the node itself gave is below its next id
abbrev pub IsGiven : Node → StateName → Type 0
IsGiven n name = name.creator ≡ n.creator → name.id < n.next_id

-- a time that is kept is not after the clock
abbrev pub IsPast : Node → ℕ → Type 0
IsPast n time = time ≤ n.clock

-- the most that a record can say is left of a state, in milliseconds: it has 32 bits for the seconds (if_pfsync.c)
abbrev pub most_left : ℕ
most_left = 4294967295000

-- a record can say what the state has left of its timeout, which the rules say and is not scaled
abbrev pub LeftFits : Node → State → Type 0
LeftFits n s = expiry s (timeout n.rules s.rule s.class) ≤ n.clock + most_left

-- a mark that names no state is of a deletion; by this project's profile a deletion names none, while with `revive` the peer may have
-- given the state back since (if_pfsync.c, as far as we know it); a state with `no-sync` is never named (pf.conf(5))
abbrev pub MarksRightly : Node → StateName → Mark → Type 0
MarksRightly n name m =
    (maps.get n.states name ≡ None → m.kind ≡ kind.Delete)
    × ((n.limits.kernel.revive ≡ false → m.kind ≡ kind.Delete → maps.get n.states name ≡ None)
    × IfSome (maps.get n.states name) (λ s. s.no_sync ≡ false))

-- since when a server runs
abbrev pub ServesSince : Node → BulkServer → Type 0
ServesSince n server.Idle = Unit {0}
ServesSince n (server.Serving cursor since) = IsPast n since

-- when a client asked
abbrev pub AskedAt : Node → BulkClient → Type 0
AskedAt n client.Idle = Unit {0}
AskedAt n (client.Waiting tries asked) = IsPast n asked

-- a state of the node: by this project's profile its last use is not after the clock; with `expiry` it may be, where the peer said that
-- more is left than the timeout, and what is left is still what a record can say (if_pfsync.c, as far as we know it)
pub record IsNodeState (n : Node) (s : State) : Type 0 where
  pub is : IsState s
  pub given : IsGiven n s.name
  pub rule : IfSome s.rule (λ r. r < length n.rules.list)
  pub last : n.limits.kernel.expiry ≡ false → IsPast n s.last
  pub ahead : n.clock < s.last → LeftFits n s
  pub peer_change : IfSome s.peer_change (IsPast n)
  pub updates : s.updates ≤ 255

-- the parts of a node: true of each value that an event or its undoing passes through
pub record AreParts (n : Node) : Type 0 where
  pub limits : AreLimits n.limits
  pub rules : AreRules n.rules
  pub states : AreStates n.states
  pub few : maps.len n.states ≤ n.limits.states
  pub each : (name : StateName) (s : State) → maps.get n.states name ≡ Some s → IsNodeState n s
  pub queue : IsQueue n.queue
  pub queue_limit : n.queue.limit ≡ n.limits.queue
  pub marks : (name : StateName) (m : Mark) → maps.get n.queue.marks name ≡ Some m → IsGiven n name × MarksRightly n name m
  pub deferrals : IsDeferrals n.held
  pub held_limit : n.held.limit ≡ n.limits.held
  pub held : (i : ℕ) (h : Held) → slice_get n.held.list i ≡ Some h → IsGiven n h.name × IsPast n h.held_at
  pub serving : ServesSince n n.server
  pub waiting : AskedAt n n.client
  pub clock : n.clock ≤ last_millisecond

-- a node: between events no number is past the greatest; inside an event one may be, which is then refused
pub record IsNode (n : Node) : Type 0 where
  pub parts : AreParts n
  pub counted : is_overcounted n ≡ false
