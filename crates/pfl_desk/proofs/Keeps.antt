-- What each change of one place has to bring so that a node stays a node.
use Rattle.std.specs.Prelude.{◌≡◌, ◌≤◌, ◌<◌, ◌+◌, ◌*◌, ℕ, Bool, true, false, ◌||◌, nat_lt, List, [], ◌∷◌, length, Option, Some, None, IfSome, refl}
use Rattle.std.specs.List.{slice_get, list_any, AllByRecursion}
use Rattle.std.proofs.Common.{◌∙◌, ap, sym, subst, arith}
use Rattle.std.proofs.lemmas.Bool.{le-ltb}
use Rattle.std.proofs.lemmas.Bool.Decides.{nat_tests}
use Rattle.pfl_base.specs.declared.state_name.StateName.{StateName}
use Rattle.pfl_base.specs.Numbers.{greatest}
use Rattle.pfl_edits.specs.Maps as maps
use Rattle.pfl_language.specs.declared.limits.Limits.{Limits}
use Rattle.pfl_rules.specs.Rules.{timeout}
use Rattle.pfl_track.specs.declared.state.State.{State}
use Rattle.pfl_table.specs.Tables.{States, AreStates}
use Rattle.pfl_queue.specs.declared.Mark.{Mark}
use Rattle.pfl_queue.specs.Queues.{Queue, IsQueue}
use Rattle.pfl_defer.specs.declared.Held.{Held}
use Rattle.pfl_defer.specs.Deferring.{Deferrals, IsDeferrals}
use Rattle.pfl_bulk.specs.declared.BulkServer.{BulkServer}
use Rattle.pfl_bulk.specs.declared.BulkServer.TheVariants as server
use Rattle.pfl_bulk.specs.declared.BulkClient.{BulkClient}
use Rattle.pfl_bulk.specs.declared.BulkClient.TheVariants as client
use Rattle.pfl_desk.specs.declared.counters.Counters.{Counters}
use Rattle.pfl_desk.specs.Nodes.{Node, AreParts, IsNodeState, IsGiven, IsPast, MarksRightly, ServesSince, AskedAt, is_overcounted, last_millisecond, most_left}

-- a time that is kept stays past
past_later : (o : Option ℕ) (t u : ℕ) → t ≤ u → IfSome o (λ x. x ≤ t) → IfSome o (λ x. x ≤ u)
past_later None t u le h = h
past_later (Some x) t u le h = omega arith

-- what fits before a time fits before each later one
fits_later : (last seconds t u : ℕ) → t ≤ u → last + seconds * 1000 ≤ t + most_left → last + seconds * 1000 ≤ u + most_left
fits_later last seconds t u le fits = omega arith

-- a state of a node is one of the node that goes on
pub state_later : (n k : Node) (s : State) → k.limits ≡ n.limits → k.creator ≡ n.creator → n.next_id ≤ k.next_id → k.rules ≡ n.rules
    → n.clock ≤ k.clock → IsNodeState n s → IsNodeState k s
state_later n k s limits creator ids rules clocks is = record {
  is = is.is;
  given = λ own. let below = is.given (own ∙ creator) in omega arith;
  rule = subst (λ r. IfSome s.rule (λ i. i < length r.list)) (sym rules) is.rule;
  last = λ off. let past = is.last (ap (λ (l : Limits). l.kernel.expiry) (sym limits) ∙ off) in omega arith;
  ahead = λ ahead.
      subst (λ r. s.last + timeout r s.rule s.class * 1000 ≤ k.clock + most_left) (sym rules)
      (fits_later s.last (timeout n.rules s.rule s.class) n.clock k.clock clocks (is.ahead (omega arith)));
  peer_change = past_later s.peer_change n.clock k.clock clocks is.peer_change;
  updates = is.updates;
}

-- the same of one with a part replaced that no state asks about
pub state_still : (n k : Node) (s : State) → k.limits ≡ n.limits → k.creator ≡ n.creator → k.next_id ≡ n.next_id → k.rules ≡ n.rules
    → k.clock ≡ n.clock → IsNodeState n s → IsNodeState k s
state_still n k s limits creator ids rules clocks is =
    state_later n k s limits creator (subst (λ i. n.next_id ≤ i) (sym ids) (omega arith)) rules
    (subst (λ c. n.clock ≤ c) (sym clocks) (omega arith)) is

-- other states
pub keeps_states : (n : Node) (m : States) → AreParts n → AreStates m → maps.len m ≤ n.limits.states
    → ((name : StateName) (s : State) → maps.get m name ≡ Some s → IsNodeState n s)
    → ((name : StateName) (k : Mark) → maps.get n.queue.marks name ≡ Some k → MarksRightly (record n { states = m }) name k)
    → AreParts (record n { states = m })
keeps_states n m is are few each rightly = record {
  limits = is.limits;
  rules = is.rules;
  states = are;
  few = few;
  each = λ name s at. state_still n _ s refl refl refl refl refl (each name s at);
  queue = is.queue;
  queue_limit = is.queue_limit;
  marks = λ name k at. ((is.marks name k at).0, rightly name k at);
  deferrals = is.deferrals;
  held_limit = is.held_limit;
  held = is.held;
  serving = is.serving;
  waiting = is.waiting;
  clock = is.clock;
}

-- ---- what is counted

-- the numbers that are counted
abbrev numbers : Node → List ℕ
numbers n = n.next_id ∷ n.queue.next ∷ n.counters.passed ∷ n.counters.blocked ∷ n.counters.freed ∷ n.counters.lost ∷ n.counters.bad
    ∷ n.counters.stale ∷ n.counters.broken ∷ []

-- none of them is past the greatest
abbrev pub AreCounted : Node → Type 0
AreCounted n = AllByRecursion (λ x. x ≤ greatest) (numbers n)

neither : (a b : Bool) → a ≡ false → b ≡ false → (a || b) ≡ false
neither true b e h = cc
neither false b e h = h

both : (a b : Bool) → (a || b) ≡ false → (a ≡ false) × (b ≡ false)
both true b e = cc
both false b e = (refl, e)

within : (x : ℕ) → nat_lt greatest x ≡ false → x ≤ greatest
within x e = grind (arith, nat_tests)

none_above : (xs : List ℕ) → AllByRecursion (λ x. x ≤ greatest) xs → list_any (nat_lt greatest) xs ≡ false
none_above [] all = refl
none_above (x ∷ xs) all = neither (nat_lt greatest x) (list_any (nat_lt greatest) xs) (le-ltb greatest x all.0) (none_above xs all.1)

all_below : (xs : List ℕ) → list_any (nat_lt greatest) xs ≡ false → AllByRecursion (λ x. x ≤ greatest) xs
all_below [] e = tt
all_below (x ∷ xs) e =
    let each = both (nat_lt greatest x) (list_any (nat_lt greatest) xs) e in
    (within x each.0, all_below xs each.1)

pub counted_all : (n : Node) → is_overcounted n ≡ false → AreCounted n
counted_all n e = all_below (numbers n) e

pub all_counted : (n : Node) → AreCounted n → is_overcounted n ≡ false
all_counted n c = none_above (numbers n) c

-- ---- one place each

serving_still : (n : Node) (s : BulkServer) → ServesSince n s → ServesSince (record n { server = s }) s
serving_still n server.Idle h = tt
serving_still n (server.Serving cursor since) h = h

waiting_still : (n : Node) (c : BulkClient) → AskedAt n c → AskedAt (record n { client = c }) c
waiting_still n client.Idle h = tt
waiting_still n (client.Waiting tries asked) h = h

serving_later : (n : Node) (clock : ℕ) (s : BulkServer) → n.clock ≤ clock → ServesSince n s → ServesSince (record n { clock = clock }) s
serving_later n clock server.Idle le h = tt
serving_later n clock (server.Serving cursor since) le h = omega arith

waiting_later : (n : Node) (clock : ℕ) (c : BulkClient) → n.clock ≤ clock → AskedAt n c → AskedAt (record n { clock = clock }) c
waiting_later n clock client.Idle le h = tt
waiting_later n clock (client.Waiting tries asked) le h = omega arith

-- another queue
pub keeps_queue : (n : Node) (q : Queue) → AreParts n → IsQueue q → q.limit ≡ n.queue.limit
    → ((name : StateName) (k : Mark) → maps.get q.marks name ≡ Some k → IsGiven n name × MarksRightly n name k)
    → AreParts (record n { queue = q })
keeps_queue n q is queue limit marks = record {
  limits = is.limits;
  rules = is.rules;
  states = is.states;
  few = is.few;
  each = λ name s at. state_still n _ s refl refl refl refl refl (is.each name s at);
  queue = queue;
  queue_limit = limit ∙ is.queue_limit;
  marks = marks;
  deferrals = is.deferrals;
  held_limit = is.held_limit;
  held = is.held;
  serving = is.serving;
  waiting = is.waiting;
  clock = is.clock;
}

-- other held packets
pub keeps_held : (n : Node) (d : Deferrals) → AreParts n → IsDeferrals d → d.limit ≡ n.held.limit
    → ((i : ℕ) (h : Held) → slice_get d.list i ≡ Some h → IsGiven n h.name × IsPast n h.held_at)
    → AreParts (record n { held = d })
keeps_held n d is deferrals limit held = record {
  limits = is.limits;
  rules = is.rules;
  states = is.states;
  few = is.few;
  each = λ name s at. state_still n _ s refl refl refl refl refl (is.each name s at);
  queue = is.queue;
  queue_limit = is.queue_limit;
  marks = is.marks;
  deferrals = deferrals;
  held_limit = limit ∙ is.held_limit;
  held = held;
  serving = is.serving;
  waiting = is.waiting;
  clock = is.clock;
}

-- another server
pub keeps_server : (n : Node) (server : BulkServer) → AreParts n → ServesSince n server
    → AreParts (record n { server = server })
keeps_server n server is serving = record {
  limits = is.limits;
  rules = is.rules;
  states = is.states;
  few = is.few;
  each = λ name s at. state_still n _ s refl refl refl refl refl (is.each name s at);
  queue = is.queue;
  queue_limit = is.queue_limit;
  marks = is.marks;
  deferrals = is.deferrals;
  held_limit = is.held_limit;
  held = is.held;
  serving = serving_still n server serving;
  waiting = is.waiting;
  clock = is.clock;
}

-- another client
pub keeps_client : (n : Node) (client : BulkClient) → AreParts n → AskedAt n client
    → AreParts (record n { client = client })
keeps_client n client is waiting = record {
  limits = is.limits;
  rules = is.rules;
  states = is.states;
  few = is.few;
  each = λ name s at. state_still n _ s refl refl refl refl refl (is.each name s at);
  queue = is.queue;
  queue_limit = is.queue_limit;
  marks = is.marks;
  deferrals = is.deferrals;
  held_limit = is.held_limit;
  held = is.held;
  serving = is.serving;
  waiting = waiting_still n client waiting;
  clock = is.clock;
}

-- a later clock
pub keeps_clock : (n : Node) (clock : ℕ) → AreParts n → n.clock ≤ clock → clock ≤ last_millisecond
    → AreParts (record n { clock = clock })
keeps_clock n clock is later within = record {
  limits = is.limits;
  rules = is.rules;
  states = is.states;
  few = is.few;
  each = λ name s at. state_later n _ s refl refl (omega arith) refl later (is.each name s at);
  queue = is.queue;
  queue_limit = is.queue_limit;
  marks = is.marks;
  deferrals = is.deferrals;
  held_limit = is.held_limit;
  held = λ i h at. let past = is.held i h at in (past.0, let before = past.1 in omega arith);
  serving = serving_later n clock n.server later is.serving;
  waiting = waiting_later n clock n.client later is.waiting;
  clock = within;
}

-- a greater next id
pub keeps_next_id : (n : Node) (next_id : ℕ) → AreParts n → n.next_id ≤ next_id
    → AreParts (record n { next_id = next_id })
keeps_next_id n next_id is more = record {
  limits = is.limits;
  rules = is.rules;
  states = is.states;
  few = is.few;
  each = λ name s at. state_later n _ s refl refl more refl (omega arith) (is.each name s at);
  queue = is.queue;
  queue_limit = is.queue_limit;
  marks = λ name k at. let given = (is.marks name k at).0 in (λ own. let below = given own in omega arith, (is.marks name k at).1);
  deferrals = is.deferrals;
  held_limit = is.held_limit;
  held = λ i h at. let given = (is.held i h at).0 in (λ own. let below = given own in omega arith, (is.held i h at).1);
  serving = is.serving;
  waiting = is.waiting;
  clock = is.clock;
}

-- another push mark
pub keeps_push : (n : Node) (push : Bool) → AreParts n
    → AreParts (record n { push = push })
keeps_push n push is = record {
  limits = is.limits;
  rules = is.rules;
  states = is.states;
  few = is.few;
  each = λ name s at. state_still n _ s refl refl refl refl refl (is.each name s at);
  queue = is.queue;
  queue_limit = is.queue_limit;
  marks = is.marks;
  deferrals = is.deferrals;
  held_limit = is.held_limit;
  held = is.held;
  serving = is.serving;
  waiting = is.waiting;
  clock = is.clock;
}

-- other counters
pub keeps_counters : (n : Node) (counters : Counters) → AreParts n
    → AreParts (record n { counters = counters })
keeps_counters n counters is = record {
  limits = is.limits;
  rules = is.rules;
  states = is.states;
  few = is.few;
  each = λ name s at. state_still n _ s refl refl refl refl refl (is.each name s at);
  queue = is.queue;
  queue_limit = is.queue_limit;
  marks = is.marks;
  deferrals = is.deferrals;
  held_limit = is.held_limit;
  held = is.held;
  serving = is.serving;
  waiting = is.waiting;
  clock = is.clock;
}
