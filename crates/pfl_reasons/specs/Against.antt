-- What stands against an event that is refused, in numbers, read off the pair before it (this project's profile).
use Rattle.std.specs.Prelude.{◌≡◌, ◌<◌, ◌≤◌, ℕ, ◌+◌, true, Option, Some, None, IsSomeAnd}
use Rattle.std.specs.List.{list_any, slice_get}
use Rattle.std.specs.Option.{option_map, option_map_or}
use Rattle.pfl_base.specs.declared.node_id.NodeId.{NodeId}
use Rattle.pfl_base.specs.declared.refusal.Refusal.{Refusal}
use Rattle.pfl_base.specs.declared.refusal.Refusal.TheVariants as refusal
use Rattle.pfl_edits.specs.Maps as maps
use Rattle.pfl_language.specs.declared.event.Event.{Event}
use Rattle.pfl_language.specs.declared.event.Event.TheVariants as event
use Rattle.pfl_language.specs.declared.node_event.NodeEvent.{NodeEvent}
use Rattle.pfl_language.specs.declared.node_event.NodeEvent.TheVariants as own
use Rattle.pfl_link.specs.Links.{InFlight}
use Rattle.pfl_bulk.specs.declared.BulkClient.{BulkClient}
use Rattle.pfl_bulk.specs.declared.BulkClient.TheVariants as client
use Rattle.pfl_world.specs.defer.declared.Held.{Held}
use Rattle.pfl_world.specs.desk.Nodes.{Node, is_overfull, last_millisecond}
use Rattle.pfl_world.specs.queue.Queues.{pending}
use Rattle.pfl_world.specs.Events.{points_at}
use Rattle.pfl_world.specs.Worlds.{World, node_at}
use Rattle.pfl_reasons.specs.declared.against.Against.{Against}
use Rattle.pfl_reasons.specs.declared.against.Against.TheVariants.{Clock, Due, Frames, Nothing, Pending, Ticket}

-- the node that the event is about: its own, or the receiver of its frame, if that is in flight
abbrev pub node_of : World → Event → Option NodeId
node_of w (event.At node e) = Some node
node_of w (event.Flush node) = Some node
node_of w (event.Of ticket e) = option_map (λ (f : InFlight). f.to) (maps.get w.link.frames ticket)
node_of w (event.Restart node) = Some node

-- what is pending at the node, and how much may be
abbrev pub pending_against : Node → Against
pending_against n = Pending n.queue.limit (pending n.queue)

-- the node's clock, and the last millisecond that it can reach
abbrev pub clock_against : Node → Against
clock_against n = Clock n.clock last_millisecond

-- of the node that the event is about, if there is one
abbrev pub at_its_node : World → Event → (Node → Against) → Against
at_its_node w e numbers = option_map_or (λ id. numbers (node_at w id)) (node_of w e) Nothing

-- the oldest packet that the node holds, if it holds one, and when it may go out
abbrev pub release_against : Node → Against
release_against n = option_map_or (λ (h : Held). Due n.clock (h.held_at + n.limits.defer_ms)) (slice_get n.held.list 0) Nothing

-- when the client, if it waits, may ask again
abbrev pub asking_against : Node → BulkClient → Against
asking_against n client.Idle = Nothing
asking_against n (client.Waiting tries asked) = Due n.clock (asked + n.limits.bulk_ms)

-- of an event at a node by itself: when its time comes
abbrev pub due_at : Node → NodeEvent → Against
due_at n own.Release = release_against n
due_at n own.BulkRetry = asking_against n n.client
due_at n other = Nothing

-- of any event
abbrev pub due_against : World → Event → Against
due_against w (event.At node e) = due_at (node_at w node) e
due_against w other = Nothing

-- what stands against the event, where it is refused for this
unfoldable pub against : World → Event → Refusal → Against
against w e refusal.NoSuchFrame = Ticket w.link.next
against w e refusal.LinkFull = Frames w.link.limit (maps.len w.link.frames)
against w e refusal.QueueFull = at_its_node w e pending_against
against w e refusal.ClockFull = at_its_node w e clock_against
against w e refusal.TooEarly = due_against w e
against w e other = Nothing

-- ---- that it does

-- by how many milliseconds the event moves a clock on
abbrev pub ticks_of : Event → ℕ
ticks_of (event.At node (own.Tick ms)) = ms
ticks_of other = 0

-- the refusal says it all: no numbers stand against the event
abbrev pub NeedsNoNumbers : Refusal → Type 0
NeedsNoNumbers refusal.NothingPending = Unit {0}
NeedsNoNumbers refusal.NoSuchState = Unit {0}
NeedsNoNumbers refusal.NotSyncing = Unit {0}
NeedsNoNumbers refusal.CountFull = Unit {0}
NeedsNoNumbers _ = ⊥

-- no frame is in flight under the ticket that the event names
abbrev pub NamesNoFrame : World → Event → Type 0
NamesNoFrame w (event.Of ticket e) = maps.get w.link.frames ticket ≡ None
NamesNoFrame w other = ⊥

-- the numbers are those of the node's queue, and at some point of the event more would be pending there than may be
abbrev pub WouldOverfill : World → Event → ℕ → ℕ → NodeId → Type 0
WouldOverfill w e limit many id = let n = node_at w id in
    (limit ≡ n.queue.limit) × (many ≡ pending n.queue) × (list_any is_overfull (points_at w e id) ≡ true)

-- the node's client waits, and may ask again then
abbrev pub MayAskAt : Node → BulkClient → ℕ → Type 0
MayAskAt n client.Idle due = ⊥
MayAskAt n (client.Waiting tries asked) due = due ≡ asked + n.limits.bulk_ms

-- the time of an event at a node by itself: the oldest packet that the node holds may go out then, or its client may ask again
abbrev pub IsTimeOf : Node → NodeEvent → ℕ → Type 0
IsTimeOf n own.Release due = IsSomeAnd (slice_get n.held.list 0) (λ (h : Held). due ≡ h.held_at + n.limits.defer_ms)
IsTimeOf n own.BulkRetry due = MayAskAt n n.client due
IsTimeOf n other due = ⊥

-- the clock is that of the event's node, and the time that of the event
abbrev pub WaitsFor : World → Event → ℕ → ℕ → Type 0
WaitsFor w (event.At node e) clock due = (clock ≡ (node_at w node).clock) × IsTimeOf (node_at w node) e due
WaitsFor w other clock due = ⊥

-- The numbers are those of the refusal, they are the pair's own, and they do stand against the event: its ticket is that of no frame in
-- flight; the link carries its limit of frames or more; more would be pending at the node that the event is about than may be; that node's
-- clock would pass its last millisecond; or the time of the event is after the clock
abbrev pub StandsAgainst : World → Event → Against → Refusal → Type 0
StandsAgainst w e (Ticket next) why = (why ≡ refusal.NoSuchFrame) × NamesNoFrame w e × (next ≡ w.link.next)
StandsAgainst w e (Frames limit frames) why =
    (why ≡ refusal.LinkFull) × (limit ≡ w.link.limit) × (frames ≡ maps.len w.link.frames) × (limit ≤ frames)
StandsAgainst w e (Pending limit many) why = (why ≡ refusal.QueueFull) × IsSomeAnd (node_of w e) (WouldOverfill w e limit many)
StandsAgainst w e (Clock clock last) why = (why ≡ refusal.ClockFull) × IsSomeAnd (node_of w e) (λ id. clock ≡ (node_at w id).clock)
    × (last ≡ last_millisecond) × (last < clock + ticks_of e)
StandsAgainst w e (Due clock due) why = (why ≡ refusal.TooEarly) × WaitsFor w e clock due × (clock < due)
StandsAgainst w e Nothing why = NeedsNoNumbers why
