-- What events never do to the states of the pair, in their own words (pf.c, if_pfsync.c; names are this project's profile).
use Rattle.std.specs.Prelude.{◌≡◌, ◌≢◌, ◌≤◌, ◌<◌, ◌+◌, ◌⊎◌, ℕ, Bool, true, false, List, [], ◌∷◌, ◌++◌, All, IsSome, IsSomeAnd, IsOkAnd, Some, None}
use Rattle.std.specs.List.{fold}
use Rattle.std.specs.Option.{option_map_or}
use Rattle.pfl_base.specs.declared.direction.Dir.{Dir}
use Rattle.pfl_base.specs.declared.kernel.Kernel.{Kernel}
use Rattle.pfl_base.specs.declared.node_id.NodeId.{NodeId}
use Rattle.pfl_base.specs.declared.packet.Packet.{Packet}
use Rattle.pfl_base.specs.declared.state_name.StateName.{StateName}
use Rattle.pfl_base.specs.Keys.{key}
use Rattle.pfl_base.specs.Packets.{IsPacket}
use Rattle.pfl_edits.specs.Maps as maps
use Rattle.pfl_world.specs.rules.Rules.{Rules}
use Rattle.pfl_world.specs.table.Tables.{AreStates, found}
use Rattle.pfl_world.specs.track.declared.state.State.{State}
use Rattle.pfl_world.specs.merge.declared.received.Received.{Received}
use Rattle.pfl_world.specs.merge.Merging.{stale_src}
use Rattle.pfl_world.specs.wire.declared.message.Message.{Message}
use Rattle.pfl_world.specs.wire.declared.message.Message.TheVariants as message
use Rattle.pfl_world.specs.wire.Frames.{records_of}
use Rattle.pfl_world.specs.wire.Reading.{reading}
use Rattle.pfl_language.specs.declared.fate.Fate.{Fate}
use Rattle.pfl_language.specs.declared.fate.Fate.TheVariants as fate
use Rattle.pfl_language.specs.declared.limits.Limits.{Limits}
use Rattle.pfl_language.specs.declared.node_event.NodeEvent.{NodeEvent}
use Rattle.pfl_language.specs.declared.node_event.NodeEvent.TheVariants as own
use Rattle.pfl_language.specs.declared.event.Event.{Event}
use Rattle.pfl_language.specs.declared.event.Event.TheVariants as event
use Rattle.pfl_language.specs.declared.event.FrameEvent.TheVariants as frame
use Rattle.pfl_world.specs.link.Links.{InFlight}
use Rattle.pfl_world.specs.defer.declared.Held.{Held}
use Rattle.pfl_world.specs.defer.Deferring.{Deferrals, held_of, pushed_out}
use Rattle.pfl_world.specs.desk.Nodes.{Node}
use Rattle.pfl_world.specs.desk.Changes.{is_held}
use Rattle.pfl_world.specs.node.Packets.{handled, before_rules}
use Rattle.pfl_world.specs.receive.Receiving.{taken, of_state, of_update}
use Rattle.pfl_world.specs.Events.{points_at, step}
use Rattle.pfl_world.specs.Runs.{world_after, run}
use Rattle.pfl_world.specs.Flushing.{sent_frame}
use Rattle.pfl_world.specs.Worlds.{World, IsWorld, node_at, new_world, new_world_at}

-- ---- levels

-- both ends have at least their former levels
pub record HasRisen (s t : State) : Type 0 where
  pub src : s.src.level ≤ t.src.level
  pub dst : s.dst.level ≤ t.dst.level

-- whatever name has a state before and after, the state has risen
abbrev pub LevelsRise : Node → Node → Type 0
LevelsRise old new = (name : StateName) (s t : State) → maps.get old.states name ≡ Some s → maps.get new.states name ≡ Some t → HasRisen s t

-- without `merge` a record of the peer's that a node takes lowers no level
abbrev pub RecordsLowerNoLevel : Type 0
RecordsLowerNoLevel = (n : Node) (same_rules : Bool) (m : Message) → n.limits.kernel.merge ≡ false → AreStates n.states
    → LevelsRise n (taken n same_rules m)

-- whichever rules are the kernel's, it lowers no level of the end that sent the first packet
abbrev pub RecordsLowerNoSource : Type 0
RecordsLowerNoSource = (n : Node) (same_rules : Bool) (m : Message) → AreStates n.states
    → (name : StateName) (s t : State) → maps.get n.states name ≡ Some s → maps.get (taken n same_rules m).states name ≡ Some t
    → s.src.level ≤ t.src.level

-- the record is an update of the name, and says this of its state
abbrev pub Updates : Message → StateName → Received → Type 0
Updates (message.Update r) name said = (r.name ≡ name) × (said ≡ of_state r)
Updates (message.UpdateShort u) name said = (u.name ≡ name) × (said ≡ of_update u)
Updates _ name said = ⊥

-- by `merge` both ends of what is said were taken, whose source was not stale (if_pfsync.c, as far as we know it)
pub record TakenWhole (k : Kernel) (said : Received) (s t : State) : Type 0 where
  pub merge : k.merge ≡ true
  pub fresh : stale_src s said ≡ false
  pub src : t.src ≡ said.src
  pub dst : t.dst ≡ said.dst

-- and a level of the other end only so
abbrev pub RecordsLowerOnlySo : Type 0
RecordsLowerOnlySo = (n : Node) (same_rules : Bool) (m : Message) → AreStates n.states
    → (name : StateName) (s t : State) → maps.get n.states name ≡ Some s → maps.get (taken n same_rules m).states name ≡ Some t
    → HasRisen s t ⊎ ((said : Received) × (Updates m s.name said × TakenWhole n.limits.kernel said s t))

-- the packet of an event is one
abbrev pub IsNodeEvent : NodeEvent → Type 0
IsNodeEvent (own.Packet dir p) = IsPacket p
IsNodeEvent _ = Unit {0}

-- and so that of an event of the pair
abbrev pub IsEvent : Event → Type 0
IsEvent (event.At id e) = IsNodeEvent e
IsEvent _ = Unit {0}

-- the name has a state at the node
abbrev pub HasState : StateName → Node → Type 0
HasState name n = IsSome (maps.get n.states name)

-- the name has a state at the node after each record that a delivery brings; of the other events nothing is asked, since none of
-- them brings a state back under a name that it took out
abbrev pub StandsThrough : World → Event → NodeId → StateName → Type 0
StandsThrough w (event.Of ticket frame.Deliver) id name = All (HasState name) (points_at w (event.Of ticket frame.Deliver) id)
StandsThrough w _ id name = Unit {0}

-- without `merge` an event that is accepted lowers no level, at either node, of a state that was not removed in it
abbrev pub LevelsNeverFall : Type 0
LevelsNeverFall =
    (w : World) (e : Event) (v : World) → IsWorld w → world_after (step w e) ≡ Some v
    → (id : NodeId) (name : StateName) (s t : State) → (node_at w id).limits.kernel.merge ≡ false → StandsThrough w e id name
    → maps.get (node_at w id).states name ≡ Some s → maps.get (node_at v id).states name ≡ Some t → HasRisen s t

-- whichever rules are the kernel's, it lowers no level of the end that sent the first packet
abbrev pub SourcesNeverFall : Type 0
SourcesNeverFall =
    (w : World) (e : Event) (v : World) → IsWorld w → world_after (step w e) ≡ Some v
    → (id : NodeId) (name : StateName) (s t : State) → StandsThrough w e id name
    → maps.get (node_at w id).states name ≡ Some s → maps.get (node_at v id).states name ≡ Some t → s.src.level ≤ t.src.level

-- the name has a state at the node all along the events, also at each of their points
abbrev pub StandsAlong : World → List Event → NodeId → StateName → Type 0
StandsAlong w [] id name = HasState name (node_at w id)
StandsAlong w (e ∷ es) id name = HasState name (node_at w id) × All (HasState name) (points_at w e id)
    × IsSomeAnd (world_after (step w e)) (λ v. StandsAlong v es id name)

-- without `merge` events, one after the other, lower no level of a state that was not removed in between
abbrev pub LevelsNeverFallAlong : Type 0
LevelsNeverFallAlong =
    (w : World) (es : List Event) (v : World) → IsWorld w → All IsEvent es → run w es ≡ Some v
    → (id : NodeId) (name : StateName) (s t : State) → (node_at w id).limits.kernel.merge ≡ false → StandsAlong w es id name
    → maps.get (node_at w id).states name ≡ Some s → maps.get (node_at v id).states name ≡ Some t → HasRisen s t

-- whichever rules are the kernel's, they lower no level of the end that sent the first packet
abbrev pub SourcesNeverFallAlong : Type 0
SourcesNeverFallAlong =
    (w : World) (es : List Event) (v : World) → IsWorld w → All IsEvent es → run w es ≡ Some v
    → (id : NodeId) (name : StateName) (s t : State) → StandsAlong w es id name
    → maps.get (node_at w id).states name ≡ Some s → maps.get (node_at v id).states name ≡ Some t → s.src.level ≤ t.src.level

-- ---- keys (pf.c)

-- after an event each state stands under its own name, and no two states of a node have one wire key or one stack key; a name is on
-- one queue at most, since what is pending of states is a map from names
abbrev pub StatesStayApart : Type 0
StatesStayApart = (w : World) (e : Event) (v : World) → IsWorld w → world_after (step w e) ≡ Some v → (id : NodeId) → AreStates (node_at v id).states

-- and so it is after events, one after the other
abbrev pub StatesStayApartAlong : Type 0
StatesStayApartAlong = (w : World) (es : List Event) (v : World) → IsWorld w → run w es ≡ Some v → (id : NodeId) → AreStates (node_at v id).states

-- ---- names, tickets and boot numbers

-- the node gives the name: it has not given it before, and has after, in one boot
pub record Gives (old new : Node) (name : StateName) : Type 0 where
  pub boot : new.creator ≡ old.creator
  pub own : name.creator ≡ old.creator
  pub before : old.next_id ≤ name.id
  pub after : name.id < new.next_id

-- the two nodes are of different boots, both below the next one
pub record AreBoots (w : World) : Type 0 where
  pub apart : w.a.creator ≢ w.b.creator
  pub a : w.a.creator < w.next_boot
  pub b : w.b.creator < w.next_boot

-- the pair before any event is so
abbrev pub OpeningsAreBoots : Type 0
OpeningsAreBoots = (l : Limits) (a b : Rules) → AreBoots (new_world l a b)

-- also where its numbers begin later
abbrev pub LaterOpeningsAreBoots : Type 0
LaterOpeningsAreBoots = (l : Limits) (a b : Rules) (start : ℕ) → 3 ≤ start → AreBoots (new_world_at l a b start)

-- and stays so by each event
abbrev pub EventsKeepBoots : Type 0
EventsKeepBoots = (w : World) (e : Event) (v : World) → IsWorld w → AreBoots w → world_after (step w e) ≡ Some v → AreBoots v

-- a name that a node gives at an event is given at no later one, neither by it nor by the other node, whatever is restarted in between
abbrev pub NoNameIsGivenTwice : Type 0
NoNameIsGivenTwice =
    (w : World) (first : Event) (v : World) (es : List Event) (u : World) (last : Event) (x : World) → IsWorld w → AreBoots w
    → world_after (step w first) ≡ Some v → run v es ≡ Some u → world_after (step u last) ≡ Some x
    → (id again : NodeId) (name : StateName) → Gives (node_at w id) (node_at v id) name → Gives (node_at u again) (node_at x again) name → ⊥

-- a frame comes
abbrev pub IsDelivery : Event → Type 0
IsDelivery (event.Of ticket frame.Deliver) = Unit {0}
IsDelivery _ = ⊥

-- where a name has a state that had none, the node gives the name at the event, or a frame brings the state
abbrev pub NewStatesAreNamed : Type 0
NewStatesAreNamed =
    (w : World) (e : Event) (v : World) → IsWorld w → IsWorld v → world_after (step w e) ≡ Some v
    → (id : NodeId) (name : StateName) (s : State) → maps.get (node_at w id).states name ≡ None → maps.get (node_at v id).states name ≡ Some s
    → Gives (node_at w id) (node_at v id) name ⊎ IsDelivery e

-- the number is given on the way from one to the other, of which the first is the next one before and the second after
pub record IsNew (old new number : ℕ) : Type 0 where
  pub before : old ≤ number
  pub after : number < new

-- a ticket that is given at an event is given at no later one
abbrev pub NoTicketIsGivenTwice : Type 0
NoTicketIsGivenTwice =
    (w : World) (first : Event) (v : World) (es : List Event) (u : World) (last : Event) (x : World)
    → world_after (step w first) ≡ Some v → run v es ≡ Some u → world_after (step u last) ≡ Some x
    → (ticket : ℕ) → IsNew w.link.next v.link.next ticket → IsNew u.link.next x.link.next ticket → ⊥

-- nor is a boot number
abbrev pub NoBootIsGivenTwice : Type 0
NoBootIsGivenTwice =
    (w : World) (first : Event) (v : World) (es : List Event) (u : World) (last : Event) (x : World)
    → world_after (step w first) ≡ Some v → run v es ≡ Some u → world_after (step u last) ≡ Some x
    → (boot : ℕ) → IsNew w.next_boot v.next_boot boot → IsNew u.next_boot x.next_boot boot → ⊥

-- ---- frames in flight

-- a frame to the same node that is the whole or a beginning of the other
pub record Begins (f whole : InFlight) : Type 0 where
  pub to : f.to ≡ whole.to
  pub rest : List ℕ
  pub bytes : whole.bytes ≡ f.bytes ++ rest

-- the frame begins one that was in flight already
pub record WasInFlight (w : World) (f : InFlight) : Type 0 where
  pub ticket : ℕ
  pub whole : InFlight
  pub at : maps.get w.link.frames ticket ≡ Some whole
  pub begins : Begins f whole

-- the event sends the frame that it begins: the spelling of what is pending at a node
abbrev pub WasSentBy : World → Event → InFlight → Type 0
WasSentBy w (event.Flush id) f = Begins f (sent_frame w id)
WasSentBy w _ f = ⊥

-- one of the events does
abbrev pub WasSentAlong : World → List Event → InFlight → Type 0
WasSentAlong w [] f = ⊥
WasSentAlong w (e ∷ es) f = WasSentBy w e f ⊎ IsSomeAnd (world_after (step w e)) (λ v. WasSentAlong v es f)

-- what is in flight after an event was sent by it, or was in flight before, or is a beginning of that
abbrev pub EventsSendOnlySo : Type 0
EventsSendOnlySo =
    (w : World) (e : Event) (v : World) → world_after (step w e) ≡ Some v
    → (ticket : ℕ) (f : InFlight) → maps.get v.link.frames ticket ≡ Some f → WasInFlight w f ⊎ WasSentBy w e f

-- and so it is after events, one after the other: each frame begins the spelling of one that a node sent on the way
abbrev pub FramesWereSent : Type 0
FramesWereSent =
    (w : World) (es : List Event) (v : World) → run w es ≡ Some v
    → (ticket : ℕ) (f : InFlight) → maps.get v.link.frames ticket ≡ Some f → WasInFlight w f ⊎ WasSentAlong w es f

-- ---- held packets (ifconfig(8), `defer`; if_pfsync.c)

-- the name has a state, and that waits for an acknowledgement
abbrev pub waits_for_ack : Node → StateName → Bool
waits_for_ack n name = option_map_or (λ s. s.ack_wanted) (maps.get n.states name) false

-- a state waits for an acknowledgement exactly while its packet is held, and no packet is held without a state
abbrev pub IsTied : Node → Type 0
IsTied n = (name : StateName) → is_held n name ≡ waits_for_ack n name

-- both nodes of the pair are tied
abbrev pub AreTied : World → Type 0
AreTied w = (id : NodeId) → IsTied (node_at w id)

-- the pair before any event is
abbrev pub OpeningsAreTied : Type 0
OpeningsAreTied = (l : Limits) (a b : Rules) → AreTied (new_world l a b)

-- also where its numbers begin later
abbrev pub LaterOpeningsAreTied : Type 0
LaterOpeningsAreTied = (l : Limits) (a b : Rules) (start : ℕ) → AreTied (new_world_at l a b start)

-- it stays so by each event,
abbrev pub EventsKeepTied : Type 0
EventsKeepTied = (w : World) (e : Event) (v : World) → IsWorld w → AreTied w → world_after (step w e) ≡ Some v → AreTied v

-- by each record of the peer's that a node takes,
abbrev pub RecordsKeepTied : Type 0
RecordsKeepTied = (n : Node) (same_rules : Bool) (m : Message) → AreStates n.states → IsTied n → IsTied (taken n same_rules m)

-- and by events, one after the other
abbrev pub EventsKeepTiedAlong : Type 0
EventsKeepTiedAlong = (w : World) (es : List Event) (v : World) → IsWorld w → AreTied w → run w es ≡ Some v → AreTied v

-- the packet is held at the node
abbrev pub Holds : Node → Held → Type 0
Holds n h = held_of n.held h.name ≡ Some h

-- where the rules are asked of a packet: at the node, without a closed connection that the packet opens anew
abbrev pub asked_at : Node → Dir → Packet → Node
asked_at n dir p = fold (λ m point. point) n (before_rules n dir p (found n.states (key p dir) dir))

-- why a record lets a held packet of the name go: it acknowledges the state, announces it, deletes it, or clears states of its creator, up
-- to it where clears have bounds
abbrev pub LetsOut : Kernel → Message → StateName → Type 0
LetsOut k (message.Clear creator bound) name = (name.creator ≡ creator) × (k.clear ≡ false → name.id ≤ bound)
LetsOut k (message.Insert r) name = ⊥
LetsOut k (message.InsertAck acknowledged) name = acknowledged ≡ name
LetsOut k (message.Update r) name = r.name ≡ name
LetsOut k (message.UpdateShort u) name = u.name ≡ name
LetsOut k (message.UpdateRequest asked) name = ⊥
LetsOut k (message.Delete r) name = r.name ≡ name
LetsOut k (message.DeleteShort gone) name = gone ≡ name
LetsOut k (message.Bulk creator status) name = ⊥

-- whatever record a node takes, a packet that was held is still held, since the same time, or the record let it go
abbrev pub RecordsLetGoOnlySo : Type 0
RecordsLetGoOnlySo = (n : Node) (same_rules : Bool) (m : Message) → AreStates n.states → (h : Held) → Holds n h
    → Holds (taken n same_rules m) h ⊎ LetsOut n.limits.kernel m h.name

-- one of the records lets it go
abbrev pub OneLetsOut : Kernel → List Message → StateName → Type 0
OneLetsOut k [] name = ⊥
OneLetsOut k (m ∷ ms) name = LetsOut k m name ⊎ OneLetsOut k ms name

-- the frame goes to the node, can be read there, and one of its records lets a held packet of the name go
abbrev pub FrameLetsOut : Kernel → NodeId → StateName → InFlight → Type 0
FrameLetsOut k id name f = (f.to ≡ id) × IsOkAnd (reading f.bytes) (λ frame. OneLetsOut k (records_of frame) name)

-- a packet of this fate is held, and the list, which is full, lets its oldest go, which is of this name
abbrev pub LetsOldestGo : Fate → Deferrals → StateName → Type 0
LetsOldestGo f held name = (s : StateName) × ((f ≡ fate.Held s) × IsSomeAnd (pushed_out held) (λ k. k.name ≡ name))

-- why a node's own event lets a packet go that is held there: a later packet of its state is accepted, a full list lets its oldest go,
-- its time has come at a release, or its state is deleted or cleared; no other event of a node does
abbrev pub NodeLetsGo : Node → Node → NodeEvent → Held → Type 0
NodeLetsGo old new (own.Packet dir p) h =
    ((handled old dir p).fate ≡ fate.Pass (Some h.name))
    ⊎ (LetsOldestGo (handled old dir p).fate (asked_at old dir p).held h.name ⊎ (maps.get new.states h.name ≡ None))
NodeLetsGo old new own.Purge h = maps.get new.states h.name ≡ None
NodeLetsGo old new own.Release h = h.held_at + old.limits.defer_ms ≤ old.clock
NodeLetsGo old new (own.Kill name) h = (name ≡ h.name) × (maps.get new.states h.name ≡ None)
NodeLetsGo old new own.Clear h = maps.get new.states h.name ≡ None
NodeLetsGo old new _ h = ⊥

-- why an event lets it go: the node's own does, the peer announces it, or the node begins anew; no other event does
abbrev pub LetsGo : World → NodeId → Node → Node → Event → Held → Type 0
LetsGo w id old new (event.At at e) h = (at ≡ id) × NodeLetsGo old new e h
LetsGo w id old new (event.Of ticket frame.Deliver) h = IsSomeAnd (maps.get w.link.frames ticket) (FrameLetsOut old.limits.kernel id h.name)
LetsGo w id old new (event.Restart at) h = at ≡ id
LetsGo w id old new _ h = ⊥

-- whatever event is accepted, a packet that was held is still held, since the same time, or was let go for such a reason
abbrev pub HeldPacketsLeaveOnlySo : Type 0
HeldPacketsLeaveOnlySo =
    (w : World) (e : Event) (v : World) → IsWorld w → world_after (step w e) ≡ Some v
    → (id : NodeId) (h : Held) → Holds (node_at w id) h → Holds (node_at v id) h ⊎ LetsGo w id (node_at w id) (node_at v id) e h
