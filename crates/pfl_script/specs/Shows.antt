-- The lines that show a branch with its world (this project's profile).
use Rattle.std.specs.Prelude.{ℕ, Bool, true, false, List, [], ◌∷◌, ◌++◌, codes, if◌then◌else◌}
use Rattle.std.specs.List.{flat_map}
use Rattle.std.specs.Fmt.{decimal}
use Rattle.pfl_base.specs.declared.flow.Key.{Key}
use Rattle.pfl_base.specs.declared.node_id.NodeId.{NodeId}
use Rattle.pfl_base.specs.declared.node_id.NodeId.TheVariants.{A, B}
use Rattle.pfl_base.specs.declared.state_name.StateName.{StateName}
use Rattle.pfl_base.specs.Lists.{in_order}
use Rattle.pfl_base.specs.Texts.{hex_byte, end_text, proto_text, dir_text, node_text, name_text, class_text}
use Rattle.pfl_edits.specs.Maps as maps
use Rattle.pfl_track.specs.declared.peer.PeerFields.{PeerFields}
use Rattle.pfl_track.specs.declared.state.StateFields.{StateFields}
use Rattle.pfl_wire.specs.declared.message.BulkStatus.{BulkStatus}
use Rattle.pfl_wire.specs.Spelling.{status_byte}
use Rattle.pfl_queue.specs.declared.Cleared.{Cleared}
use Rattle.pfl_queue.specs.declared.Kind.{Kind}
use Rattle.pfl_queue.specs.declared.Kind.TheVariants as kind
use Rattle.pfl_queue.specs.declared.Mark.{Mark}
use Rattle.pfl_queue.specs.Queues.{Queue}
use Rattle.pfl_queue.specs.Taking.{mark_before}
use Rattle.pfl_defer.specs.declared.Held.{Held}
use Rattle.pfl_bulk.specs.declared.BulkClient.{BulkClient}
use Rattle.pfl_bulk.specs.declared.BulkClient.TheVariants as client
use Rattle.pfl_bulk.specs.declared.BulkServer.{BulkServer}
use Rattle.pfl_bulk.specs.declared.BulkServer.TheVariants as server
use Rattle.pfl_timeline.specs.desk.declared.counters.Counters.{Counters}
use Rattle.pfl_timeline.specs.desk.Nodes.{Node}
use Rattle.pfl_link.specs.Links.{InFlight, Link}
use Rattle.pfl_timeline.specs.world.Worlds.{World}
use Rattle.pfl_script.specs.Texts.{or_dash}

-- ---- a branch

-- the branch, with its events and its cursor
abbrev pub branch_line : List ℕ → ℕ → ℕ → List ℕ
branch_line name events cursor = codes "branch " ++ name ++ codes " events " ++ decimal events ++ codes " cursor " ++ decimal cursor ++ codes "\n"

-- ---- a node

-- a mark that is set or not
abbrev pub bit_text : Bool → List ℕ
bit_text true = codes "1"
bit_text false = codes "0"

-- where a bulk update is, and since when
abbrev pub server_text : BulkServer → List ℕ
server_text server.Idle = codes "-"
server_text (server.Serving cursor since) = name_text cursor ++ codes "/" ++ decimal since

-- how often a bulk update was asked for, and when last
abbrev pub client_text : BulkClient → List ℕ
client_text client.Idle = codes "-"
client_text (client.Waiting tries asked) = decimal tries ++ codes "/" ++ decimal asked

-- a node's clock, its boot, its next id and its next queueing number
unfoldable pub numbers_text : ℕ → ℕ → ℕ → ℕ → List ℕ
numbers_text clock boot id number = codes "clock " ++ decimal clock ++ codes " boot " ++ decimal boot ++ codes " id " ++ decimal id
    ++ codes " seq " ++ decimal number

-- whether a node asks for a push, and what its bulk updates are at
unfoldable pub bulk_text : Bool → BulkServer → BulkClient → List ℕ
bulk_text push server client = codes "push " ++ bit_text push ++ codes " serve " ++ server_text server ++ codes " sync " ++ client_text client

-- the two parts of a node's line
abbrev pub node_parts : NodeId → List ℕ → List ℕ → List ℕ
node_parts id numbers bulk = codes "node " ++ node_text id ++ codes " " ++ numbers ++ codes " " ++ bulk ++ codes "\n"

-- a node
abbrev pub node_line : NodeId → Node → List ℕ
node_line id n = node_parts id (numbers_text n.clock n.creator n.next_id n.queue.next) (bulk_text n.push n.server n.client)

-- what a node counts
abbrev pub count_line : NodeId → Counters → List ℕ
count_line id c =
    codes "count " ++ node_text id ++ codes " " ++ decimal c.passed ++ codes " " ++ decimal c.blocked ++ codes " " ++ decimal c.freed ++ codes " "
    ++ decimal c.lost ++ codes " " ++ decimal c.bad ++ codes " " ++ decimal c.stale ++ codes " " ++ decimal c.broken ++ codes "\n"

-- the far and the near end of a flow
abbrev pub key_text : Key → List ℕ
key_text k = end_text k.far ++ codes " " ++ end_text k.near

-- an end of a connection: level, scale, window, lo and hi
unfoldable pub peer_text : PeerFields → List ℕ
peer_text e =
    decimal e.level ++ codes " " ++ or_dash decimal e.scale ++ codes " " ++ decimal e.window ++ codes " " ++ decimal e.lo ++ codes " " ++ decimal e.hi

-- the flags of a state: `n` for no-sync, `k` for ack-wanted, or a dash; none is both
abbrev pub flags_text : Bool → Bool → List ℕ
flags_text no_sync ack_wanted = if no_sync then codes "n" else if ack_wanted then codes "k" else codes "-"

-- the flow of a state: its protocol, the way of its first packet, and its keys
unfoldable pub flow_text : StateFields → List ℕ
flow_text s = proto_text s.wire.proto ++ codes " " ++ dir_text s.direction ++ codes " " ++ key_text s.wire ++ codes " " ++ key_text s.stack

-- the class of a state, when it was last used, and its rule
unfoldable pub use_text : StateFields → List ℕ
use_text s = class_text s.class ++ codes " " ++ decimal s.last ++ codes " " ++ or_dash decimal s.rule

-- the flags of a state, its update count, and when the peer last changed it
unfoldable pub sync_text : StateFields → List ℕ
sync_text s = flags_text s.no_sync s.ack_wanted ++ codes " " ++ decimal s.updates ++ codes " " ++ or_dash decimal s.peer_change

-- the ends of a state: the one that sent the first packet, and the other
unfoldable pub ends_text : StateFields → List ℕ
ends_text s = peer_text s.src ++ codes " " ++ peer_text s.dst

-- a state but for its name
unfoldable pub state_text : StateFields → List ℕ
state_text s = flow_text s ++ codes " " ++ ends_text s ++ codes " " ++ use_text s ++ codes " " ++ sync_text s

-- a state of a node
abbrev pub state_line : NodeId → StateFields → List ℕ
state_line id s = codes "state " ++ node_text id ++ codes " " ++ name_text s.name ++ codes " " ++ state_text s ++ codes "\n"

-- the word of a queue
abbrev pub kind_text : Kind → List ℕ
kind_text kind.Insert = codes "ins"
kind_text kind.InsertAck = codes "iack"
kind_text kind.Update = codes "upd"
kind_text kind.UpdateShort = codes "updc"
kind_text kind.Delete = codes "del"

-- a name on a queue
abbrev pub queue_line : NodeId → Mark → List ℕ
queue_line id m = codes "queue " ++ node_text id ++ codes " " ++ kind_text m.kind ++ codes " " ++ decimal m.number ++ codes " "
    ++ name_text m.name ++ codes "\n"

-- a name that is asked for
abbrev pub ask_line : NodeId → StateName → List ℕ
ask_line id name = codes "ask " ++ node_text id ++ codes " " ++ name_text name ++ codes "\n"

-- a bulk status, by its number
abbrev pub bus_line : NodeId → BulkStatus → List ℕ
bus_line id status = codes "bus " ++ node_text id ++ codes " " ++ decimal (status_byte status) ++ codes "\n"

-- what is to be cleared
abbrev pub clear_line : NodeId → Cleared → List ℕ
clear_line id c = codes "clr " ++ node_text id ++ codes " " ++ decimal c.creator ++ codes " " ++ decimal c.bound ++ codes "\n"

-- a held packet, by its state, and since when it is held
abbrev pub held_line : NodeId → Held → List ℕ
held_line id h = codes "held " ++ node_text id ++ codes " " ++ name_text h.name ++ codes " " ++ decimal h.held_at ++ codes "\n"

-- what is to be sent to the peer: marks by kind and number, and the lists in their order
abbrev pub queue_lines : NodeId → Queue → List ℕ
queue_lines id q =
    flat_map (queue_line id) (in_order mark_before (maps.values q.marks)) ++ flat_map (ask_line id) q.requests
    ++ flat_map (bus_line id) q.statuses ++ flat_map (clear_line id) q.clears

-- all of a node: states by name, what is to be sent, and held packets, the oldest first
unfoldable pub node_lines : NodeId → Node → List ℕ
node_lines id n =
    node_line id n ++ count_line id n.counters ++ flat_map (state_line id) (maps.values n.states)
    ++ queue_lines id n.queue ++ flat_map (held_line id) n.held.list

-- ---- the link

-- the next ticket and the next boot number
abbrev pub link_line : ℕ → ℕ → List ℕ
link_line next boot = codes "link next " ++ decimal next ++ codes " boot " ++ decimal boot ++ codes "\n"

-- bytes in hexadecimal digits, or a dash for none
abbrev pub hex_text : List ℕ → List ℕ
hex_text [] = codes "-"
hex_text (b ∷ bytes) = flat_map hex_byte (b ∷ bytes)

-- a frame's ticket, its receiver and its bytes
abbrev pub frame_text : ℕ → NodeId → List ℕ → List ℕ
frame_text ticket to bytes = codes "frame " ++ decimal ticket ++ codes " " ++ node_text to ++ codes " " ++ hex_text bytes ++ codes "\n"

-- a frame in flight
abbrev pub frame_line : ℕ × InFlight → List ℕ
frame_line (ticket, f) = frame_text ticket f.to f.bytes

-- all of the link, by ticket
unfoldable pub link_lines : Link → ℕ → List ℕ
link_lines l boot = link_line l.next boot ++ flat_map frame_line (maps.entries l.frames)

-- ---- a world

-- a branch with its world
unfoldable pub show_text : List ℕ → ℕ → ℕ → World → List ℕ
show_text name events cursor w =
    branch_line name events cursor ++ node_lines A w.a ++ node_lines B w.b ++ link_lines w.link w.next_boot ++ codes "end\n"
