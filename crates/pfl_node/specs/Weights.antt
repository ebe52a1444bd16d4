-- How many edits what an event does takes at most, beside those of the changes of a node's parts (this project's profile).
use Rattle.std.specs.Prelude.{ℕ, ◌+◌, ◌*◌}
use Rattle.pfl_receive.specs.desk.Weights.{listed_edits}

-- the edits of an event that is about this many states, records or packets
abbrev pub edits_for : ℕ → ℕ
edits_for n = 12 + 12 * n

-- what becomes of a packet
abbrev pub packet_edits : ℕ
packet_edits = 14

-- the clock goes on
abbrev pub ticked_edits : ℕ
ticked_edits = 1

-- a record is sent: its entry is taken out, and the updates of its state are counted anew
abbrev pub sent_edits : ℕ
sent_edits = 2

-- a client asks for all states again, and keeps that it did
abbrev pub retried_edits : ℕ
retried_edits = listed_edits + 1

-- a turn ends: the end is announced, and the server keeps its place
abbrev pub turned_edits : ℕ
turned_edits = listed_edits + 1
