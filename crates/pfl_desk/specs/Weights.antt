-- How many edits the changes of a node's parts take at most: one for each place that they change (this project's profile).
use Rattle.std.specs.Prelude.{ℕ, ◌+◌}

-- a held packet goes out, or is dropped: it is taken off, and counted
abbrev pub freed_edits : ℕ
freed_edits = 2

-- a held packet goes out, and its state waits no more
abbrev pub released_edits : ℕ
released_edits = freed_edits + 1

-- a state is changed: it is put in its place, its name is marked, and a frame is wanted soon
abbrev pub changed_edits : ℕ
changed_edits = 3

-- a name is taken off its queue, and its state out
abbrev pub taken_out_edits : ℕ
taken_out_edits = 2

-- a state goes unannounced, and its held packet is dropped
abbrev pub forgotten_edits : ℕ
forgotten_edits = freed_edits + taken_out_edits

-- a state goes, its held packet is dropped, and its deletion is marked
abbrev pub deleted_edits : ℕ
deleted_edits = forgotten_edits + 1

-- something is listed for the peer, and a frame is wanted soon
abbrev pub listed_edits : ℕ
listed_edits = 2
