-- The words of events (this project's profile).
use Rattle.std.specs.Prelude.{ℕ, Bool, List, [], ◌∷◌, find, bytes_eq, codes, Option}
use Rattle.std.specs.List.{list_any}
use Rattle.pfl_language.specs.declared.node_event.NodeEvent.{NodeEvent}
use Rattle.pfl_language.specs.declared.node_event.NodeEvent.TheVariants as own
use Rattle.pfl_language.specs.declared.event.FrameEvent.{FrameEvent}
use Rattle.pfl_language.specs.declared.event.FrameEvent.TheVariants as frame

-- the word of an event of a node
abbrev pub node_event_word : NodeEvent → List ℕ
node_event_word (own.Packet dir p) = codes "packet"
node_event_word (own.Tick ms) = codes "tick"
node_event_word own.Purge = codes "purge"
node_event_word own.Release = codes "release"
node_event_word (own.Kill name) = codes "kill"
node_event_word own.Clear = codes "clear"
node_event_word own.BulkTurn = codes "turn"
node_event_word own.BulkRetry = codes "retry"

-- the events of a node whose line says nothing but their word and the node
abbrev pub bare_node_events : List NodeEvent
bare_node_events = own.Purge ∷ own.Release ∷ own.Clear ∷ own.BulkTurn ∷ own.BulkRetry ∷ []

-- the one of them with the word, if there is one
abbrev pub bare_node_event : List ℕ → Option NodeEvent
bare_node_event word = find (λ e. bytes_eq (node_event_word e) word) bare_node_events

-- the word of an event of a frame in flight
abbrev pub frame_event_word : FrameEvent → List ℕ
frame_event_word frame.Deliver = codes "deliver"
frame_event_word frame.Lose = codes "lose"
frame_event_word frame.Repeat = codes "repeat"
frame_event_word (frame.Cut len) = codes "cut"

-- the events of a frame whose line says nothing but their word and the ticket
abbrev pub bare_frame_events : List FrameEvent
bare_frame_events = frame.Deliver ∷ frame.Lose ∷ frame.Repeat ∷ []

-- the one of them with the word, if there is one
abbrev pub bare_frame_event : List ℕ → Option FrameEvent
bare_frame_event word = find (λ e. bytes_eq (frame_event_word e) word) bare_frame_events

-- the words of all events
abbrev pub words_of_events : List (List ℕ)
words_of_events =
    codes "packet" ∷ codes "tick" ∷ codes "purge" ∷ codes "release" ∷ codes "kill" ∷ codes "clear" ∷ codes "turn" ∷ codes "retry" ∷
    codes "flush" ∷ codes "restart" ∷ codes "deliver" ∷ codes "lose" ∷ codes "repeat" ∷ codes "cut" ∷ []

-- the word is an event's
abbrev pub is_event_word : List ℕ → Bool
is_event_word word = list_any (bytes_eq word) words_of_events
