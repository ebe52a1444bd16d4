-- The bulk update (if_pfsync.c; turns and tries are this project's profile).
use Rattle.std.specs.Prelude.{◌≡◌, ℕ, ◌+◌, Bool, true, false, not, nat_le, nat_lt, List, [], filter, take, length, if◌then◌else◌, unwrap_or, Option, Some, None}
use Rattle.std.specs.Ordering.{is_lt}
use Rattle.pfl_base.specs.Lists.{last_of}
use Rattle.pfl_base.specs.declared.refusal.Refusal.{Refusal}
use Rattle.pfl_base.specs.declared.refusal.Refusal.TheVariants.{NotSyncing, TooEarly}
use Rattle.pfl_base.specs.declared.state_name.StateName.{StateName}
use Rattle.pfl_base.specs.Names.{name_cmp}
use Rattle.pfl_wire.specs.declared.message.BulkStatus.{BulkStatus}
use Rattle.pfl_wire.specs.declared.message.BulkStatus.TheVariants.{Start, End as Finish}
use Rattle.pfl_bulk.specs.declared.BulkServer.{BulkServer}
use Rattle.pfl_bulk.specs.declared.BulkServer.TheVariants as server
use Rattle.pfl_bulk.specs.declared.BulkClient.{BulkClient}
use Rattle.pfl_bulk.specs.declared.BulkClient.TheVariants as client

-- no node gives this name; as a request it asks for all. A state that a record brought under it is never part of a bulk update
abbrev pub no_name : StateName
no_name = record { creator = 0; id = 0 }

-- a server after a request for all: it begins now, also where one runs; without states it stays as it was
abbrev pub server_started : BulkServer → Bool → ℕ → BulkServer
server_started s has_states now = if has_states then server.Serving no_name now else s

-- the names after the cursor
abbrev pub names_after : StateName → List StateName → List StateName
names_after cursor names = filter (λ n. is_lt (name_cmp cursor n)) names

-- the names of a turn: the first `batch` of those after the cursor
abbrev pub turn_names : BulkServer → List StateName → ℕ → List StateName
turn_names server.Idle names batch = []
turn_names (server.Serving cursor since) names batch = take batch (names_after cursor names)

-- none is left after the turn; an idle server has no turn, and this value of it is not asked for
abbrev pub is_last_turn : BulkServer → List StateName → ℕ → Bool
is_last_turn server.Idle names batch = true
is_last_turn (server.Serving cursor since) names batch = nat_le (length (names_after cursor names)) batch

-- the server after a turn: at the last of its names, or idle after the last turn
abbrev pub after_turn : BulkServer → List StateName → ℕ → BulkServer
after_turn server.Idle names batch = server.Idle
after_turn (server.Serving cursor since) names batch =
    if nat_le (length (names_after cursor names)) batch then server.Idle
    else server.Serving (unwrap_or (last_of (take batch (names_after cursor names))) cursor) since

-- the first n of the names after the cursor
abbrev pub first_names : BulkServer → List StateName → ℕ → List StateName
first_names server.Idle names n = []
first_names (server.Serving cursor since) names n = take n (names_after cursor names)

-- a turn over the first names after the cursor, one more than it sends, is one over all
pub record IsSameTurn (s : BulkServer) (few all : List StateName) (batch : ℕ) : Type 0 where
  pub names : turn_names s few batch ≡ turn_names s all batch
  pub server_after : after_turn s few batch ≡ after_turn s all batch
  pub last : is_last_turn s few batch ≡ is_last_turn s all batch

abbrev pub TurnsNeedFewNames : Type 0
TurnsNeedFewNames = (s : BulkServer) (all : List StateName) (batch : ℕ) → IsSameTurn s (first_names s all (batch + 1)) all batch

-- the client that asked for the first time
abbrev pub first_asked : ℕ → BulkClient
first_asked now = client.Waiting 1 now

-- the client at a START: it was heard now
abbrev pub heard : BulkClient → ℕ → BulkClient
heard client.Idle now = client.Idle
heard (client.Waiting tries asked) now = client.Waiting tries now

-- the client after a status: a START is heard, and an END ends the waiting
abbrev pub after_status : BulkClient → BulkStatus → ℕ → BulkClient
after_status c Start now = heard c now
after_status c Finish now = client.Idle

-- the client waits for the end of an update
abbrev pub is_waiting : BulkClient → Bool
is_waiting client.Idle = false
is_waiting (client.Waiting tries asked) = true

-- the server is at work
abbrev pub is_serving : BulkServer → Bool
is_serving server.Idle = false
is_serving (server.Serving cursor since) = true

-- its time has come to ask again
abbrev pub is_due : BulkClient → ℕ → ℕ → Bool
is_due client.Idle bulk_ms now = false
is_due (client.Waiting tries asked) bulk_ms now = nat_le (asked + bulk_ms) now

-- why it can't ask again, the first reason first: it does not wait, or it is too early
abbrev pub ask_refusal : BulkClient → ℕ → ℕ → Option Refusal
ask_refusal client bulk_ms now =
    if not (is_waiting client) then Some NotSyncing
    else if not (is_due client bulk_ms now) then Some TooEarly
    else None

-- it asks again, after fewer than 12 tries
abbrev pub asks_again : BulkClient → Bool
asks_again client.Idle = false
asks_again (client.Waiting tries asked) = nat_lt tries 12

-- the client after it: one try more, or as if served
abbrev pub retried : BulkClient → ℕ → BulkClient
retried client.Idle now = client.Idle
retried (client.Waiting tries asked) now = if nat_lt tries 12 then client.Waiting (tries + 1) now else client.Idle

-- how often it has asked
abbrev pub tries_of : BulkClient → ℕ
tries_of client.Idle = 0
tries_of (client.Waiting tries asked) = tries
