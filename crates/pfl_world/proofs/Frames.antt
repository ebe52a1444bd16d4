-- Worked examples of frames, computed.
use Rattle.std.specs.Prelude.{◌≡◌, ℕ, true, false, List, [], ◌∷◌, ◌++◌, map, length, Option, Some, None, Result, Ok, Err, refl}
use Rattle.pfl_base.specs.declared.proto.Proto.TheVariants.{Udp}
use Rattle.pfl_base.specs.declared.refusal.Refusal.TheVariants as refusal
use Rattle.pfl_base.specs.declared.class.Class.TheVariants.{UdpSingle}
use Rattle.pfl_base.specs.declared.node_id.NodeId.TheVariants.{A, B}
use Rattle.pfl_wire.specs.declared.fault.BadFrame.TheVariants as fault
use Rattle.pfl_node.specs.queue.declared.Kind.TheVariants.{Insert, Update, UpdateShort, Delete}
use Rattle.std.specs.Prelude.{take, replicate, slice_set}
use Rattle.pfl_edits.specs.Maps as maps
use Rattle.std.specs.List.{range_with_len, fold}
use Rattle.pfl_wire.specs.declared.fault.BadFrame.{BadFrame}
use Rattle.pfl_wire.specs.declared.message.Message.{Message}
use Rattle.pfl_wire.specs.Frames.{Frame, records_of}
use Rattle.pfl_wire.specs.Spelling.{spelling}
use Rattle.pfl_wire.specs.Reading.{reading}
use Rattle.pfl_language.specs.declared.outcome.Outcome.TheVariants as outcome
use Rattle.pfl_language.specs.declared.node_event.NodeOutcome.TheVariants as given
use Rattle.pfl_node.specs.desk.Nodes.{Node, new_node}
use Rattle.pfl_node.specs.Flushing.{frame_of, remaining}
use Rattle.pfl_node.specs.receive.Receiving.{taken as take_record}
use Rattle.pfl_world.specs.Weights.{weight}
use Rattle.pfl_node.specs.Weights.{edits_for}
use Rattle.pfl_world.specs.Delivering.{deliver_work}
use Rattle.pfl_world.specs.Worlds.{World, node_at, new_world}
use Rattle.pfl_world.proofs.Lab.{limits, rules, opening, inside, outside, plain, u1, u2, u3, v1, out, into, tcp_out, tcp_in, name, answers, final}
use Rattle.pfl_world.proofs.Lab.{computing, queue_at, queued, states_at, push_at, counts_at, counts, requests_at, held_at, names_at, seen, levels}
use Rattle.pfl_world.proofs.Lab.{times, both, flush, deliver, lose, repeat, cut, tick, purge, release, kill, passed, sent, taken, clock, rules_under}
use Rattle.pfl_world.proofs.Lab.{pass_out, held, did}

abbrev s : World
s = opening limits

request_answered : answers (s) (out A u1 ∷ flush A ∷ lose 1 ∷ into A v1 ∷ flush A ∷ deliver 2 ∷ flush B ∷ deliver 3 ∷ flush A ∷ deliver 4
    ∷ []) ≡ passed 1 1 ∷ sent 1 148 ∷ Ok outcome.Lost ∷ passed 1 1 ∷ sent 2 68 ∷ taken 1 ∷ sent 3 36 ∷ taken 1 ∷ sent 4 148 ∷ taken 1 ∷ []
unfolding computing
request_answered = refl

requested : requests_at (final (s) (out A u1 ∷ flush A ∷ lose 1 ∷ into A v1 ∷ flush A ∷ deliver 2 ∷ [])) B ≡ name 1 1 ∷ []
unfolding computing
requested = refl

update_queued : queue_at (final (s) (out A u1 ∷ flush A ∷ lose 1 ∷ into A v1 ∷ flush A ∷ deliver 2 ∷ flush B ∷ deliver 3 ∷ [])) A
    ≡ queued Update 3 (name 1 1) ∷ []
unfolding computing
update_queued = refl

state_came : map (λ t. both (seen t) (both t.rule t.peer_change))
    (states_at (final (s) (out A u1 ∷ flush A ∷ lose 1 ∷ into A v1 ∷ flush A ∷ deliver 2 ∷ flush B ∷ deliver 3 ∷ flush A ∷ deliver 4
    ∷ [])) B) ≡ ((2, 1, UdpSingle), (Some 0, Some 0)) ∷ []
unfolding computing
state_came = refl

repeated : answers (s) (out A u1 ∷ flush A ∷ repeat 1 ∷ deliver 1 ∷ deliver 2 ∷ []) ≡ passed 1 1 ∷ sent 1 148 ∷ sent 2 148 ∷ taken 1 ∷ taken 1 ∷ []
unfolding computing
repeated = refl

repeated_is_bad : both (counts_at (final (s) (out A u1 ∷ flush A ∷ repeat 1 ∷ deliver 1 ∷ deliver 2 ∷ [])) B)
    (names_at (final (s) (out A u1 ∷ flush A ∷ repeat 1 ∷ deliver 1 ∷ deliver 2 ∷ [])) B) ≡ both (counts 0 0 0 0 1 0 0) (name 1 1 ∷ [])
unfolding computing
repeated_is_bad = refl

killed : answers (s) (out A u1 ∷ out A u2 ∷ out A u3 ∷ kill A (name 1 2) ∷ flush A ∷ []) ≡ passed 1 1 ∷ passed 1 2 ∷ passed 1 3
    ∷ did given.Killed ∷ sent 1 272 ∷ []
unfolding computing
killed = refl

killed_queue : queue_at (final (s) (out A u1 ∷ out A u2 ∷ out A u3 ∷ kill A (name 1 2) ∷ [])) A ≡ queued Insert 1 (name 1 1) ∷ queued Insert 3 (name 1 3) ∷ []
unfolding computing
killed_queue = refl

-- as it was before the kill
killed_undone : queue_at (final (s) (out A u1 ∷ out A u2 ∷ out A u3 ∷ [])) A ≡ queued Insert 1 (name 1 1) ∷ queued Insert 2 (name 1 2)
    ∷ queued Insert 3 (name 1 3) ∷ []
unfolding computing
killed_undone = refl

abbrev deferring : World
deferring = opening (record limits { defer = true; held = 1 })

deferred : answers (deferring) (out A u1 ∷ flush A ∷ out A u2 ∷ deliver 1 ∷ flush B ∷ deliver 2 ∷ release A ∷ tick A 20 ∷ release A
    ∷ release A ∷ []) ≡ held 1 1 ∷ sent 1 148 ∷ held 1 2 ∷ taken 1 ∷ sent 2 36 ∷ taken 1 ∷ Err refusal.TooEarly ∷ clock 20
    ∷ did (given.Released 1) ∷ Err refusal.NothingPending ∷ []
unfolding computing
deferred = refl

pushed_out : counts_at (final (deferring) (out A u1 ∷ flush A ∷ out A u2 ∷ [])) A ≡ counts 0 0 1 0 0 0 0
unfolding computing
pushed_out = refl

still_held : held_at (final (deferring) (out A u1 ∷ flush A ∷ out A u2 ∷ deliver 1 ∷ flush B ∷ deliver 2 ∷ [])) A ≡ (name 1 2, 0) ∷ []
unfolding computing
still_held = refl

same_flow_at_both : answers (s) (out A u1 ∷ out B u1 ∷ flush A ∷ deliver 1 ∷ []) ≡ passed 1 1 ∷ passed 2 1 ∷ sent 1 148 ∷ taken 1 ∷ []
unfolding computing
same_flow_at_both = refl

same_flow_is_bad : counts_at (final (s) (out A u1 ∷ out B u1 ∷ flush A ∷ deliver 1 ∷ [])) B ≡ counts 1 0 0 0 1 0 0
unfolding computing
same_flow_is_bad = refl

cut_in_record : answers (s) (out A u1 ∷ flush A ∷ cut 1 147 ∷ deliver 1 ∷ []) ≡ passed 1 1 ∷ sent 1 148 ∷ Ok (outcome.CutTo 147)
    ∷ Ok (outcome.Broken fault.Length) ∷ []
unfolding computing
cut_in_record = refl

cut_in_header : answers (s) (out A u1 ∷ flush A ∷ cut 1 19 ∷ deliver 1 ∷ []) ≡ passed 1 1 ∷ sent 1 148 ∷ Ok (outcome.CutTo 19)
    ∷ Ok (outcome.Broken fault.Short) ∷ []
unfolding computing
cut_in_header = refl

two_in_a_frame : answers (s) (out A u1 ∷ out A u2 ∷ flush A ∷ []) ≡ passed 1 1 ∷ passed 1 2 ∷ sent 1 272 ∷ []
unfolding computing
two_in_a_frame = refl

one_in_a_frame : answers (opening (record limits { mtu = 148 })) (out A u1 ∷ out A u2 ∷ flush A ∷ flush A ∷ []) ≡ passed 1 1 ∷ passed 1 2
    ∷ sent 1 148 ∷ sent 2 148 ∷ []
unfolding computing
one_in_a_frame = refl

one_left : queue_at (final (opening (record limits { mtu = 148 })) (out A u1 ∷ out A u2 ∷ flush A ∷ [])) A ≡ queued Insert 2 (name 1 2) ∷ []
unfolding computing
one_left = refl

push_after_two_updates : both
    (push_at (final (opening (record limits { maxupd = 2 })) (tcp_out 2 100 0 1000 ∷ tcp_in 18 500 101 2000 ∷ [])) A)
    (push_at (final (opening (record limits { maxupd = 2 })) (tcp_out 2 100 0 1000 ∷ tcp_in 18 500 101 2000 ∷ tcp_out 16 101 501 1000
    ∷ [])) A) ≡ both (false) (true)
unfolding computing
push_after_two_updates = refl

remaining_time : answers (s) (out A u1 ∷ tick A 10500 ∷ flush A ∷ tick B 20000 ∷ deliver 1 ∷ tick A 49500 ∷ purge A ∷ flush A ∷ deliver 2
    ∷ []) ≡ passed 1 1 ∷ clock 10500 ∷ sent 1 148 ∷ clock 20000 ∷ taken 1 ∷ clock 60000 ∷ did (given.Purged 1) ∷ sent 2 36 ∷ taken 1 ∷ []
unfolding computing
remaining_time = refl

last_use_came : map times (states_at (final (s) (out A u1 ∷ tick A 10500 ∷ flush A ∷ tick B 20000 ∷ deliver 1 ∷ [])) B) ≡ (9000, Some 20000) ∷ []
unfolding computing
last_use_came = refl

-- of 60 seconds 49.5 are left, and whole ones travel
seconds_left : (let n = node_at (final (s) (out A u1 ∷ tick A 10500 ∷ [])) A in map (remaining n) (maps.values n.states)) ≡ 49 ∷ []
unfolding computing
seconds_left = refl

deletion_queued : queue_at (final (s) (out A u1 ∷ tick A 10500 ∷ flush A ∷ tick B 20000 ∷ deliver 1 ∷ tick A 49500 ∷ purge A ∷ [])) A
    ≡ queued Delete 2 (name 1 1) ∷ []
unfolding computing
deletion_queued = refl

deletion_came : names_at (final (s) (out A u1 ∷ tick A 10500 ∷ flush A ∷ tick B 20000 ∷ deliver 1 ∷ tick A 49500 ∷ purge A ∷ flush A ∷ deliver 2 ∷ [])) B ≡ []
unfolding computing
deletion_came = refl

stale_update : answers (s) (out A u1 ∷ flush A ∷ deliver 1 ∷ into B v1 ∷ out A u1 ∷ flush A ∷ deliver 2 ∷ flush B ∷ deliver 3 ∷ [])
    ≡ passed 1 1 ∷ sent 1 148 ∷ taken 1 ∷ passed 1 1 ∷ passed 1 1 ∷ sent 2 68 ∷ taken 1 ∷ sent 3 68 ∷ taken 1 ∷ []
unfolding computing
stale_update = refl

changed_at_b : both (map seen (states_at (final (s) (out A u1 ∷ flush A ∷ deliver 1 ∷ into B v1 ∷ [])) B))
    (both (queue_at (final (s) (out A u1 ∷ flush A ∷ deliver 1 ∷ into B v1 ∷ [])) B)
    (push_at (final (s) (out A u1 ∷ flush A ∷ deliver 1 ∷ into B v1 ∷ [])) B))
    ≡ both ((2, 1, UdpSingle) ∷ []) (both (queued UpdateShort 1 (name 1 1) ∷ []) (true))
unfolding computing
changed_at_b = refl

changed_at_a : both (map seen (states_at (final (s) (out A u1 ∷ flush A ∷ deliver 1 ∷ into B v1 ∷ out A u1 ∷ [])) A))
    (queue_at (final (s) (out A u1 ∷ flush A ∷ deliver 1 ∷ into B v1 ∷ out A u1 ∷ [])) A)
    ≡ both ((1, 0, UdpSingle) ∷ []) (queued UpdateShort 2 (name 1 1) ∷ [])
unfolding computing
changed_at_a = refl

stale_at_b : both (map seen (states_at (final (s) (out A u1 ∷ flush A ∷ deliver 1 ∷ into B v1 ∷ out A u1 ∷ flush A ∷ deliver 2 ∷ [])) B))
    (counts_at (final (s) (out A u1 ∷ flush A ∷ deliver 1 ∷ into B v1 ∷ out A u1 ∷ flush A ∷ deliver 2 ∷ [])) B)
    ≡ both ((2, 1, UdpSingle) ∷ []) (counts 1 0 0 0 0 1 0)
unfolding computing
stale_at_b = refl

merged_at_a : map levels (states_at
    (final (s) (out A u1 ∷ flush A ∷ deliver 1 ∷ into B v1 ∷ out A u1 ∷ flush A ∷ deliver 2 ∷ flush B ∷ deliver 3 ∷ [])) A) ≡ (2, 1) ∷ []
unfolding computing
merged_at_a = refl

request_too_late : answers (s) (out A u1 ∷ flush A ∷ lose 1 ∷ into A v1 ∷ flush A ∷ deliver 2 ∷ flush B ∷ tick A 30000 ∷ purge A
    ∷ deliver 3 ∷ []) ≡ passed 1 1 ∷ sent 1 148 ∷ Ok outcome.Lost ∷ passed 1 1 ∷ sent 2 68 ∷ taken 1 ∷ sent 3 36 ∷ clock 30000
    ∷ did (given.Purged 1) ∷ taken 1 ∷ []
unfolding computing
request_too_late = refl

request_is_bad : both (queue_at
    (final (s) (out A u1 ∷ flush A ∷ lose 1 ∷ into A v1 ∷ flush A ∷ deliver 2 ∷ flush B ∷ tick A 30000 ∷ purge A ∷ deliver 3 ∷ [])) A)
    (counts_at (final (s) (out A u1 ∷ flush A ∷ lose 1 ∷ into A v1 ∷ flush A ∷ deliver 2 ∷ flush B ∷ tick A 30000 ∷ purge A ∷ deliver 3
    ∷ [])) A) ≡ both (queued Delete 3 (name 1 1) ∷ []) (counts 2 0 0 0 1 0 0)
unfolding computing
request_is_bad = refl

abbrev waiting : World
waiting = opening (record limits { defer = true })

acknowledged : answers (waiting) (out A u1 ∷ flush A ∷ deliver 1 ∷ flush B ∷ deliver 2 ∷ []) ≡ held 1 1 ∷ sent 1 148 ∷ taken 1 ∷ sent 2 36 ∷ taken 1 ∷ []
unfolding computing
acknowledged = refl

freed : both (counts_at (final (waiting) (out A u1 ∷ flush A ∷ deliver 1 ∷ flush B ∷ deliver 2 ∷ [])) A)
    (held_at (final (waiting) (out A u1 ∷ flush A ∷ deliver 1 ∷ flush B ∷ deliver 2 ∷ [])) A) ≡ both (counts 0 0 1 0 0 0 0) ([])
unfolding computing
freed = refl

held_before : both (held_at (final (waiting) (out A u1 ∷ flush A ∷ deliver 1 ∷ flush B ∷ [])) A)
    (map (λ t. t.ack_wanted) (states_at (final (waiting) (out A u1 ∷ flush A ∷ deliver 1 ∷ flush B ∷ [])) A)) ≡ both ((name 1 1, 0) ∷ []) (true ∷ [])
unfolding computing
held_before = refl

held_first : both (held_at (final (waiting) (out A u1 ∷ [])) A) (map (λ t. t.ack_wanted) (states_at (final (waiting) (out A u1 ∷ [])) A))
    ≡ both ((name 1 1, 0) ∷ []) (true ∷ [])
unfolding computing
held_first = refl

freed_by_second : answers (waiting) (out A u1 ∷ out A u1 ∷ []) ≡ held 1 1 ∷ passed 1 1 ∷ []
unfolding computing
freed_by_second = refl

freed_by_second_count : counts_at (final (waiting) (out A u1 ∷ out A u1 ∷ [])) A ≡ counts 1 0 1 0 0 0 0
unfolding computing
freed_by_second_count = refl

lost_by_update : answers (waiting) (out A u1 ∷ flush A ∷ deliver 1 ∷ into B v1 ∷ flush B ∷ deliver 2 ∷ []) ≡ held 1 1 ∷ sent 1 148
    ∷ taken 1 ∷ passed 1 1 ∷ sent 2 68 ∷ taken 1 ∷ []
unfolding computing
lost_by_update = refl

update_in_place_of_ack : queue_at (final (waiting) (out A u1 ∷ flush A ∷ deliver 1 ∷ into B v1 ∷ [])) B ≡ queued UpdateShort 2 (name 1 1) ∷ []
unfolding computing
update_in_place_of_ack = refl

lost_by_update_count : both (counts_at (final (waiting) (out A u1 ∷ flush A ∷ deliver 1 ∷ into B v1 ∷ flush B ∷ deliver 2 ∷ [])) A)
    (map levels (states_at (final (waiting) (out A u1 ∷ flush A ∷ deliver 1 ∷ into B v1 ∷ flush B ∷ deliver 2 ∷ [])) A))
    ≡ both (counts 0 0 0 1 0 0 0) ((2, 1) ∷ [])
unfolding computing
lost_by_update_count = refl

ten_records : answers (s) (out A (plain Udp (inside 1000) (outside 53) 40) ∷ out A (plain Udp (inside 1001) (outside 53) 40)
    ∷ out A (plain Udp (inside 1002) (outside 53) 40) ∷ out A (plain Udp (inside 1003) (outside 53) 40)
    ∷ out A (plain Udp (inside 1004) (outside 53) 40) ∷ out A (plain Udp (inside 1005) (outside 53) 40)
    ∷ out A (plain Udp (inside 1006) (outside 53) 40) ∷ out A (plain Udp (inside 1007) (outside 53) 40)
    ∷ out A (plain Udp (inside 1008) (outside 53) 40) ∷ out A (plain Udp (inside 1009) (outside 53) 40) ∷ flush A ∷ deliver 1 ∷ [])
    ≡ passed 1 1 ∷ passed 1 2 ∷ passed 1 3 ∷ passed 1 4 ∷ passed 1 5 ∷ passed 1 6 ∷ passed 1 7 ∷ passed 1 8 ∷ passed 1 9 ∷ passed 1 10
    ∷ sent 1 1264 ∷ taken 10 ∷ []
unfolding computing
ten_records = refl

one_state_at_b : counts_at (final (opening (record limits { states = 1 })) (out B u2 ∷ out A u1 ∷ flush A ∷ deliver 1 ∷ [])) B ≡ counts 1 0 0 0 1 0 0
unfolding computing
one_state_at_b = refl

-- under other rules a state that is taken over has none
other_rules : map (λ t. t.rule)
    (states_at (final (new_world limits (rules_under 7 (pass_out ∷ [])) (rules_under 8 (pass_out ∷ [])))
    (out A u1 ∷ flush A ∷ deliver 1 ∷ [])) B) ≡ None ∷ []
unfolding computing
other_rules = refl

-- a change by the peer is recent for less than two seconds
recent_change : map (λ ms. push_at (final s (out A u1 ∷ flush A ∷ deliver 1 ∷ tick B ms ∷ into B v1 ∷ [])) B) (1999 ∷ 2000 ∷ []) ≡ true ∷ false ∷ []
unfolding computing
recent_change = refl

-- ---- damaged frames

cut_too_long : answers (s) (out A u1 ∷ flush A ∷ cut 1 9999 ∷ []) ≡ passed 1 1 ∷ sent 1 148 ∷ Ok (outcome.CutTo 148) ∷ []
unfolding computing
cut_too_long = refl

cut_to_nothing : answers (s) (out A u1 ∷ flush A ∷ cut 1 0 ∷ deliver 1 ∷ []) ≡ passed 1 1 ∷ sent 1 148 ∷ Ok (outcome.CutTo 0)
    ∷ Ok (outcome.Broken fault.Short) ∷ []
unfolding computing
cut_to_nothing = refl

abbrev first_frame : List ℕ
first_frame = spelling (frame_of (node_at (final s (out A u1 ∷ [])) A))

abbrev why : Result Frame BadFrame → Option BadFrame
why (Ok f) = None
why (Err e) = Some e

-- the records of a frame that is read
abbrev records : List ℕ → List Message
records bytes = elim (reading bytes) as (λ r. List Message) [ Ok f ↦ records_of f | Err e ↦ [] ]

-- a new node of creator 1 after records
abbrev messages_taken : List Message → Node
messages_taken ms = fold (λ n m. take_record n true m) (new_node limits (rules []) 1 1 0) ms

whole : length first_frame ≡ 148
unfolding computing
whole = refl

-- each proper prefix: Short up to 19 bytes, and Length from 20
prefixes_refused : map (λ n. why (reading (take n first_frame))) (range_with_len 0 148) ≡ replicate 20 (Some fault.Short) ++ replicate 128 (Some fault.Length)
unfolding computing
prefixes_refused = refl

-- counts of records that are not there: 0, 2, 256, 257 and 65535
counts_refused : map (λ (count : ℕ × ℕ). why (reading (slice_set (slice_set first_frame 22 count.0) 23 count.1)))
    ((0, 0) ∷ (0, 2) ∷ (1, 0) ∷ (1, 1) ∷ (255, 255) ∷ []) ≡ replicate 5 (Some fault.Count)
unfolding computing
counts_refused = refl

whole_read : why (reading first_frame) ≡ None
unfolding computing
whole_read = refl

-- a state under a name that the node itself would give, and did not
own_name_is_bad : map (λ m. (messages_taken (m ∷ [])).counters) (records first_frame) ≡ counts 0 0 0 0 1 0 0 ∷ []
unfolding computing
own_name_is_bad = refl

edits_of_a_packet : weight s (out A u1) ≡ 24
unfolding computing
edits_of_a_packet = refl

edits_of_a_frame : edits_for (deliver_work (final s (out A u1 ∷ flush A ∷ [])) 1) ≡ 24
unfolding computing
edits_of_a_frame = refl
