-- Where memory is wanted, what is asked is not refused.
use Rattle.std.specs.Prelude.{◌≡◌, ℕ, ◌+◌, ◌-◌, Bool, true, false, not, nat_lt, nat_le, ◌==◌, List, [], ◌∷◌, ◌++◌, length, take, drop, filter}
use Rattle.std.specs.Prelude.{if◌then◌else◌, Option, Some, None, is_some, is_none, IsTrue, Result, Ok, Err, refl}
use Rattle.std.specs.List.{AllByRecursion}
use Rattle.std.specs.Option.{option_map_or, option_or}
use Rattle.std.proofs.Common.{sym, ◌∙◌, ap, subst}
use Rattle.std.proofs.lemmas.List.{take-append-drop}
use Rattle.pfl_timeline.proofs.Prefixes.{run-front}
use Rattle.pfl_timeline.proofs.Shows.{the_world}
use Rattle.pfl_base.specs.declared.node_id.NodeId.{NodeId}
use Rattle.pfl_base.specs.declared.refusal.Refusal.{Refusal}
use Rattle.pfl_base.specs.declared.refusal.Refusal.TheVariants.{NoSuchFrame, NothingPending, NoSuchState, LinkFull, QueueFull, ClockFull, CountFull}
use Rattle.pfl_base.specs.declared.refusal.Refusal.TheVariants.{NotSyncing, TooEarly, NoMemory}
use Rattle.pfl_base.specs.Numbers.{greatest}
use Rattle.pfl_edits.specs.Maps as maps
use Rattle.pfl_language.specs.declared.node_event.NodeEvent.{NodeEvent}
use Rattle.pfl_language.specs.declared.node_event.NodeEvent.TheVariants as own
use Rattle.pfl_language.specs.declared.event.Event.{Event}
use Rattle.pfl_language.specs.declared.event.Event.TheVariants as event
use Rattle.pfl_language.specs.declared.event.FrameEvent.TheVariants as frame
use Rattle.pfl_language.specs.declared.ask.Ask.{Ask}
use Rattle.pfl_language.specs.declared.ask.Ask.TheVariants as ask
use Rattle.pfl_language.specs.declared.command.Command.{Command}
use Rattle.pfl_language.specs.declared.command.Command.TheVariants as command
use Rattle.pfl_language.specs.declared.refused.Refused.TheVariants as refused
use Rattle.pfl_language.specs.BranchWords.{is_branch_name, same_name}
use Rattle.pfl_search.specs.world.link.Links.{InFlight, is_full, is_counted_out}
use Rattle.pfl_search.specs.world.queue.Queues.{pending}
use Rattle.pfl_search.specs.world.node.Purging.{purge_points}
use Rattle.pfl_search.specs.world.desk.Nodes.{Node, refused_by, unless_refused, points_refusal, full_tests, is_overfull, is_overcounted, last_millisecond}
use Rattle.pfl_search.specs.world.desk.Changes.{count_broken}
use Rattle.pfl_search.specs.world.receive.Delivering.{receive_points}
use Rattle.pfl_search.specs.world.wire.declared.fault.BadFrame.{BadFrame}
use Rattle.pfl_search.specs.world.wire.Frames.{Frame}
use Rattle.pfl_search.specs.world.wire.Reading.{reading}
use Rattle.pfl_search.specs.world.node.Stepping.{NodeStepped, node_refusal, node_after}
use Rattle.pfl_search.specs.world.node.Killing.{killed}
use Rattle.pfl_search.specs.world.node.Packets.{packet_points}
use Rattle.pfl_search.specs.world.node.Clearing.{cleared}
use Rattle.pfl_search.specs.world.node.Releasing.{due_names, released_due}
use Rattle.pfl_search.specs.world.node.Retrying.{retried_client}
use Rattle.pfl_search.specs.world.node.Turning.{turned}
use Rattle.pfl_search.specs.world.bulk.Bulk.{is_serving, is_waiting, is_due}
use Rattle.pfl_search.specs.world.Events.{step, IsRefusalOf, IsEventRefusal}
use Rattle.pfl_search.specs.world.Runs.{run}
use Rattle.pfl_search.specs.world.Meanings.{Stepped}
use Rattle.pfl_search.specs.world.AtNodes.{from_node}
use Rattle.pfl_search.specs.world.Tickets.{with_ticket, without_ticket, lose_step, repeat_step, cut_step}
use Rattle.pfl_search.specs.world.Delivering.{read_taken, deliver_step}
use Rattle.pfl_search.specs.world.Flushing.{flush_step}
use Rattle.pfl_search.specs.world.Restarting.{restart_step}
use Rattle.pfl_search.specs.world.Worlds.{World, node_at}
use Rattle.pfl_reasons.specs.Frames.{Trace, traced}
use Rattle.pfl_timeline.specs.Answers.{Answer, says, undone, step_answer, shown_at, event_at, explanation, answer}
use Rattle.pfl_timeline.specs.Commands.{replied, reply_unless, in_place, first_events, fork_reply, drop_reply, command_step}
use Rattle.pfl_timeline.specs.Excisions.{has_event}
use Rattle.pfl_timeline.specs.Laws.{NoReplyReportsWantOfMemory}
use Rattle.pfl_timeline.specs.Memory.{is_refusal, makes_something, MayWantMemory}
use Rattle.pfl_timeline.specs.Replies.{Reply, Replied, Forked, Removed, Traced, Refused as Refusing}
use Rattle.pfl_timeline.specs.Rooted.{Rooted, shown}
use Rattle.pfl_timeline.specs.Timelines.{IsBranch, Branch, Timeline, branch_of, standing}
use Rattle.pfl_timeline.proofs.Answering.{unless, within, stepped, brought, named, step-is, past-is}

-- ---- no event is refused for want of memory

-- no test refuses for want of memory
abbrev AreOther : List (Bool × Refusal) → Type 0
AreOther tests = AllByRecursion (λ t. t.1 ≡ NoMemory → ⊥) tests

-- so neither does the first that refuses
first_is_other : (tests : List (Bool × Refusal)) → AreOther tests → refused_by tests ≡ Some NoMemory → ⊥
first_is_other [] others is = cc
first_is_other ((true, r) ∷ tests) others is = let same : r ≡ NoMemory = cc in others.0 same
first_is_other ((false, r) ∷ tests) others is = first_is_other tests others.1 is

answered_is_other : (o : Option Refusal) (s : Stepped) → (o ≡ Some NoMemory → ⊥) → unless_refused o s ≡ Err NoMemory → ⊥
answered_is_other None s other is = cc
answered_is_other (Some r) s other is = let same : r ≡ NoMemory = cc in other (ap Some same)

tests_are_other : (tests : List (Bool × Refusal)) → AreOther tests → (s : Stepped) → unless_refused (refused_by tests) s ≡ Err NoMemory → ⊥
tests_are_other tests others s is = answered_is_other (refused_by tests) s (first_is_other tests others) is

points_are_other : (points : List Node) (s : Stepped) → unless_refused (points_refusal points) s ≡ Err NoMemory → ⊥
points_are_other points s is = tests_are_other (full_tests points) ((λ e. cc), ((λ e. cc), tt)) s is

frame_is_other : (w : World) (ticket : ℕ) (done : InFlight → Result Stepped Refusal) → ((f : InFlight) → done f ≡ Err NoMemory → ⊥)
    → with_ticket w ticket done ≡ Err NoMemory → ⊥
frame_is_other w ticket done other =
    elim (maps.get w.link.frames ticket) as (λ o. option_map_or done o (Err NoSuchFrame) ≡ Err NoMemory → ⊥) [
      | None ↦ λ is. cc
      | Some f ↦ other f
    ]

clock_is_other : (b : Bool) → (if b then Some ClockFull else None) ≡ Some NoMemory → ⊥
clock_is_other true is = cc
clock_is_other false is = cc

retry_is_other : (idle early full : Bool)
    → option_or (if idle then Some NotSyncing else if early then Some TooEarly else None) (refused_by ((full, QueueFull) ∷ [])) ≡ Some NoMemory → ⊥
retry_is_other true early full is = cc
retry_is_other false true full is = cc
retry_is_other false false true is = cc
retry_is_other false false false is = cc

-- what a node refuses by itself
node_is_other : (n : Node) (e : NodeEvent) → node_refusal n e ≡ Some NoMemory → ⊥
node_is_other n (own.Packet dir p) is = first_is_other (full_tests (packet_points n dir p)) ((λ e. cc), ((λ e. cc), tt)) is
node_is_other n (own.Tick ms) is = clock_is_other (nat_lt last_millisecond (n.clock + ms)) is
node_is_other n own.Purge is = first_is_other (full_tests (purge_points n)) ((λ e. cc), ((λ e. cc), tt)) is
node_is_other n own.Release is =
    first_is_other ((length n.held.list == 0, NothingPending) ∷ (length (due_names n) == 0, TooEarly) ∷ (is_overcounted (released_due n), CountFull) ∷ [])
    ((λ e. cc), ((λ e. cc), ((λ e. cc), tt))) is
node_is_other n (own.Kill name) is =
    first_is_other ((is_none (maps.get n.states name), NoSuchState) ∷ full_tests (killed n name ∷ [])) ((λ e. cc), ((λ e. cc), ((λ e. cc), tt))) is
node_is_other n own.Clear is = first_is_other (full_tests (cleared n ∷ [])) ((λ e. cc), ((λ e. cc), tt)) is
node_is_other n own.BulkTurn is =
    first_is_other ((not (is_serving n.server), NotSyncing) ∷ full_tests (turned n ∷ [])) ((λ e. cc), ((λ e. cc), ((λ e. cc), tt))) is
node_is_other n own.BulkRetry is =
    retry_is_other (not (is_waiting n.client)) (not (is_due n.client n.limits.bulk_ms n.clock)) (is_overfull (retried_client n)) is

own_is_other : (w : World) (id : NodeId) (o : Option Refusal) (s : NodeStepped) → (o ≡ Some NoMemory → ⊥)
    → from_node w id (unless_refused o s) ≡ Err NoMemory → ⊥
own_is_other w id None s other is = cc
own_is_other w id (Some r) s other is = let same : r ≡ NoMemory = cc in other (ap Some same)

-- what was read of a frame
read_is_other : (w : World) (to : NodeId) (n : Node) (read : Result Frame BadFrame) → read_taken w to n read ≡ Err NoMemory → ⊥
read_is_other w to n (Ok f) is = points_are_other (receive_points n f) _ is
read_is_other w to n (Err why) is = points_are_other (count_broken n ∷ []) _ is

pub step_is_other : (w : World) (e : Event) → step w e ≡ Err NoMemory → ⊥
unfolding step flush_step deliver_step lose_step repeat_step cut_step restart_step
step_is_other w (event.At node e) is =
    own_is_other w node (node_refusal (node_at w node) e) (node_after (node_at w node) e) (node_is_other (node_at w node) e) is
step_is_other w (event.Flush node) is =
    tests_are_other ((pending (node_at w node).queue == 0, NothingPending) ∷ (is_full w.link, LinkFull) ∷ (is_counted_out w.link, CountFull) ∷ [])
    ((λ e. cc), ((λ e. cc), ((λ e. cc), tt))) _ is
step_is_other w (event.Of ticket frame.Deliver) is =
    frame_is_other w ticket _ (λ f at. read_is_other (without_ticket w ticket) f.to (node_at w f.to) (reading f.bytes) at) is
step_is_other w (event.Of ticket frame.Lose) is = frame_is_other w ticket _ (λ f at. cc) is
step_is_other w (event.Of ticket frame.Repeat) is =
    frame_is_other w ticket _
    (λ f at. tests_are_other ((is_full w.link, LinkFull) ∷ (is_counted_out w.link, CountFull) ∷ []) ((λ e. cc), ((λ e. cc), tt)) _ at) is
step_is_other w (event.Of ticket (frame.Cut len)) is = frame_is_other w ticket _ (λ f at. cc) is
step_is_other w (event.Restart node) is = tests_are_other ((nat_le greatest w.next_boot, CountFull) ∷ []) ((λ e. cc), tt) _ is

-- ---- a branch

-- an event that wanted memory is one that the step accepts
answered_accepts : (b : Branch) (e : Event) (at : Result Stepped Refusal) → IsRefusalOf at NoMemory → (at ≡ Err NoMemory → ⊥)
    → is_refusal (step_answer b e at).reply ≡ false
answered_accepts b e (Ok s) is other = refl
answered_accepts b e (Err first) is other = absurd (other (ap Err (sym is)))

pub step_accepts : (r : Rooted) (e : Event) (w : World) (why : Refusal) → shown r ≡ Some w → IsEventRefusal w e why → why ≡ NoMemory
    → is_refusal (answer r.opening r.branch (ask.Step e)).reply ≡ false
step_accepts r e w why here is wants =
    ap (λ (a : Answer). is_refusal a.reply) (step-is r.opening r.branch w here e)
    ∙ answered_accepts r.branch e (step w e) (subst (IsRefusalOf (step w e)) wants is) (step_is_other w e)

-- the world that the first k events of a branch give
pub world_before : (opening : World) (b : Branch) (k : ℕ) → IsBranch opening b → (w : World) × (run opening (take k b.events) ≡ Some w)
world_before opening b k is =
    the_world _ (run-front opening (take k b.events) (drop k b.events)
    (subst (λ (es : List Event). IsTrue (is_some (run opening es))) (sym (take-append-drop k b.events)) is.runs))

-- what is seen of a place that is there is no refusal
pub past_accepts : (r : Rooted) (k : ℕ) → nat_lt (length r.branch.events) k ≡ false → IsBranch r.opening r.branch
    → is_refusal (answer r.opening r.branch (ask.Past k)).reply ≡ false
past_accepts r k near is =
    let w = world_before r.opening r.branch k is in
    ap (λ (a : Answer). is_refusal a.reply) (past-is r.opening r.branch k w.0 near w.1)

-- the names are a list, and nothing refuses them
pub names-wants : (t : Timeline) (c : Command) → c ≡ command.Names → MayWantMemory t c
unfolding command_step
names-wants t c is = record { makes = ap makes_something is; not_refused = ap (λ (d : Command). is_refusal (command_step t d).reply) is }

-- ---- no reply reports want of memory

abbrev wanted : Reply
wanted = Refusing (refused.Event NoMemory)

-- the answer does not report it
abbrev IsOther : Answer → Type 0
IsOther a = a.reply ≡ wanted → ⊥

explained_tells : (before : Option World) (name : List ℕ) (k : ℕ) (o : Option Event)
    → option_map_or (λ e. option_map_or (λ w. explanation name k w e) before (Refusing refused.NoBranch)) o (Refusing refused.NoEvent) ≡ wanted → ⊥
explained_tells before name k None is = cc
explained_tells None name k (Some e) is = cc
explained_tells (Some w) name k (Some e) is = cc

traced_tells : (name : List ℕ) (ticket : ℕ) (o : Option Trace) → option_map_or (Traced name ticket) o (Refusing refused.NoFrame) ≡ wanted → ⊥
traced_tells name ticket None is = cc
traced_tells name ticket (Some trace) is = cc

answer_tells : (opening : World) (b : Branch) (q : Ask) → IsOther (answer opening b q)
unfolding answer
answer_tells opening b (ask.Step e) =
    within IsOther (run opening (standing b)) (λ w. step_answer b e (step w e)) (λ is. cc)
    (λ w _. stepped IsOther b e (step w e) (λ s _ is. cc) (λ why here is. step_is_other w e (here ∙ ap Err (let same : why ≡ NoMemory = cc in same))))
answer_tells opening b (ask.Back n) = unless IsOther (nat_lt b.cursor n) refused.TooFarBack _ (λ is. cc) (λ _ is. cc)
answer_tells opening b (ask.Forward n) = unless IsOther (nat_lt (undone b) n) refused.NothingForward _ (λ is. cc) (λ _ is. cc)
answer_tells opening b ask.Show = within IsOther (run opening (standing b)) (λ w. says (shown_at b b.cursor w)) (λ is. cc) (λ w _ is. cc)
answer_tells opening b (ask.Past k) =
    unless IsOther (nat_lt (length b.events) k) refused.NothingForward _ (λ is. cc)
    (λ _. within IsOther (run opening (take k b.events)) (λ w. says (shown_at b k w)) (λ is. cc) (λ w _ is. cc))
answer_tells opening b (ask.Why k) = explained_tells (run opening (take (k - 1) b.events)) b.name k (event_at k b)
answer_tells opening b (ask.WhyStep e) =
    within IsOther (run opening (standing b)) (λ w. says (explanation b.name (b.cursor + 1) w e)) (λ is. cc) (λ w _ is. cc)
answer_tells opening b (ask.Frame ticket) = traced_tells b.name ticket (traced opening b.events ticket)
answer_tells opening b (ask.Excise k) = unless IsOther (not (has_event k b)) refused.NoEvent _ (λ is. cc) (λ _ is. cc)
answer_tells opening b ask.Restore = brought IsOther b (λ is. cc) (λ f _ is. cc)
answer_tells opening b ask.Log = λ is. cc

-- why a fork is refused
fork_refused : (taken bad far full : Bool) (done : Replied) (t : Timeline) → (done.reply ≡ wanted → ⊥)
    → (reply_unless t (refused_by ((taken, refused.NameTaken) ∷ (bad, refused.BadName) ∷ (far, refused.NothingForward)
    ∷ (full, refused.BranchesFull) ∷ [])) done).reply ≡ wanted → ⊥
fork_refused true bad far full done t other is = cc
fork_refused false true far full done t other is = cc
fork_refused false false true full done t other is = cc
fork_refused false false false true done t other is = cc
fork_refused false false false false done t other is = other is

fork_tells : (t : Timeline) (k : ℕ) (name : List ℕ) (b : Branch) → (fork_reply t k name b).reply ≡ wanted → ⊥
fork_tells t k name b is =
    fork_refused (is_some (branch_of t name)) (not (is_branch_name name)) (nat_lt (length b.events) k) (nat_le 16 (length t.branches))
    (replied (record t { branches = t.branches ++ first_events k name b ∷ [] }) Forked) t (λ forked. cc) is

drop_tells : (t : Timeline) (b : Branch) → (drop_reply t b).reply ≡ wanted → ⊥
drop_tells t b =
    elim (nat_le (length t.branches) 1) as
    (λ last. (reply_unless t (refused_by ((last, refused.LastBranch) ∷ []))
    (replied (record t { branches = filter (λ c. not (same_name c.name b.name)) t.branches }) Removed)).reply ≡ wanted → ⊥) [
      | true ↦ λ is. cc
      | false ↦ λ is. cc
    ]

pub no_reply-tells : NoReplyReportsWantOfMemory
unfolding command_step
no_reply-tells t (command.On name q) =
    named (λ r. r.reply ≡ wanted → ⊥) t name (λ b. in_place t (answer t.opening b q)) (λ is. cc) (λ b _. answer_tells t.opening b q)
no_reply-tells t (command.Fork from k name) = named (λ r. r.reply ≡ wanted → ⊥) t from (fork_reply t k name) (λ is. cc) (λ b _. fork_tells t k name b)
no_reply-tells t (command.Drop name) = named (λ r. r.reply ≡ wanted → ⊥) t name (drop_reply t) (λ is. cc) (λ b _. drop_tells t b)
no_reply-tells t command.Names = λ is. cc
