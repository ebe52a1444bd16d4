-- A turn of a bulk update: its names are marked one after another.
use Rattle.std.specs.Prelude.{◌≡◌, ◌≤◌, ◌<◌, ℕ, zero, suc, ◌+◌, length, filter, take, not, ◌&&◌, nat_le, nat_lt, Bool, true, false, List, [], ◌∷◌}
use Rattle.std.specs.Prelude.{Some, if◌then◌else◌, refl}
use Rattle.std.specs.List.{AllByRecursion}
use Rattle.std.specs.Ordering.{is_lt}
use Rattle.std.proofs.Common.{cond, get_or, drop, ◌∙◌, ap, sym, subst, arith}
use Rattle.std.proofs.lemmas.Bool.Decides.{nat_tests}
use Rattle.std.proofs.lemmas.List.{length-append, length-map, take-append-drop, take_all}
use Rattle.std.proofs.lemmas.List.Sums.{fold_more, fold-append}
use Rattle.pfl_base.specs.declared.state_name.StateName.{StateName}
use Rattle.pfl_base.specs.Names.{name_cmp}
use Rattle.pfl_base.proofs.ForCallers.{names_total, each-filter, each-get_or, each-take}
use Rattle.pfl_bulk.specs.Bulk.{names_after, first_names, turn_names, is_last_turn, after_turn}
use Rattle.pfl_bulk.proofs.ForCallers.{turn_names-first, is_last_turn-first, after_turn-first}
use Rattle.pfl_bulk.specs.declared.BulkServer.{BulkServer}
use Rattle.pfl_bulk.specs.declared.BulkServer.TheVariants as server
use Rattle.pfl_edits.specs.Maps as maps
use Rattle.pfl_edits.proofs.ForCallers.{len-insert, len-entries}
use Rattle.pfl_edits.specs.Ordered.{IsRising}
use Rattle.pfl_receive.specs.queue.declared.Kind.{Kind}
use Rattle.pfl_receive.specs.queue.declared.Kind.TheVariants.{Update}
use Rattle.pfl_receive.specs.queue.Queues.{Queue, pending, marked}
use Rattle.pfl_track.specs.declared.state.State.{State}
use Rattle.pfl_wire.specs.declared.message.BulkStatus.{BulkStatus}
use Rattle.pfl_wire.specs.declared.message.BulkStatus.TheVariants.{End as Finish}
use Rattle.pfl_language.specs.declared.limits.Limits.{Limits}
use Rattle.pfl_receive.specs.desk.Changes.{mark, announce_status}
use Rattle.pfl_receive.specs.desk.Drafts.{Draft, Writes}
use Rattle.pfl_receive.specs.desk.inner.Kept.{MayMark}
use Rattle.pfl_receive.specs.desk.Nodes.{Node, AreParts, ServesSince, is_overfull}
use Rattle.pfl_receive.proofs.ForCallers.desk.{told-may, writes-none, writes-then, writes-more}
use Rattle.pfl_node.specs.Turning.{is_eligible, eligible_names, queued, turn_of, ended, turned}
use Rattle.pfl_node.proofs.Expired.{values-stand}
use Rattle.pfl_node.proofs.Risen.{names, values-rising, rising-names, rising-filter, rising-take}

-- ---- a mark more is no entry less

more_or_same : (b : Bool) (a n : ℕ) → n ≡ cond b a (a + 1) → a ≤ n
more_or_same true a n e = omega arith
more_or_same false a n e = omega arith

marked-more : (q : Queue) (name : StateName) (kind : Kind) → pending q ≤ pending (marked q name kind)
marked-more q name kind =
    let more = more_or_same (maps.contains_key q.marks name) (maps.len q.marks) _
    (len-insert names_total q.marks name (record { name = name; kind = kind; number = q.next })) in
    omega (arith, more)

still_over : (l p q : ℕ) → p ≤ q → nat_lt l p ≡ true → nat_lt l q ≡ true
still_over l p q le e = grind (arith, nat_tests)

over-mark : (n : Node) (name : StateName) (kind : Kind) → is_overfull n ≡ true → is_overfull (mark n name kind) ≡ true
over-mark n name kind e = still_over n.queue.limit (pending n.queue) (pending (marked n.queue name kind)) (marked-more n.queue name kind) e

over-queued : (ns : List StateName) (n : Node) → is_overfull n ≡ true → is_overfull (queued n ns) ≡ true
over-queued [] n e = e
over-queued (name ∷ ns) n e = over-queued ns (mark n name Update) (over-mark n name Update e)

over-status : (n : Node) (status : BulkStatus) → is_overfull n ≡ true → is_overfull (announce_status n status) ≡ true
over-status n status e =
    let long = length-append n.queue.statuses (status ∷ []) in
    still_over n.queue.limit (pending n.queue) (pending (announce_status n status).queue) (omega (arith, long)) e

-- ---- which names may be marked

queued-may : (ns : List StateName) (n : Node) (name : StateName) → MayMark n name Update → MayMark (queued n ns) name Update
queued-may [] n name may = may
queued-may (other ∷ ns) n name may = queued-may ns (mark n other Update) name (record { given = may.given; rightly = may.rightly })

synced : (a b c : Bool) → (a && not b && c) ≡ true → b ≡ false
synced true true c e = absurd (cc)
synced true false c e = refl
synced false b c e = absurd (cc)

eligible-may : (n : Node) (since : ℕ) → AreParts n → (ss : List State) → AllByRecursion (λ s. maps.get n.states s.name ≡ Some s) ss
    → AllByRecursion (λ name. MayMark n name Update) (names (filter (is_eligible n since) ss))
eligible-may n since is [] a = tt
eligible-may n since is (s ∷ ss) a =
    elim (is_eligible n since s) as (λ b. is_eligible n since s ≡ b
    → AllByRecursion (λ name. MayMark n name Update) (names (cond b (s ∷ filter (is_eligible n since) ss) (filter (is_eligible n since) ss)))) [
      | true ↦ λ e. (told-may n s.name Update s a.0 (synced _ s.no_sync _ e) (is.each s.name s a.0).given (λ same. absurd (cc)), eligible-may n since is ss a.1)
      | false ↦ λ e. eligible-may n since is ss a.1
    ] refl

-- each name of a turn may be marked
pub turn-may : (n : Node) → AreParts n → AllByRecursion (λ name. MayMark n name Update) (turn_of n)
unfolding turn_of
turn-may n is = by n.server
  where
    by : (s : BulkServer) → AllByRecursion (λ name. MayMark n name Update) (turn_names s (eligible_names n s) n.limits.batch)
    by server.Idle = tt
    by (server.Serving cursor since) =
        each-take _ n.limits.batch _
        (each-filter _ (λ name. is_lt (name_cmp cursor name)) _ (eligible-may n since is (maps.values n.states) (values-stand n.states is.states)))

-- ---- how many they are

few_kept : {X : Type 0} (p : X → Bool) (xs : List X) → length (filter p xs) ≤ length xs
few_kept p [] = omega arith
few_kept p (x ∷ xs) =
    let rest = few_kept p xs in
    elim (p x) as (λ b. length (cond b (x ∷ filter p xs) (filter p xs)) ≤ length (x ∷ xs)) [
      | true ↦ omega (arith, rest)
      | false ↦ omega (arith, rest)
    ]

few_taken : {X : Type 0} (k : ℕ) (xs : List X) → length (take k xs) ≤ length xs
few_taken zero xs = omega arith
few_taken (suc k) [] = omega arith
few_taken (suc k) (x ∷ xs) = let rest = few_taken k xs in omega (arith, rest)

-- no more than there are states
pub turn-few : (n : Node) → length (turn_of n) ≤ maps.len n.states
unfolding turn_of
turn-few n = by n.server
  where
    by : (s : BulkServer) → length (turn_names s (eligible_names n s) n.limits.batch) ≤ maps.len n.states
    by server.Idle = omega arith
    by (server.Serving cursor since) =
        let all = names (filter (is_eligible n since) (maps.values n.states)) in
        let sent = few_taken n.limits.batch (names_after cursor all) in
        let behind = few_kept (λ name. is_lt (name_cmp cursor name)) all in
        let named = length-map (filter (is_eligible n since) (maps.values n.states)) (λ (s : State). s.name) in
        let kept = few_kept (is_eligible n since) (maps.values n.states) in
        let valued = length-map (maps.entries n.states) (λ (e : StateName × State). e.1) in
        let entries = len-entries n.states in
        omega (arith, sent, behind, named, kept, valued, entries)

-- ---- marked one after another

-- e is what d was made to by marking the first i of the names
pub record IsQueued (d e : Draft) (ns : List StateName) (i : ℕ) : Type 0 where
  pub within : i ≤ length ns
  pub node : e.node ≡ queued d.node (take i ns)
  pub writes : Writes i d e

pub queued-first : (d : Draft) (ns : List StateName) → IsQueued d d ns 0
queued-first d ns = record { within = omega arith; node = refl; writes = writes-none 0 d }

module _ (d e : Draft) (ns : List StateName) (i : ℕ) (so : IsQueued d e ns i) where
  pub queued-room : length ns ≤ d.edits.spare → i < length ns → 0 < e.edits.spare
  queued-room room below = let spare = so.writes.spare in omega (arith, spare)

  pub queued-next : (x : StateName) → AllByRecursion (λ name. MayMark d.node name Update) ns → i < length ns → MayMark e.node (get_or ns i x) Update
  queued-next x may below = subst (λ (k : Node). MayMark k (get_or ns i x) Update) (sym so.node)
      (queued-may (take i ns) d.node (get_or ns i x) (each-get_or (λ name. MayMark d.node name Update) ns i x may below))

  one-more : (x : StateName) → i < length ns → mark e.node (get_or ns i x) Update ≡ queued d.node (take (i + 1) ns)
  one-more x below = ap (λ (k : Node). mark k (get_or ns i x) Update) so.node
      ∙ sym (fold_more (λ (k : Node) (name : StateName). mark k name Update) d.node ns i x below)

  pub queued-more : (f : Draft) (x : StateName) → i < length ns → f.node ≡ mark e.node (get_or ns i x) Update → Writes 1 e f → IsQueued d f ns (i + 1)
  queued-more f x below is more = record { within = omega arith; node = is ∙ one-more x below; writes = writes-then i 1 d e f so.writes more }

  -- too much is pending after the next one
  pub queued-full : (x : StateName) → i < length ns → is_overfull (mark e.node (get_or ns i x) Update) ≡ true → is_overfull (queued d.node ns) ≡ true
  queued-full x below full =
      let whole = ap (queued d.node) (take-append-drop (i + 1) ns) in
      let parted = fold-append (λ (k : Node) (name : StateName). mark k name Update) d.node (take (i + 1) ns) (drop (i + 1) ns) in
      ap is_overfull (sym whole ∙ parted) ∙ over-queued (drop (i + 1) ns) (queued d.node (take (i + 1) ns)) (ap is_overfull (sym (one-more x below)) ∙ full)

  -- and what was recorded till then
  pub queued-stops : (f : Draft) → i < length ns → Writes 1 e f → Writes (length ns) d f
  queued-stops f below more = writes-more (i + 1) (length ns) d f (omega arith) (writes-then i 1 d e f so.writes more)

  pub queued-last : length ns ≤ i → (e.node ≡ queued d.node ns) × Writes (length ns) d e
  queued-last all =
      let within = so.within in
      (so.node ∙ ap (queued d.node) (take_all i ns all), writes-more i (length ns) d e within so.writes)

-- ---- the turn over the first names is one over all

abbrev pub all_eligible : Node → List StateName
all_eligible n = eligible_names n n.server

-- the first names after the cursor of a server at work
pub first-names : (n : Node) (cursor : StateName) (since most : ℕ) → n.server ≡ server.Serving cursor since
    → take most (names_after cursor (names (filter (is_eligible n since) (maps.values n.states)))) ≡ first_names n.server (all_eligible n) most
first-names n cursor since most serves = ap (λ (s : BulkServer). first_names s (eligible_names n s) most) (sym serves)

-- names, server and end of the node's turn
pub record IsTurn (n : Node) (ns : List StateName) (next : BulkServer) (last : Bool) : Type 0 where
  pub names : ns ≡ turn_of n
  pub server_after : next ≡ after_turn n.server (all_eligible n) n.limits.batch
  pub ends : last ≡ is_last_turn n.server (all_eligible n) n.limits.batch

module _ (n : Node) (few : List StateName) (first : few ≡ first_names n.server (all_eligible n) (n.limits.batch + 1)) where
  -- they rise
  pub first-rising : AreParts n → IsRising name_cmp (λ (name : StateName). name) few
  first-rising is = subst (IsRising name_cmp (λ (name : StateName). name)) (sym first) (by n.server)
    where
      by : (s : BulkServer) → IsRising name_cmp (λ (name : StateName). name) (first_names s (eligible_names n s) (n.limits.batch + 1))
      by server.Idle = tt
      by (server.Serving cursor since) =
          rising-take (n.limits.batch + 1) _
          (rising-filter (λ name. is_lt (name_cmp cursor name)) _
          (rising-names (is_eligible n since) (maps.values n.states) (values-rising n.states is.states)))

  pub turn-is : (ns : List StateName) (next : BulkServer) (last : Bool) → ns ≡ turn_names n.server few n.limits.batch
      → next ≡ after_turn n.server few n.limits.batch → last ≡ is_last_turn n.server few n.limits.batch → IsTurn n ns next last
  unfolding turn_of
  turn-is ns next last names names_after last_of_few = record {
    names = names ∙ (ap (λ (ms : List StateName). turn_names n.server ms n.limits.batch) first
        ∙ turn_names-first n.server (all_eligible n) (n.limits.batch + 1) n.limits.batch (omega arith));
    server_after = names_after
        ∙ (ap (λ (ms : List StateName). after_turn n.server ms n.limits.batch) first
        ∙ after_turn-first n.server (all_eligible n) (n.limits.batch + 1) n.limits.batch (omega arith));
    ends = last_of_few ∙ (ap (λ (ms : List StateName). is_last_turn n.server ms n.limits.batch) first
        ∙ is_last_turn-first n.server (all_eligible n) (n.limits.batch + 1) n.limits.batch (omega arith));
  }

-- the same, as the code has its server and its limits
pub turn-by : (n : Node) (few : List StateName) (s : BulkServer) (l : Limits) → few ≡ first_names n.server (all_eligible n) (l.batch + 1)
    → s ≡ n.server → l ≡ n.limits
    → (ns : List StateName) (next : BulkServer) (last : Bool) → ns ≡ turn_names s few l.batch → next ≡ after_turn s few l.batch
    → last ≡ is_last_turn s few l.batch → IsTurn n ns next last
turn-by n few s l first serves limits ns next last names names_after ends =
    turn-is n few (first ∙ ap (λ (k : Limits). first_names n.server (all_eligible n) (k.batch + 1)) limits) ns next last
    (names ∙ (λ i. turn_names (serves i) few (limits i).batch))
    (names_after ∙ (λ i. after_turn (serves i) few (limits i).batch))
    (ends ∙ (λ i. is_last_turn (serves i) few (limits i).batch))

-- ---- the node after it

over-ended : (last : Bool) (n : Node) → is_overfull n ≡ true → is_overfull (ended last n) ≡ true
over-ended true n e = over-status n Finish e
over-ended false n e = e

queued-clock : (ns : List StateName) (n : Node) → (queued n ns).clock ≡ n.clock
queued-clock [] n = refl
queued-clock (name ∷ ns) n = queued-clock ns (mark n name Update)

serves_by : (n k : Node) (s : BulkServer) → k.clock ≡ n.clock → ServesSince n s → ServesSince k s
serves_by n k server.Idle same past = tt
serves_by n k (server.Serving cursor since) same past = subst (λ (t : ℕ). since ≤ t) (sym same) past

serves-after : (n : Node) (s : BulkServer) (ns : List StateName) (batch : ℕ) → ServesSince n s → ServesSince n (after_turn s ns batch)
serves-after n server.Idle ns batch past = tt
serves-after n (server.Serving cursor since) ns batch past = by (nat_le (length (names_after cursor ns)) batch) _
  where
    by : (b : Bool) (c : StateName) → ServesSince n (if b then server.Idle else server.Serving c since)
    by true c = tt
    by false c = past

module _ (n : Node) (ns : List StateName) (next : BulkServer) (last : Bool) (turn : IsTurn n ns next last) where
  -- too much is pending after the names
  pub turned-full : is_overfull (queued n ns) ≡ true → is_overfull (turned n) ≡ true
  unfolding turned
  turned-full e =
      over-ended (is_last_turn n.server (all_eligible n) n.limits.batch) (queued n (turn_of n))
      (ap (λ (ms : List StateName). is_overfull (queued n ms)) (sym turn.names) ∙ e)

  -- or with the end that is announced
  pub ended-full : (m : Node) → m ≡ queued n ns → is_overfull (ended last m) ≡ true → is_overfull (turned n) ≡ true
  unfolding turned
  ended-full m marked e = (λ i. is_overfull (ended (sym turn.ends i) (sym (marked ∙ ap (queued n) turn.names) i))) ∙ e

  pub turned-is : (m k : Node) → m ≡ queued n ns → k ≡ ended last m → record k { server = next } ≡ turned n
  unfolding turned
  turned-is m k marked is =
      ap (λ (h : Node). record h { server = next }) is
      ∙ (λ i. record (ended (turn.ends i) ((marked ∙ ap (queued n) turn.names) i)) { server = turn.server_after i })

  -- the server began before the clock
  pub turned-past : AreParts n → (m k : Node) → m ≡ queued n ns → k ≡ ended last m → ServesSince k next
  turned-past is m k marked done =
      serves_by n k next (ap (λ (h : Node). h.clock) done ∙ (by last m ∙ (ap (λ (h : Node). h.clock) marked ∙ queued-clock ns n)))
      (subst (ServesSince n) (sym turn.server_after) (serves-after n n.server (all_eligible n) n.limits.batch is.serving))
    where
      by : (b : Bool) (h : Node) → (ended b h).clock ≡ h.clock
      by true h = refl
      by false h = refl
