-- A frame goes out: what is taken out of the queue, and that it leads back.
use Rattle.std.proofs.Common.{◌≡◌, ◌≢◌, Bool, true, false, ℕ, ◌+◌, ◌^◌, ◌<◌, ◌≤◌, List, [], ◌∷◌, ◌++◌, length, take, get_or, Option, Some, None, refl}
use Rattle.std.proofs.Common.{sym, ◌∙◌, ap, subst, arith, length-append}
use Rattle.std.specs.Prelude.{◌==◌, IsSome, Result, Ok, Err, IfOk, IfErr, OnOk, if◌then◌else◌}
use Rattle.std.specs.List.{AllByRecursion, fold}
use Rattle.std.specs.Option.{option_map_or}
use Rattle.std.proofs.lemmas.Bool.Decides.{nat_tests}
use Rattle.std.proofs.lemmas.List.{take_all}
use Rattle.std.proofs.lemmas.List.Sums.{fold_more}
use Rattle.pfl_base.specs.declared.refusal.Refusal.TheVariants.{NothingPending, NoMemory}
use Rattle.pfl_base.specs.declared.refusal.Refusal.{Refusal}
use Rattle.pfl_base.proofs.ForCallers.{each-weaker}
use Rattle.pfl_edits.specs.Maps as maps
use Rattle.pfl_track.specs.declared.state.State.{State}
use Rattle.pfl_receive.specs.queue.declared.Entry.{Entry}
use Rattle.pfl_receive.specs.queue.declared.Entry.TheVariants.{Marked, Request, Status, Clear}
use Rattle.pfl_receive.specs.queue.declared.Kind.{Kind}
use Rattle.pfl_receive.specs.queue.declared.Kind.TheVariants.{Insert, InsertAck, Update, UpdateShort, Delete}
use Rattle.pfl_receive.specs.queue.inner.Fitting.{entry_bytes}
use Rattle.pfl_receive.specs.queue.Queues.{pending}
use Rattle.pfl_receive.specs.queue.Taking.{in_turn, gone, left_by, next_frame}
use Rattle.pfl_receive.proofs.ForCallers.queue.{frame_carries, pending-in_turn, Stands, frame_stands, frame_begins, frame_fits}
use Rattle.pfl_receive.specs.desk.Drafts.{Draft, Writes}
use Rattle.pfl_receive.specs.desk.Nodes.{Node, AreParts, IsRefusal, is_overcounted}
use Rattle.pfl_receive.specs.desk.Changes.{put_state}
use Rattle.pfl_node.specs.Flushing.{frame_of, flushed, update_count_cleared, send_refusal}
use Rattle.pfl_node.specs.inner.Carried.{Does}
use Rattle.pfl_node.specs.inner.Sending.{IsTold, frame_with}
use Rattle.pfl_receive.specs.desk.inner.Taking.{taken_from}
use Rattle.pfl_receive.proofs.ForCallers.desk.{frame_entries, left-next, writes-none, writes-then, writes-more}

-- ---- what its entries carry is there

has-state : (o : Option State) (kind : Kind) → kind ≢ Delete → (o ≡ None → kind ≡ Delete) → IsSome o
has-state None kind other gone = absurd (other (gone refl))
has-state (Some s) kind other gone = refl

marked-told : (n : Node) → AreParts n → (e : Entry) → Stands n.queue e → IsTold n e
marked-told n is (Marked Insert number name) at = has-state (maps.get n.states name) Insert (λ e. absurd (cc)) (is.marks name _ at).1.0
marked-told n is (Marked InsertAck number name) at = has-state (maps.get n.states name) InsertAck (λ e. absurd (cc)) (is.marks name _ at).1.0
marked-told n is (Marked Update number name) at = has-state (maps.get n.states name) Update (λ e. absurd (cc)) (is.marks name _ at).1.0
marked-told n is (Marked UpdateShort number name) at = has-state (maps.get n.states name) UpdateShort (λ e. absurd (cc)) (is.marks name _ at).1.0
marked-told n is (Marked Delete number name) at = tt
marked-told n is (Request name) at = tt
marked-told n is (Status status) at = tt
marked-told n is (Clear creator bound) at = tt

pub frame-told : (n : Node) (mtu : ℕ) → AreParts n → AllByRecursion (IsTold n) (next_frame n.queue mtu)
frame-told n mtu is = each-weaker (Stands n.queue) (IsTold n) (marked-told n is) (next_frame n.queue mtu) (frame_stands n.queue mtu is.queue)

-- ---- and there is a frame for them

-- the limits of the node keep a frame short
pub frame-short : (n : Node) → AreParts n → entry_bytes (next_frame n.queue n.limits.mtu) < 2 ^ 16
frame-short n is =
    let range = is.limits.1.1.1.0 in
    let low = range.0 in
    let high = range.1 in
    let fits = frame_fits n.queue n.limits.mtu (omega arith) in
    omega (arith, fits, high)

-- and within the mtu
pub sent-fits : (n : Node) (es : List Entry) → AreParts n → es ≡ frame_entries n → entry_bytes es ≤ n.limits.mtu
sent-fits n es is same =
    let low = is.limits.1.1.1.0.0 in
    subst (λ (xs : List Entry). entry_bytes xs ≤ n.limits.mtu) (sym same) (frame_fits n.queue n.limits.mtu (omega (arith, low)))

-- ---- the frame, and the node after it

pub frame-is : (n m : Node) (es : List Entry) → m ≡ taken_from n → es ≡ frame_entries n → frame_with m es ≡ frame_of n
unfolding frame_of
frame-is n m es left same = ap (λ (k : Node). frame_with k es) left ∙ ap (frame_with n) same

pub flushed-is : (n m k : Node) (es : List Entry) → m ≡ taken_from n → es ≡ frame_entries n
    → k ≡ fold update_count_cleared (record m { push = false }) es → k ≡ flushed n
unfolding flushed
flushed-is n m k es left same is =
    is ∙ (ap (λ (h : Node). fold update_count_cleared (record h { push = false }) es) left
    ∙ ap (fold update_count_cleared (record (taken_from n) { push = false })) same)

-- what its entries carry is there in the node without them
pub sent-told : (n m : Node) (es : List Entry) → AreParts n → m ≡ taken_from n → es ≡ frame_entries n → AllByRecursion (IsTold m) es
sent-told n m es is left same =
    subst (λ (k : Node). AllByRecursion (IsTold k) es) (sym left) (subst (AllByRecursion (IsTold n)) (sym same) (frame-told n n.limits.mtu is))

pub sent-short : (n : Node) (es : List Entry) → AreParts n → es ≡ frame_entries n → entry_bytes es < 2 ^ 16
sent-short n es is same = subst (λ (xs : List Entry). entry_bytes xs < 2 ^ 16) (sym same) (frame-short n is)

-- ---- the counts of updates are cleared one after another

-- e is what d was made to by the first i of the entries
pub record IsCleared (d e : Draft) (es : List Entry) (i : ℕ) : Type 0 where
  pub within : i ≤ length es
  pub node : e.node ≡ fold update_count_cleared d.node (take i es)
  pub writes : Writes i d e

pub cleared-first : (d : Draft) (es : List Entry) → IsCleared d d es 0
cleared-first d es = record { within = omega arith; node = refl; writes = writes-none 0 d }

module _ (d e : Draft) (es : List Entry) (i : ℕ) (so : IsCleared d e es i) where
  pub cleared-room : length es ≤ d.edits.spare → i < length es → 0 < e.edits.spare
  cleared-room room below = let spare = so.writes.spare in omega (arith, spare)

  pub cleared-more : (f : Draft) (x : Entry) → i < length es → f.node ≡ update_count_cleared e.node (get_or es i x) → Writes 1 e f → IsCleared d f es (i + 1)
  cleared-more f x below is more = record {
    within = omega arith;
    node = is ∙ (ap (λ (h : Node). update_count_cleared h (get_or es i x)) so.node ∙ sym (fold_more update_count_cleared d.node es i x below));
    writes = writes-then i 1 d e f so.writes more;
  }

  -- after the last of them
  pub cleared-all : length es ≤ i → (e.node ≡ fold update_count_cleared d.node es) × Writes (length es) d e
  cleared-all end = (so.node ∙ ap (fold update_count_cleared d.node) (take_all i es end), writes-more i (length es) d e so.within so.writes)

-- ---- an event that sends it has room for its edits

begins-few : (es rest all : List Entry) → es ++ rest ≡ all → length es ≤ length all
begins-few es rest all is = let long = ap (λ (xs : List Entry). length xs) is in omega (arith, long, length-append es rest)

pub frame-few : (n : Node) → AreParts n → length (frame_entries n) ≤ n.limits.queue
frame-few n is =
    let begins = frame_begins n.queue n.limits.mtu in
    let few = begins-few (frame_entries n) begins.rest (in_turn n.queue) begins.is in
    let all = pending-in_turn n.queue in
    let pending = is.queue.few in
    let limit = is.queue_limit in
    omega (arith, few, all, pending, limit)

-- ---- what is not refused carries something

not_refused : (nothing : Bool) → (if nothing then Some NothingPending else None) ≡ None → nothing ≡ false
not_refused true e = cc
not_refused false e = refl

not_none : (k : ℕ) → (k == 0) ≡ false → 0 < k
not_none k e = grind (arith, nat_tests)

pub sent-carries : (n : Node) → AreParts n → send_refusal n ≡ None → 0 < length (frame_entries n)
sent-carries n is free =
    let range = is.limits.1.1.1.0 in
    let low = range.0 in
    frame_carries n.queue n.limits.mtu low (not_none (pending n.queue) (not_refused (pending n.queue == 0) free))

-- ---- what it counts

-- a node without its states
abbrev bare : Node → Node
bare n = record n { states = maps.empty }

bare-cleared : (n : Node) (e : Entry) → bare (update_count_cleared n e) ≡ bare n
bare-cleared n (Marked kind number name) = by (maps.get n.states name)
  where
    by : (o : Option State) → bare (option_map_or (λ s. put_state n (record s { updates = 0 })) o n) ≡ bare n
    by None = refl
    by (Some s) = refl
bare-cleared n (Request name) = refl
bare-cleared n (Status status) = refl
bare-cleared n (Clear creator bound) = refl

bare-all : (n : Node) (es : List Entry) → bare (fold update_count_cleared n es) ≡ bare n
bare-all n [] = refl
bare-all n (e ∷ es) = bare-all (update_count_cleared n e) es ∙ bare-cleared n e

-- a frame counts nothing
flushed-counted : (n m : Node) → m ≡ flushed n → is_overcounted n ≡ false → is_overcounted m ≡ false
unfolding flushed
flushed-counted n m same low =
    let q = left_by n.queue (frame_entries n) in
    ap is_overcounted same
    ∙ (ap is_overcounted (bare-all (record n { queue = q; push = false }) (frame_entries n))
    ∙ (ap (λ (k : ℕ). is_overcounted (record n { queue = record q { next = k } })) (left-next (frame_entries n) n.queue) ∙ low))

-- ---- how a flush ends

-- only want of memory refuses a frame that has something to carry
pub sent-does : {T : Type 0} (a b : Draft) (sent : Result T Refusal) (k : ℕ) (IsAnswer : T → Type 0) → is_overcounted a.node ≡ false
    → send_refusal a.node ≡ None → IfErr sent (λ e. e ≡ NoMemory) → OnOk sent (b.node ≡ flushed a.node) → IfOk sent IsAnswer → Writes k a b
    → Does k (send_refusal a.node) (flushed a.node) IsAnswer sent a b
sent-does a b (Ok t) k IsAnswer low free memory node answer writes = record {
  refused = tt;
  not_refused = free;
  node = node;
  answer = answer;
  counted = flushed-counted a.node b.node node low;
  writes = writes;
}
sent-does a b (Err e) k IsAnswer low free memory node answer writes = record {
  refused = subst (λ (o : Option Refusal). IsRefusal o e) (sym free) memory;
  not_refused = tt;
  node = tt;
  answer = tt;
  counted = tt;
  writes = writes;
}

pub where_ok : {P T : Type 0} (result : Result T Refusal) → P → OnOk result P
where_ok (Ok r) p = p
where_ok (Err e) p = tt
