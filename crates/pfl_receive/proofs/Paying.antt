-- A record is paid by an edit for each four of its bytes, and by four for each state that it takes out.
use Rattle.std.specs.Prelude.{◌≡◌, ◌≤◌, ℕ, ◌+◌, ◌-◌, ◌*◌, ◌&&◌, ◌||◌, Bool, true, false, not, Option, Some, None, is_some, Result, Ok, Err, OnOk, refl}
use Rattle.std.specs.Option.{option_map_or}
use Rattle.std.proofs.Common.{cond, ◌∙◌, ap, lit≤, sym, subst, arith}
use Rattle.pfl_base.specs.declared.state_name.StateName.{StateName}
use Rattle.pfl_base.proofs.ForCallers.{names_total}
use Rattle.pfl_base.specs.Names.{is_name}
use Rattle.pfl_base.specs.Packets.{is_tcp}
use Rattle.pfl_edits.specs.Maps as maps
use Rattle.pfl_edits.proofs.ForCallers.{len-insert, len-remove}
use Rattle.pfl_track.specs.declared.state.State.{State}
use Rattle.pfl_desk.specs.table.Tables.{States, AreStates}
use Rattle.pfl_wire.specs.declared.message.Message.{Message}
use Rattle.pfl_wire.specs.declared.message.Message.TheVariants as message
use Rattle.pfl_wire.specs.declared.message.StateRecord.{StateRecord}
use Rattle.pfl_desk.specs.queue.Queues.{kind_of}
use Rattle.pfl_merge.specs.declared.merged.Merged.{Merged}
use Rattle.pfl_desk.specs.bulk.Bulk.{is_waiting, no_name}
use Rattle.pfl_desk.specs.Changes.{put_state, is_held, is_unannounced, count_freed, lost, count_lost, without_held, released, not_waiting, changed}
use Rattle.pfl_desk.specs.Changes.{count_stale, forgotten, keeps_deletion}
use Rattle.pfl_desk.specs.Drafts.{Draft, Writes}
use Rattle.pfl_desk.specs.Nodes.{Node}
use Rattle.pfl_receive.specs.declared.decision.BadRecord.{BadRecord}
use Rattle.pfl_receive.specs.declared.decision.BadRecord.TheVariants as bad
use Rattle.pfl_receive.specs.declared.decision.Decision.{Decision}
use Rattle.pfl_receive.specs.declared.decision.Decision.TheVariants as decision
use Rattle.pfl_receive.specs.inner.Deciding.{cleared_in, done_edits}
use Rattle.pfl_receive.specs.inner.Delivering.{IsPaid, paid_edits}
use Rattle.pfl_receive.specs.Delivering.{cleared_by}
use Rattle.pfl_receive.specs.Receiving.{acknowledging, answering, decided, has_states, import_fault, imported, importing, is_known, is_partly_announced}
use Rattle.pfl_receive.specs.Receiving.{merged_into, merging, of_state, of_update, taken_over, updating}
use Rattle.pfl_receive.proofs.Cleared.{forgotten-states, known-some}

-- k edits that leave l states more at most
paid-by : (k l : ℕ) (d e : Draft) → maps.len e.node.states ≤ maps.len d.node.states + l → Writes k d e → IsPaid (k + 4 * l) d e
paid-by k l d e more w = let spare = w.spare in omega (arith, more, spare)

-- a payment is enough where a smaller one is
pub paid-more : (k l : ℕ) (d e : Draft) → k ≤ l → IsPaid k d e → IsPaid l d e
paid-more k l d e more paid = omega (arith, more, paid)

-- ---- how many states there are after it

-- at most this many
abbrev Few : ℕ → Node → Type 0
Few k n = maps.len n.states ≤ k

either : (k : ℕ) (b : Bool) (x y : Node) → Few k x → Few k y → Few k (cond b x y)
either k true x y h l = h
either k false x y h l = l

-- one more at most, where a state is put
few-put : (n : Node) (s : State) (k : ℕ) → maps.len n.states ≤ k → Few (k + 1) (put_state n s)
few-put n s k h = by (maps.contains_key n.states s.name) (len-insert names_total n.states s.name s)
  where
    by : (b : Bool) → maps.len (maps.insert n.states s.name s) ≡ cond b (maps.len n.states) (maps.len n.states + 1)
        → maps.len (maps.insert n.states s.name s) ≤ k + 1
    by true e = omega (arith, e)
    by false e = omega (arith, e)

few-lost : (n : Node) (name : StateName) → Few (maps.len n.states) (lost n name)
few-lost n name = either (maps.len n.states) (is_held n name) (count_lost (without_held n name)) n (omega arith) (omega arith)

few-changed : (n : Node) (s : State) (k : ℕ) → maps.len n.states ≤ k → Few (k + 1) (changed n s)
unfolding changed
few-changed n s k h =
    either (k + 1) s.no_sync _ _ (few-put n s k h)
    (either (k + 1) (is_unannounced (kind_of n.queue s.name)) _ _ (few-put n (record s { updates = 0 }) k h)
    (either (k + 1) (is_tcp s.wire.proto) _ _ (few-put n _ k h) (few-put n s k h)))

pub few-taken_over : (n : Node) (s : State) (ack : Bool) → Few (maps.len n.states + 1) (taken_over n s ack)
few-taken_over n s ack = let put = few-put n s (maps.len n.states) (omega arith) in
    either _ ack _ _ (either _ (keeps_deletion n s.name) _ _ put put) put

pub few-merged : (n : Node) (m : Merged) → Few (maps.len n.states + 1) (merged_into (lost n m.state.name) m)
few-merged n m =
    let k = maps.len n.states in
    let l = lost n m.state.name in
    let calm : State = record m.state { ack_wanted = false } in
    either (k + 1) (m.stale_src || m.stale_dst) _ _ (few-changed (count_stale l) calm k (few-lost n m.state.name)) (few-put l calm k (few-lost n m.state.name))

-- a state that waits no more is there already
pub few-released : (n : Node) (name : StateName) → AreStates n.states → Few (maps.len n.states) (released n name)
few-released n name are = by (is_held n name)
  where
    waits : (m : Node) → m.states ≡ n.states → (o : Option State) → maps.get n.states name ≡ o
        → Few (maps.len n.states) (option_map_or (λ s. put_state m (record s { ack_wanted = false })) o m)
    waits m same None at = let long = ap (λ (k : States). maps.len k) same in omega (arith, long)
    waits m same (Some s) at =
        let there : maps.contains_key m.states s.name ≡ true = (λ i. is_some (maps.get (same i) (are.filed name s at i))) ∙ ap is_some at in
        let put = len-insert names_total m.states s.name (record s { ack_wanted = false })
        ∙ (ap (λ b. cond b (maps.len m.states) (maps.len m.states + 1)) there ∙ ap (λ (k : States). maps.len k) same) in
        omega (arith, put)

    by : (b : Bool) → Few (maps.len n.states) (not_waiting (cond b (count_freed (without_held n name)) n) name)
    by true = waits (count_freed (without_held n name)) refl (maps.get n.states name) refl
    by false = waits n refl (maps.get n.states name) refl

-- a state that is forgotten pays for it
pub paid-forgotten : (d e : Draft) (name : StateName) → maps.contains_key d.node.states name ≡ true → e.node ≡ forgotten d.node name
    → Writes 4 d e → IsPaid 0 d e
paid-forgotten d e name known is w =
    let n = d.node in
    let fewer = ap (λ (k : Node). maps.len k.states) is
    ∙ (ap maps.len (forgotten-states n name)
    ∙ (len-remove names_total n.states name ∙ ap (λ b. cond b (maps.len n.states - 1) (maps.len n.states)) known)) in
    let some = known-some n.states name known in
    let spare = w.spare in
    omega (arith, fewer, some, spare)

-- ---- what a record pays

-- what was decided is paid by what its record is paid by, a case each
fault-pays : (n : Node) (b : Bool) (r : StateRecord) (ack : Bool) (k : ℕ) → 7 ≤ k → done_edits (importing n b r ack) ≤ k
fault-pays n b r ack k h = by (import_fault n r)
  where
    by : (o : Option BadRecord) → done_edits (option_map_or decision.Bad o (decision.Import (imported n b r) ack)) ≤ k
    by None = h
    by (Some why) = omega (arith, h)

import-clears : (n : Node) (b : Bool) (r : StateRecord) (ack : Bool) → cleared_in n (importing n b r ack) ≡ 0
import-clears n b r ack = by (import_fault n r)
  where
    by : (o : Option BadRecord) → cleared_in n (option_map_or decision.Bad o (decision.Import (imported n b r) ack)) ≡ 0
    by None = refl
    by (Some why) = refl

pub pays : (n : Node) (b : Bool) (m : Message) → done_edits (decided n b m) ≤ paid_edits m
unfolding decided
pays n b (message.Clear creator bound) = lit≤ tt
pays n b (message.Insert r) = fault-pays n b r r.ack_wanted _ (lit≤ tt)
pays n b (message.InsertAck name) = by (maps.get n.states name)
  where
    waits : (w : Bool) (s : State) → done_edits (cond w (decision.Release s.name) decision.Nothing) ≤ paid_edits (message.InsertAck name)
    waits true s = lit≤ tt
    waits false s = lit≤ tt

    by : (o : Option State) → done_edits (option_map_or acknowledging o decision.Nothing) ≤ paid_edits (message.InsertAck name)
    by None = lit≤ tt
    by (Some s) = waits s.ack_wanted s
pays n b (message.Update r) = by (maps.get n.states r.name)
  where
    by : (o : Option State) → done_edits (option_map_or (merging n (of_state r)) o (updating n b r)) ≤ paid_edits (message.Update r)
    by None = fault-pays n (b && not n.limits.kernel.rule) r false _ (lit≤ tt)
    by (Some s) = lit≤ tt
pays n b (message.UpdateShort u) = by (maps.get n.states u.name)
  where
    by : (o : Option State) → done_edits (option_map_or (merging n (of_update u)) o (decision.Ask u.name)) ≤ paid_edits (message.UpdateShort u)
    by None = lit≤ tt
    by (Some s) = lit≤ tt
pays n b (message.UpdateRequest name) = by (is_name no_name name) (maps.get n.states name)
  where
    answers : (w : Bool) (s : State) → done_edits (cond w (decision.Queue s.name) decision.Nothing) ≤ paid_edits (message.UpdateRequest name)
    answers true s = lit≤ tt
    answers false s = lit≤ tt

    by : (all : Bool) (o : Option State) → done_edits (cond all (decision.Serve (has_states n)) (option_map_or (answering n) o
        (decision.Bad bad.Unknown))) ≤ paid_edits (message.UpdateRequest name)
    by true o = lit≤ tt
    by false None = lit≤ tt
    by false (Some s) = answers (not s.no_sync && is_partly_announced (kind_of n.queue s.name)) s
pays n b (message.Delete r) = by (is_known n r.name)
  where
    by : (w : Bool) → done_edits (cond w (decision.Delete r.name) (decision.Bad bad.Unknown)) ≤ paid_edits (message.Delete r)
    by true = lit≤ tt
    by false = lit≤ tt
pays n b (message.DeleteShort name) = by (is_known n name)
  where
    by : (w : Bool) → done_edits (cond w (decision.Delete name) (decision.Bad bad.Unknown)) ≤ paid_edits (message.DeleteShort name)
    by true = lit≤ tt
    by false = lit≤ tt
pays n b (message.Bulk creator status) = by (is_waiting n.client)
  where
    by : (w : Bool) → done_edits (cond w (decision.Hear status) decision.Nothing) ≤ paid_edits (message.Bulk creator status)
    by true = lit≤ tt
    by false = lit≤ tt

-- and it clears what its record clears
pub clears : (n : Node) (b : Bool) (m : Message) → cleared_in n (decided n b m) ≡ cleared_by n m
unfolding cleared_by decided
clears n b (message.Clear creator bound) = refl
clears n b (message.Insert r) = import-clears n b r r.ack_wanted
clears n b (message.InsertAck name) = by (maps.get n.states name)
  where
    by : (o : Option State) → cleared_in n (option_map_or acknowledging o decision.Nothing) ≡ 0
    by None = refl
    by (Some s) = elim s.ack_wanted as (λ w. cleared_in n (cond w (decision.Release s.name) decision.Nothing) ≡ 0) [ true ↦ refl | false ↦ refl ]
clears n b (message.Update r) = by (maps.get n.states r.name)
  where
    by : (o : Option State) → cleared_in n (option_map_or (merging n (of_state r)) o (updating n b r)) ≡ 0
    by None = import-clears n (b && not n.limits.kernel.rule) r false
    by (Some s) = refl
clears n b (message.UpdateShort u) = by (maps.get n.states u.name)
  where
    by : (o : Option State) → cleared_in n (option_map_or (merging n (of_update u)) o (decision.Ask u.name)) ≡ 0
    by None = refl
    by (Some s) = refl
clears n b (message.UpdateRequest name) = by (is_name no_name name) (maps.get n.states name)
  where
    by : (all : Bool) (o : Option State)
        → cleared_in n (cond all (decision.Serve (has_states n)) (option_map_or (answering n) o (decision.Bad bad.Unknown))) ≡ 0
    by true o = refl
    by false None = refl
    by false (Some s) = elim (not s.no_sync && is_partly_announced (kind_of n.queue s.name)) as
        (λ w. cleared_in n (cond w (decision.Queue s.name) decision.Nothing) ≡ 0) [ true ↦ refl | false ↦ refl ]
clears n b (message.Delete r) =
    elim (is_known n r.name) as (λ w. cleared_in n (cond w (decision.Delete r.name) (decision.Bad bad.Unknown)) ≡ 0) [ true ↦ refl | false ↦ refl ]
clears n b (message.DeleteShort name) =
    elim (is_known n name) as (λ w. cleared_in n (cond w (decision.Delete name) (decision.Bad bad.Unknown)) ≡ 0) [ true ↦ refl | false ↦ refl ]
clears n b (message.Bulk creator status) =
    elim (is_waiting n.client) as (λ w. cleared_in n (cond w (decision.Hear status) decision.Nothing) ≡ 0) [ true ↦ refl | false ↦ refl ]

-- ---- what is made known of a decision

pub paid-as : (k l : ℕ) (x y : Decision) (d e : Draft) (n : Node) → x ≡ y → k + 4 * l ≤ done_edits y → e.node ≡ n
    → maps.len n.states ≤ maps.len d.node.states + l → Writes k d e → IsPaid (done_edits x) d e
paid-as k l x y d e n is pays same more w =
    let price = ap done_edits is in
    paid-more (k + 4 * l) (done_edits x) d e (omega (arith, price, pays))
    (paid-by k l d e (subst (λ (a : Node). maps.len a.states ≤ maps.len d.node.states + l) (sym same) more) w)

-- where it was done to its end
pub paid-on : {T E : Type 0} (o : Result T E) (k l : ℕ) (x y : Decision) (d e : Draft) (n : Node) → x ≡ y → k + 4 * l ≤ done_edits y
    → OnOk o (e.node ≡ n) → maps.len n.states ≤ maps.len d.node.states + l → Writes k d e → OnOk o (IsPaid (done_edits x) d e)
paid-on (Ok t) k l x y d e n is pays same more w = paid-as k l x y d e n is pays same more w
paid-on (Err f) k l x y d e n is pays same more w = tt

-- a payment is enough where a smaller one is, where it was done to its end
pub paid-most : {T E : Type 0} (o : Result T E) (k l : ℕ) (d e : Draft) → k ≤ l → OnOk o (IsPaid k d e) → OnOk o (IsPaid l d e)
paid-most (Ok t) k l d e more paid = paid-more k l d e more paid
paid-most (Err f) k l d e more paid = tt
