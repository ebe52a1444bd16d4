-- What the records of a frame do to a node, one after another, and what a frame does that cannot be read.
use Rattle.std.specs.Prelude.{◌≡◌, ◌≤◌, ◌⊎◌, ◌==◌, ◌-◌, ◌^◌, ℕ, Bool, true, false, ◌&&◌, ◌||◌, nat_le, List, [], ◌∷◌, All, filter, Option, Some, None}
use Rattle.std.specs.Prelude.{is_some, IsOkAnd, Result, Ok, Err, refl}
use Rattle.std.specs.List.{fold}
use Rattle.std.specs.Option.{option_map_or}
use Rattle.std.proofs.Common.{◌∙◌, T, cond, ap, sym, subst, arith, inl, inr}
use Rattle.std.proofs.lemmas.Bool.Decides.{nat_tests}
use Rattle.std.proofs.lemmas.List.Elements.{All-head, All-tail}
use Rattle.pfl_base.specs.Lists.{folds}
use Rattle.pfl_base.specs.declared.kernel.Kernel.{Kernel}
use Rattle.pfl_base.specs.declared.state_name.StateName.{StateName}
use Rattle.pfl_base.proofs.ForCallers.{names_total, names_exact}
use Rattle.pfl_base.specs.Packets.{is_tcp}
use Rattle.pfl_edits.specs.Maps as maps
use Rattle.pfl_edits.proofs.ForCallers.{key_cases}
use Rattle.pfl_language.specs.declared.limits.Limits.{Limits}
use Rattle.pfl_world.specs.track.declared.state.State.{State}
use Rattle.pfl_world.specs.table.Tables.{AreStates}
use Rattle.pfl_world.specs.wire.declared.fault.BadFrame.{BadFrame}
use Rattle.pfl_world.specs.wire.declared.message.Message.{Message}
use Rattle.pfl_world.specs.wire.declared.message.Message.TheVariants as message
use Rattle.pfl_world.specs.wire.Frames.{Frame, records_of}
use Rattle.pfl_world.specs.wire.Reading.{reading}
use Rattle.pfl_world.specs.merge.declared.merged.Merged.{Merged}
use Rattle.pfl_world.specs.queue.Queues.{kind_of}
use Rattle.pfl_world.specs.defer.declared.Held.{Held}
use Rattle.pfl_world.specs.desk.Nodes.{Node, timeout_at}
use Rattle.pfl_world.specs.desk.Changes.{put_state, push_if, count_broken, count_stale, count_freed, count_lost, without_held, keeps_deletion}
use Rattle.pfl_world.specs.desk.Changes.{is_held, is_unannounced, freed, lost, released, changed, forgotten}
use Rattle.pfl_world.specs.receive.declared.decision.Decision.{Decision}
use Rattle.pfl_world.specs.receive.declared.decision.Decision.TheVariants.{Bad, Import, Merge, Ask, Queue, Serve, Release, Delete, Clear, Hear, Nothing}
use Rattle.pfl_world.specs.merge.declared.received.Received.{Received}
use Rattle.pfl_world.specs.receive.Bringing.{name_in, received_in}
use Rattle.pfl_world.specs.receive.Receiving.{clear_bound, clear_taken, cleared_names, decided, does, merged_into, taken}
use Rattle.pfl_world.proofs.ForCallers.node.{taken-apart}
use Rattle.pfl_world.proofs.ForCallers.receive.{RestsOn, deletes, rests}
use Rattle.pfl_world.specs.receive.Delivering.{same_rules}
use Rattle.pfl_laws.specs.Laws.{HasState, IsTied, Holds, LetsOut, OneLetsOut, RecordsLetGoOnlySo}
use Rattle.pfl_world.specs.Delivering.{frame_points}
use Rattle.pfl_laws.proofs.Following.{Filed, inner}
use Rattle.pfl_laws.proofs.Holding.{other-holds, released-held}
use Rattle.pfl_laws.proofs.Reading.{AreRecords, frame-is}
use Rattle.pfl_laws.proofs.Merged.{RisesBy, merged-name}
use Rattle.pfl_laws.proofs.Records.{risen-itself, risen-then, levels-by}
use Rattle.pfl_laws.proofs.Removing.{forgotten-removes, removed-holds}
use Rattle.pfl_laws.proofs.Tied.{tied-same, PutsCalm, merged-puts, lost-held, forgotten-held, without}
use Rattle.pfl_laws.proofs.Waiting.{AreGiven, tied-record}
use Rattle.pfl_laws.proofs.Each.{StandsRightly, taken-rightly, taken-given}

-- ---- what a record leaves: the boot, the next id and the limits

abbrev pub Ids : Type 0
Ids = ℕ × ℕ × Limits

abbrev pub ids : Node → Ids
ids n = (n.creator, n.next_id, n.limits)

ids-either : (i : Ids) (b : Bool) (x y : Node) → ids x ≡ i → ids y ≡ i → ids (cond b x y) ≡ i
ids-either i true x y k l = k
ids-either i false x y k l = l

ids-some : {X : Type 0} (i : Ids) (o : Option X) (f : X → Node) (d : Node) → ((x : X) → ids (f x) ≡ i) → ids d ≡ i → ids (option_map_or f o d) ≡ i
ids-some i None f d k l = l
ids-some i (Some x) f d k l = k x

lost-ids : (n : Node) (name : StateName) → ids (lost n name) ≡ ids n
lost-ids n name = ids-either (ids n) (is_held n name) (count_lost (without_held n name)) n refl refl

released-ids : (n : Node) (name : StateName) → ids (released n name) ≡ ids n
released-ids n name =
    let m = freed n name in
    let same : ids m ≡ ids n = ids-either (ids n) (is_held n name) (count_freed (without_held n name)) n refl refl in
    ids-some (ids n) (maps.get m.states name) (λ s. put_state m (record s { ack_wanted = false })) m (λ s. same) same

forgotten-ids : (n : Node) (name : StateName) → ids (forgotten n name) ≡ ids n
unfolding forgotten
forgotten-ids n name = lost-ids n name

all-ids : (names : List StateName) (n : Node) → ids (fold forgotten n names) ≡ ids n
all-ids [] n = refl
all-ids (name ∷ names) n = all-ids names (forgotten n name) ∙ forgotten-ids n name

changed-ids : (n : Node) (s : State) → ids (changed n s) ≡ ids n
unfolding changed
changed-ids n s =
    ids-either (ids n) s.no_sync _ _ refl
    (ids-either (ids n) (is_unannounced (kind_of n.queue s.name)) _ _ refl
    (ids-either (ids n) (is_tcp s.wire.proto) _ _ refl refl))

merged-ids : (n : Node) (x : Merged) → ids (merged_into n x) ≡ ids n
merged-ids n x =
    let calm : State = record x.state { ack_wanted = false } in
    ids-either (ids n) (x.stale_src || x.stale_dst) (push_if true (changed (count_stale n) calm)) (put_state n calm) (changed-ids (count_stale n) calm) refl

does-ids : (n : Node) (d : Decision) → ids (does n d) ≡ ids n
unfolding does
does-ids n (Bad why) = refl
does-ids n (Import s ack) = ids-either (ids n) ack _ _ (ids-either (ids n) (keeps_deletion n s.name) _ _ refl refl) refl
does-ids n (Merge x) = merged-ids (lost n x.state.name) x ∙ lost-ids n x.state.name
does-ids n (Ask name) = refl
does-ids n (Queue name) = refl
does-ids n (Serve begins) = refl
does-ids n (Release name) = released-ids n name
does-ids n (Delete name) = forgotten-ids n name
does-ids n (Clear creator bound) = all-ids (cleared_names n creator bound) n
does-ids n (Hear status) = refl
does-ids n Nothing = refl

pub taken-ids : (n : Node) (b : Bool) (m : Message) → ids (taken n b m) ≡ ids n
unfolding taken
taken-ids n b m = does-ids n (decided n b m)

-- ---- which held packets a record leaves

-- it stays, or the record let it go
abbrev Stays : Node → Message → Held → Node → Type 0
Stays n m h k = Holds k h ⊎ LetsOut n.limits.kernel m h.name

stays-either : (n : Node) (m : Message) (h : Held) (b : Bool) (x y : Node) → Stays n m h x → Stays n m h y → Stays n m h (cond b x y)
stays-either n m h true x y k l = k
stays-either n m h false x y k l = l

-- a packet of another name stays, and one of this name goes for a reason
out : (n k : Node) (m : Message) (name : StateName) (h : Held) → k.held ≡ without n.held name → LetsOut n.limits.kernel m name → Holds n h → Stays n m h k
out n k m name h held reason holds = elim (key_cases names_total names_exact h.name name) [
  | inl same ↦ inr (subst (LetsOut n.limits.kernel m) (sym same) reason)
  | inr other ↦ inl (other-holds h n k name held other holds)
]

-- a clear takes out states of its creator up to its bound
passes : (name : StateName) (creator bound : ℕ) → ((name.creator == creator) && nat_le name.id bound) ≡ true → (name.creator ≡ creator) × (name.id ≤ bound)
passes name creator bound e = by (name.creator == creator) refl e
  where
    by : (b : Bool) → (name.creator == creator) ≡ b → (b && nat_le name.id bound) ≡ true → (name.creator ≡ creator) × (name.id ≤ bound)
    by true is low = (grind (arith, nat_tests), grind (arith, nat_tests))
    by false is low = absurd (subst T (sym low) tt)

clear-stays : (creator bound : ℕ) (names : List StateName) (n : Node) (h : Held)
    → Holds n h → Holds (fold forgotten n (filter (λ name. (name.creator == creator) && nat_le name.id bound) names)) h
    ⊎ ((h.name.creator ≡ creator) × (h.name.id ≤ bound))
clear-stays creator bound [] n h holds = inl holds
clear-stays creator bound (name ∷ names) n h holds =
    by ((name.creator == creator) && nat_le name.id bound) refl (λ m held. clear-stays creator bound names m h held)
  where
    test : StateName → Bool
    test = λ k. (k.creator == creator) && nat_le k.id bound

    by : (b : Bool) → ((name.creator == creator) && nat_le name.id bound) ≡ b
        → ((m : Node) → Holds m h → Holds (fold forgotten m (filter test names)) h ⊎ ((h.name.creator ≡ creator) × (h.name.id ≤ bound)))
        → Holds (fold forgotten n (cond b (name ∷ filter test names) (filter test names))) h ⊎ ((h.name.creator ≡ creator) × (h.name.id ≤ bound))
    by true e rest = elim (key_cases names_total names_exact h.name name) [
      | inl same ↦ inr (subst (λ (k : StateName). (k.creator ≡ creator) × (k.id ≤ bound)) (sym same) (passes name creator bound e))
      | inr other ↦ rest (forgotten n name) (removed-holds n (forgotten n name) name h (forgotten-removes n name) other holds)
    ]
    by false e rest = rest n holds

-- where clears have bounds, that bound is the record's
within-bound : (n : Node) (h : Held) (creator bound sent : ℕ) → bound ≡ clear_bound n sent
    → Holds (clear_taken n creator bound) h ⊎ ((h.name.creator ≡ creator) × (h.name.id ≤ bound))
    → Stays n (message.Clear creator sent) h (clear_taken n creator bound)
within-bound n h creator bound sent is (inl holds) = inl holds
within-bound n h creator bound sent is (inr low) =
    inr (low.0, λ off. subst (λ (k : ℕ). h.name.id ≤ k) (is ∙ ap (λ (b : Bool). cond b (2 ^ 64 - 1) sent) off) low.1)

-- a record that brings something of a known state lets its packet go, and so does one that deletes it
received-lets : (k : Kernel) (m : Message) (r : Received) → received_in m ≡ Some r → LetsOut k m (name_in m)
received-lets k (message.Clear creator bound) r e = absurd (cc)
received-lets k (message.Insert s) r e = absurd (cc)
received-lets k (message.InsertAck name) r e = absurd (cc)
received-lets k (message.Update s) r e = refl
received-lets k (message.UpdateShort u) r e = refl
received-lets k (message.UpdateRequest name) r e = absurd (cc)
received-lets k (message.Delete s) r e = absurd (cc)
received-lets k (message.DeleteShort name) r e = absurd (cc)
received-lets k (message.Bulk creator status) r e = absurd (cc)

deleted-lets : (k : Kernel) (m : Message) → deletes m ≡ true → LetsOut k m (name_in m)
deleted-lets k (message.Clear creator bound) e = absurd (cc)
deleted-lets k (message.Insert s) e = absurd (cc)
deleted-lets k (message.InsertAck name) e = absurd (cc)
deleted-lets k (message.Update s) e = absurd (cc)
deleted-lets k (message.UpdateShort u) e = absurd (cc)
deleted-lets k (message.UpdateRequest name) e = absurd (cc)
deleted-lets k (message.Delete s) e = refl
deleted-lets k (message.DeleteShort name) e = refl
deleted-lets k (message.Bulk creator status) e = absurd (cc)

-- by the decision
does-stays : (n : Node) (m : Message) (d : Decision) (h : Held) → Filed n.states → RestsOn n m d → Holds n h → Stays n m h (does n d)
unfolding does RestsOn
does-stays n m (Bad why) h filed so holds = inl holds
does-stays n m (Import s ack) h filed so holds = stays-either n m h ack _ _ (stays-either n m h (keeps_deletion n s.name) _ _ (inl holds) (inl holds)) (inl holds)
does-stays n m (Merge x) h filed so holds =
    let puts : PutsCalm n x.state (merged_into (lost n x.state.name) x) = merged-puts n x in
    let own = merged-name n.limits.kernel so.held so.received (timeout_at n so.held.rule so.received.class) n.clock in
    let name : x.state.name ≡ name_in m = ap (λ (y : Merged). y.state.name) so.is ∙ own ∙ filed (name_in m) so.held so.found in
    let lets = subst (LetsOut n.limits.kernel m) (sym name) (received-lets n.limits.kernel m so.received so.brought) in
    out n (merged_into (lost n x.state.name) x) m x.state.name h puts.held lets holds
does-stays n m (Ask name) h filed so holds = inl holds
does-stays n m (Queue name) h filed so holds = inl holds
does-stays n m (Serve begins) h filed so holds = inl holds
does-stays n m (Release name) h filed so holds =
    let own : name_in m ≡ name = sym (filed (name_in m) so.0 so.1.0) ∙ sym so.1.1 in
    let lets = subst (λ (c : Message). LetsOut n.limits.kernel c name) (sym so.1.3) own in
    out n (released n name) m name h (released-held n name) lets holds
does-stays n m (Delete name) h filed so holds =
    out n (forgotten n name) m name h (forgotten-held n name ∙ lost-held n name) (subst (LetsOut n.limits.kernel m) (sym so.1) (deleted-lets n.limits.kernel m so.2)) holds
does-stays n m (Clear creator bound) h filed so holds =
    subst (λ (c : Message). Stays n c h (clear_taken n creator bound)) (sym so.1.0)
    (within-bound n h creator bound so.0 so.1.1 (clear-stays creator bound (maps.keys n.states) n h holds))
does-stays n m (Hear status) h filed so holds = inl holds
does-stays n m Nothing h filed so holds = inl holds

pub record-stays : RecordsLetGoOnlySo
unfolding taken
record-stays n b m are h holds = does-stays n m (decided n b m) h are.filed (rests n b m) holds

-- ---- all records of a frame

module _ (b : Bool) where
  all-apart : (ms : List Message) (n : Node) → AreStates n.states → AreStates (fold (λ k m. taken k b m) n ms).states
  all-apart [] n are = are
  all-apart (m ∷ ms) n are = all-apart ms (taken n b m) (taken-apart n b m are)

  all-ids_stay : (ms : List Message) (n : Node) → ids (fold (λ k m. taken k b m) n ms) ≡ ids n
  all-ids_stay [] n = refl
  all-ids_stay (m ∷ ms) n = all-ids_stay ms (taken n b m) ∙ taken-ids n b m

  all-given : (ms : List Message) (n : Node) → AreStates n.states → AreGiven n → AreGiven (fold (λ k m. taken k b m) n ms)
  all-given [] n are given = given
  all-given (m ∷ ms) n are given =
      let next = taken-apart n b m are in
      let same = taken-ids n b m in
      all-given ms (taken n b m) next (taken-given n b m are.filed next.filed (ap (λ (i : Ids). i.0) same) (ap (λ (i : Ids). i.1) same) given)

  all-tied : (ms : List Message) (n : Node) → AreStates n.states → IsTied n → IsTied (fold (λ k m. taken k b m) n ms)
  all-tied [] n are tied = tied
  all-tied (m ∷ ms) n are tied = all-tied ms (taken n b m) (taken-apart n b m are) (tied-record n b m are tied)

  all-stays : (x : Kernel) (ms : List Message) (n : Node) (h : Held) → n.limits.kernel ≡ x → AreStates n.states → Holds n h
      → Holds (fold (λ k m. taken k b m) n ms) h ⊎ OneLetsOut x ms h.name
  all-stays x [] n h kernel are holds = inl holds
  all-stays x (m ∷ ms) n h kernel are holds =
      let next : (taken n b m).limits.kernel ≡ x = ap (λ (i : Ids). i.2.kernel) (taken-ids n b m) ∙ kernel in
      elim (record-stays n b m are h holds) [
        | inl here ↦ elim (all-stays x ms (taken n b m) h next (taken-apart n b m are) here) [
          | inl there ↦ inl there
          | inr one ↦ inr (inr one)
        ]
        | inr lets ↦ inr (inl (subst (λ (k : Kernel). LetsOut k m h.name) kernel lets))
      ]

  all-rightly : (q : StateName) (ms : List Message) (n : Node) → AreStates n.states → AreRecords ms → StandsRightly q n
      → StandsRightly q (fold (λ k m. taken k b m) n ms)
  all-rightly q [] n are fit each = each
  all-rightly q (m ∷ ms) n are fit each = all-rightly q ms (taken n b m) (taken-apart n b m are) fit.1 (taken-rightly q n b m are.filed fit.0 each)

  -- a state that stands after each of them has risen
  all-rise : (x : Kernel) (q : StateName) (ms : List Message) (n : Node) → n.limits.kernel ≡ x → AreStates n.states
      → All (HasState q) (folds (λ k m. taken k b m) n ms)
      → (s t : State) → maps.get n.states q ≡ Some s → maps.get (fold (λ k m. taken k b m) n ms).states q ≡ Some t → RisesBy x s t
  all-rise x q [] n kernel are stand s t before later = let same : s ≡ t = inner s t (sym before ∙ later)
      in subst (RisesBy x s) same (risen-itself x s)
  all-rise x q (m ∷ ms) n kernel are stand s t before later =
      let k = taken n b m in
      let points = folds (λ k m. taken k b m) k ms in
      let next : k.limits.kernel ≡ x = ap (λ (i : Ids). i.2.kernel) (taken-ids n b m) ∙ kernel in
      by (maps.get k.states q) refl (All-head (HasState q) k points stand)
      (λ u e. all-rise x q ms k next (taken-apart n b m are) (All-tail (HasState q) k points stand) u t e later)
    where
      by : (o : Option State) → maps.get (taken n b m).states q ≡ o → is_some o ≡ true
          → ((u : State) → maps.get (taken n b m).states q ≡ Some u → RisesBy x u t) → RisesBy x s t
      by None e some rest = absurd (subst T (sym some) tt)
      by (Some u) e some rest = risen-then x s u t (levels-by n x b m kernel are q s u before e) (rest u e)

-- ---- a frame

-- the node after what was read
abbrev pub received : Node → Result Frame BadFrame → Node
received n (Ok f) = fold (λ m r. taken m (same_rules n f) r) n (records_of f)
received n (Err why) = count_broken n

pub received-apart : (n : Node) (r : Result Frame BadFrame) → AreStates n.states → AreStates (received n r).states
received-apart n (Ok f) are = all-apart (same_rules n f) (records_of f) n are
received-apart n (Err why) are = are

pub received-ids : (n : Node) (r : Result Frame BadFrame) → ids (received n r) ≡ ids n
received-ids n (Ok f) = all-ids_stay (same_rules n f) (records_of f) n
received-ids n (Err why) = refl

pub received-given : (n : Node) (r : Result Frame BadFrame) → AreStates n.states → AreGiven n → AreGiven (received n r)
received-given n (Ok f) are given = all-given (same_rules n f) (records_of f) n are given
received-given n (Err why) are given = given

pub received-tied : (n : Node) (r : Result Frame BadFrame) → AreStates n.states → IsTied n → IsTied (received n r)
received-tied n (Ok f) are tied = all-tied (same_rules n f) (records_of f) n are tied
received-tied n (Err why) are tied = tied-same n (count_broken n) tied refl refl

pub received-stays : (n : Node) (r : Result Frame BadFrame) (h : Held) → AreStates n.states → Holds n h → Holds (received n r) h
    ⊎ IsOkAnd r (λ f. OneLetsOut n.limits.kernel (records_of f) h.name)
received-stays n (Ok f) h are holds = all-stays (same_rules n f) n.limits.kernel (records_of f) n h refl are holds
received-stays n (Err why) h are holds = inl holds

pub received-rightly : (q : StateName) (n : Node) (bytes : List ℕ) (r : Result Frame BadFrame) → reading bytes ≡ r → AreStates n.states
    → StandsRightly q n → StandsRightly q (received n r)
received-rightly q n bytes (Ok f) e are each = all-rightly (same_rules n f) q (records_of f) n are (frame-is bytes f e) each
received-rightly q n bytes (Err why) e are each = each

-- a state that stands at each point of the frame has risen
pub received-rises : (x : Kernel) (q : StateName) (n : Node) (r : Result Frame BadFrame) → n.limits.kernel ≡ x → AreStates n.states
    → All (HasState q) (frame_points n r)
    → (s t : State) → maps.get n.states q ≡ Some s → maps.get (received n r).states q ≡ Some t → RisesBy x s t
received-rises x q n (Ok f) kernel are stand s t before later = all-rise (same_rules n f) x q (records_of f) n kernel are stand s t before later
received-rises x q n (Err why) kernel are stand s t before later =
    let same : s ≡ t = inner s t (sym before ∙ later) in subst (RisesBy x s) same (risen-itself x s)
