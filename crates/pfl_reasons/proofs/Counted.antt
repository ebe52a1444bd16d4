-- Each record counts as its fate says: what is shown of a decision is so of what that does.
use Rattle.std.specs.Prelude.{◌≡◌, ◌≤◌, ◌+◌, ◌++◌, ℕ, Bool, true, false, not, ◌&&◌, ◌||◌, ◌==◌, List, [], ◌∷◌, Option}
use Rattle.std.specs.Prelude.{Some, None, IfSome, is_some, nat_le, refl}
use Rattle.std.specs.List.{fold, list_any}
use Rattle.std.specs.Option.{option_map, option_map_or, option_or}
use Rattle.std.proofs.Common.{cond, ◌∙◌, ap, arith, inl, inr, subst, sym}
use Rattle.std.proofs.lemmas.Bool.{leb-true, ltb-false, ltb-true}
use Rattle.std.proofs.lemmas.Bool.Decides.{nat_tests}
use Rattle.std.proofs.lemmas.List.Folds.{list_any-append}
use Rattle.std.proofs.Math.Bool.{or-true}
use Rattle.pfl_base.specs.declared.state_name.StateName.{StateName}
use Rattle.pfl_base.specs.Keys.{is_key}
use Rattle.pfl_base.specs.Names.{is_name}
use Rattle.pfl_base.specs.Packets.{is_tcp}
use Rattle.pfl_base.proofs.ForCallers.{is_name-itself, names_exact, names_total}
use Rattle.pfl_bulk.specs.Bulk.{is_waiting, no_name}
use Rattle.pfl_edits.proofs.ForCallers.{get-set_at_same}
use Rattle.pfl_edits.specs.Maps as maps
use Rattle.pfl_track.specs.declared.state.State.{State}
use Rattle.pfl_wire.specs.declared.message.StateRecord.{StateRecord}
use Rattle.pfl_wire.specs.declared.message.BulkStatus.TheVariants.{Start, End as Finish}
use Rattle.pfl_wire.specs.declared.message.Message.{Message}
use Rattle.pfl_wire.specs.declared.message.Message.TheVariants as message
use Rattle.pfl_merge.specs.declared.merged.Merged.{Merged}
use Rattle.pfl_queue.specs.declared.Kind.{Kind}
use Rattle.pfl_queue.specs.declared.Kind.TheVariants.{Delete, Update}
use Rattle.pfl_queue.specs.declared.Mark.{Mark}
use Rattle.pfl_queue.specs.Queues.{Queue, is_requested, kind_of, marked, requested}
use Rattle.pfl_world.proofs.ForCallers.receive.{RestsOn, may-import, rests}
use Rattle.pfl_world.specs.desk.Changes.{changed, count_freed, count_lost, count_stale, forgotten, freed, is_held, is_unannounced, lost, not_waiting, is_delete}
use Rattle.pfl_world.specs.desk.Changes.{keeps_deletion, push_if, put_state, released, without_held}
use Rattle.pfl_world.specs.desk.declared.counters.Counters.{Counters}
use Rattle.pfl_world.specs.desk.Nodes.{Node}
use Rattle.pfl_world.specs.receive.Bringing.{name_in, received_in, whole_in}
use Rattle.pfl_world.specs.receive.declared.decision.BadRecord.{BadRecord}
use Rattle.pfl_world.specs.receive.declared.decision.BadRecord.TheVariants as bad
use Rattle.pfl_world.specs.receive.declared.decision.Decision.{Decision}
use Rattle.pfl_world.specs.receive.declared.decision.Decision.TheVariants as decision
use Rattle.pfl_world.specs.receive.Receiving.{acknowledging, answering, cleared_names, decided, does, import_fault, imported, importing, is_deleting}
use Rattle.pfl_world.specs.receive.Receiving.{is_known, is_not_given, is_partly_announced, merged_into, merging, of_state, of_update, taken, taken_over}
use Rattle.pfl_world.specs.table.Tables.{by_stack, by_wire}
use Rattle.pfl_reasons.specs.Laws.{RecordsAreCountedSo}
use Rattle.pfl_reasons.specs.Records.{CountedAsMany, CountedSo, IsBadFor, IsFateOf, IsLastUsed, IsMergedSo, WaitsNoMore, keys_in, shown_of}
use Rattle.pfl_reasons.proofs.Emptying.{fewer-by}
use Rattle.pfl_reasons.proofs.Stated.{acknowledged, either, ends_in, merged-so, owner, put-used, some_and}

further : (n m k : Node) → CountedAsMany n m → CountedAsMany m k → CountedAsMany n k
further n m k f g = (g.0 ∙ f.0, g.1 ∙ f.1)

-- ---- small changes

lost-still : (n : Node) (name : StateName) → CountedAsMany n (lost n name)
lost-still n name = either (CountedAsMany n) (is_held n name) (count_lost (without_held n name)) n (refl, refl) (refl, refl)

forgotten-still : (n : Node) (name : StateName) → CountedAsMany n (forgotten n name)
unfolding forgotten
forgotten-still n name = lost-still n name

all-still : (names : List StateName) (n m : Node) → CountedAsMany n m → CountedAsMany n (fold forgotten m names)
all-still [] n m k = k
all-still (name ∷ names) n m k = all-still names n (forgotten m name) (further n m (forgotten m name) k (forgotten-still m name))

freed-still : (n : Node) (name : StateName) → CountedAsMany n (freed n name)
freed-still n name = either (CountedAsMany n) (is_held n name) (count_freed (without_held n name)) n (refl, refl) (refl, refl)

not_waiting-still : (n : Node) (name : StateName) → CountedAsMany n (not_waiting n name)
not_waiting-still n name = by (maps.get n.states name)
  where
    by : (o : Option State) → CountedAsMany n (option_map_or (λ (s : State). put_state n (record s { ack_wanted = false })) o n)
    by None = (refl, refl)
    by (Some s) = (refl, refl)

released-still : (n : Node) (name : StateName) → CountedAsMany n (released n name)
released-still n name = further n (freed n name) (released n name) (freed-still n name) (not_waiting-still (freed n name) name)

-- one of two nodes that have counted the same
one_of : (b : Bool) (x y : Node) (k : Counters) → x.counters ≡ k → y.counters ≡ k → (cond b x y).counters ≡ k
one_of true x y k e f = e
one_of false x y k e f = f

changed-counts : (n : Node) (s : State) → (changed n s).counters ≡ n.counters
unfolding changed
changed-counts n s =
    one_of s.no_sync _ _ n.counters refl
    (one_of (is_unannounced (kind_of n.queue s.name)) _ _ n.counters refl (one_of (is_tcp s.wire.proto) _ _ n.counters refl refl))

-- what a merge makes of a node that has counted as many
into-counted : (n m : Node) (x : Merged) → CountedAsMany n m → ((merged_into m x).counters.bad ≡ n.counters.bad)
    × ((merged_into m x).counters.stale ≡ n.counters.stale + cond (x.stale_src || x.stale_dst) 1 0)
into-counted n m x still = by (x.stale_src || x.stale_dst)
  where
    told_of : State
    told_of = record x.state { ack_wanted = false }

    by : (b : Bool) → ((cond b (push_if true (changed (count_stale m) told_of)) (put_state m told_of)).counters.bad ≡ n.counters.bad)
        × ((cond b (push_if true (changed (count_stale m) told_of)) (put_state m told_of)).counters.stale ≡ n.counters.stale + cond b 1 0)
    by true =
        let same = changed-counts (count_stale m) told_of in
        (ap (λ (c : Counters). c.bad) same ∙ still.0, ap (λ (c : Counters). c.stale) same ∙ ap (λ (k : ℕ). k + 1) still.1)
    by false = let stale = still.1 in (still.0, omega arith)

-- what is asked for is on the list of requests
asked : (q : Queue) (name : StateName) → is_requested (requested q name) name ≡ true
asked q name = by (is_requested q name) refl
  where
    by : (b : Bool) → is_requested q name ≡ b → is_requested (cond b q (record q { requests = q.requests ++ name ∷ [] })) name ≡ true
    by true is = is
    by false is =
        list_any-append (is_name name) q.requests (name ∷ [])
        ∙ (ap (λ (b : Bool). list_any (is_name name) q.requests || (b || false)) (is_name-itself name name refl) ∙ or-true (list_any (is_name name) q.requests))

-- what is marked is on its queue
marked-kind : (q : Queue) (name : StateName) → kind_of (marked q name Update) name ≡ Some Update
marked-kind q name = ap (option_map (λ (m : Mark). m.kind))
    (get-set_at_same names_total names_exact q.marks name (Some (record { name = name; kind = Update; number = q.next })))

-- what is forgotten is gone
gone : (n : Node) (name : StateName) → maps.get (forgotten n name).states name ≡ None
unfolding forgotten
gone n name = get-set_at_same names_total names_exact (lost n name).states name None

-- ---- why a record is bad

deletes : (n : Node) (name : StateName) → is_deleting n name ≡ true → (n.limits.kernel.revive ≡ false) × (kind_of n.queue name ≡ Some Delete)
deletes n name is = by n.limits.kernel.revive (kind_of n.queue name) is
  where
    by : (revive : Bool) (o : Option Kind) → (not revive && is_delete o) ≡ true → (revive ≡ false) × (o ≡ Some Delete)
    by false (Some Delete) is = (refl, refl)
    by false other is = absurd (cc)
    by true o is = absurd (cc)

not-given : (n : Node) (name : StateName) → is_not_given n name ≡ true → (name.creator ≡ n.creator) × (n.next_id ≤ name.id)
not-given n name is = (grind (arith, nat_tests), grind (arith, nat_tests))

none-known : (o : Option State) → is_some o ≡ false → o ≡ None
none-known None e = refl
none-known (Some s) e = absurd (cc)

module _ (n : Node) (r : StateRecord) where
  -- if there is a reason, it is so
  abbrev IsSo : Option BadRecord → Type 0
  IsSo o = IfSome o (IsBadFor n r.name (Some r.keys))

  tested : (b : Bool) (why : BadRecord) (rest : Option BadRecord) → (b ≡ true → IsSo (Some why)) → IsSo rest → IsSo (cond b (Some why) rest)
  tested true why rest so other = so refl
  tested false why rest so other = other

  owned : (why : StateName → BadRecord) (o : Option State) (rest : Option BadRecord) → ((s : State) → o ≡ Some s → IsSo (Some (why s.name))) → IsSo rest
      → IsSo (option_or (option_map (λ (s : State). why s.name) o) rest)
  owned why None rest so other = other
  owned why (Some s) rest so other = so s refl

  fault-so : IsSo (import_fault n r)
  fault-so =
      tested (is_known n r.name) bad.Known _ (λ is. is)
      (tested (is_not_given n r.name) bad.NotGiven _ (not-given n r.name)
      (tested (is_deleting n r.name) bad.Deleting _ (deletes n r.name)
      (owned bad.WireInUse (by_wire n.states r.keys.wire) _ (owner n (λ (s : State). is_key s.wire r.keys.wire))
      (owned bad.StackInUse (by_stack n.states r.keys.stack) _ (owner n (λ (s : State). is_key s.stack r.keys.stack))
      (tested (nat_le n.limits.states (maps.len n.states)) bad.Full None (leb-true n.limits.states (maps.len n.states)) tt)))))

-- ---- by the kind of the record

-- if a record is bad, it is for this reason
abbrev WhyBad : Node → Message → Decision → Type 0
WhyBad n m (decision.Bad why) = IsBadFor n (name_in m) (keys_in m) why
WhyBad n m other = Unit {0}

module _ (n : Node) (m : Message) where
  -- what is shown of a decision is of the record's kind
  abbrev Suits : Decision → Type 0
  Suits d = IsFateOf m (shown_of n d) × WhyBad n m d

  cases : (c : Bool) (x y : Decision) → Suits x → (c ≡ false → Suits y) → Suits (cond c x y)
  cases true x y holds fails = holds
  cases false x y holds fails = fails refl

  found : (f : State → Decision) (o : Option State) (x : Decision) → ((s : State) → Suits (f s)) → (o ≡ None → Suits x) → Suits (option_map_or f o x)
  found f None x some none = none refl
  found f (Some s) x some none = some s

  import-suits : (b : Bool) (r : StateRecord) (ack : Bool) → ((why : BadRecord) → IsBadFor n r.name (Some r.keys) why → Suits (decision.Bad why))
      → ((s : State) → Suits (decision.Import s ack)) → Suits (importing n b r ack)
  import-suits b r ack faulty good = by (import_fault n r) (fault-so n r)
    where
      by : (o : Option BadRecord) → IsSo n r o → Suits (option_map_or decision.Bad o (decision.Import (imported n b r) ack))
      by None so = good (imported n b r)
      by (Some why) so = faulty why so

suits : (n : Node) (b : Bool) (m : Message) → Suits n m (decided n b m)
unfolding decided
suits n b (message.Clear creator bound) = (tt, tt)
suits n b (message.Insert r) = import-suits n (message.Insert r) b r r.ack_wanted (λ why so. (tt, so)) (λ s. (tt, tt))
suits n b (message.InsertAck name) =
    let m = message.InsertAck name in
    found n m acknowledging (maps.get n.states name) _ (λ s. cases n m s.ack_wanted _ _ (tt, tt) (λ is. (tt, tt))) (λ none. (tt, tt))
suits n b (message.Update r) =
    let m = message.Update r in
    found n m (merging n (of_state r)) (maps.get n.states r.name) _ (λ s. (tt, tt))
    (λ none. import-suits n m (b && not n.limits.kernel.rule) r false (λ why so. (tt, so)) (λ s. (tt, tt)))
suits n b (message.UpdateShort u) =
    found n (message.UpdateShort u) (merging n (of_update u)) (maps.get n.states u.name) _ (λ s. (tt, tt)) (λ none. (tt, tt))
suits n b (message.UpdateRequest name) =
    let m = message.UpdateRequest name in
    cases n m (is_name no_name name) _ _ (tt, tt) (λ one.
    found n m (answering n) (maps.get n.states name) _
    (λ s. cases n m (not s.no_sync && is_partly_announced (kind_of n.queue s.name)) _ _ (tt, tt) (λ is. (tt, tt)))
    (λ none. (tt, none)))
suits n b (message.Delete r) =
    cases n (message.Delete r) (is_known n r.name) _ _ (tt, tt) (λ is. (tt, none-known (maps.get n.states r.name) is))
suits n b (message.DeleteShort name) =
    cases n (message.DeleteShort name) (is_known n name) _ _ (tt, tt) (λ is. (tt, none-known (maps.get n.states name) is))
suits n b (message.Bulk creator status) =
    cases n (message.Bulk creator status) (is_waiting n.client) _ _ (tt, tt) (λ is. (tt, tt))

-- ---- by the decision

-- the state that a record brings whole is the one that it is about
whole-named : (m : Message) (r : StateRecord) → whole_in m ≡ Some r → r.name ≡ name_in m
whole-named (message.Insert s) r brings = cc
whole-named (message.Update s) r brings = cc
whole-named other r brings = absurd (cc)

module _ (n : Node) (m : Message) where
  says-so : (d : Decision) → RestsOn n m d → WhyBad n m d
      → CountedSo n (does n d) (name_in m) (keys_in m) (received_in m) (shown_of n d)
  unfolding does RestsOn
  says-so (decision.Bad why) on so = (refl, so)
  says-so (decision.Import s ack) on so =
      let named = whole-named m on.sent on.brought in (
        either (CountedAsMany n) ack _ _ (either (CountedAsMany n) (keeps_deletion n s.name) _ _ (refl, refl) (refl, refl)) (refl, refl),
        ap (maps.get n.states) (sym named) ∙ (may-import n on.sent on.free).fresh,
        subst (λ (k : StateName). IsLastUsed (taken_over n s ack) k s.last) (ap (λ (t : State). t.name) on.is ∙ named)
            (either (λ (o : Node). IsLastUsed o s.name s.last) ack _ _ (either (λ (o : Node). IsLastUsed o s.name s.last)
            (keeps_deletion n s.name) _ _ (put-used n s) (put-used n s)) (put-used n s)),
      )
  says-so (decision.Merge x) on so =
      let still = lost n x.state.name in
      let counts = into-counted n still x (lost-still n x.state.name) in (
        counts.0,
        counts.1,
        refl,
        λ are. some_and (IsMergedSo n (name_in m) (ends_in n.limits.kernel x) x.state.last (merged_into still x)) (received_in m) on.received on.brought
            (merged-so n still (name_in m) on.held on.received _ on.found (are.filed (name_in m) on.held on.found) x on.is),
      )
  says-so (decision.Ask name) on so = (
    (refl, refl),
    ap (maps.get n.states) (sym on.1) ∙ on.0,
    ap (is_requested (requested n.queue name)) (sym on.1) ∙ asked n.queue name,
  )
  says-so (decision.Queue name) on so = (
    (refl, refl),
    some_and (λ (s : State). kind_of (marked n.queue name Update) s.name ≡ Some Update) (maps.get n.states (name_in m)) on.0 on.1.0
        (ap (kind_of (marked n.queue name Update)) (sym on.1.1) ∙ marked-kind n.queue name),
  )
  says-so (decision.Serve true) on so = ((refl, refl), (ltb-true 0 (maps.len n.states) (sym on), refl, refl))
  says-so (decision.Serve false) on so =
      let few = ltb-false 0 (maps.len n.states) (sym on) in ((refl, refl), (omega (arith, few), refl, refl))
  says-so (decision.Release name) on so = (
    released-still n name,
    λ are. subst (λ (k : StateName). WaitsNoMore n (name_in m) (released n k)) (sym on.1.1)
        (acknowledged n (name_in m) on.0 on.1.0 on.1.2 (are.filed (name_in m) on.0 on.1.0)),
  )
  says-so (decision.Delete name) on so =
      (forgotten-still n name, ap (is_known n) (sym on.1) ∙ on.0, ap (maps.get (forgotten n name).states) (sym on.1) ∙ gone n name)
  says-so (decision.Clear creator bound) on so =
      (all-still (cleared_names n creator bound) n n (refl, refl), fewer-by n (λ name. (name.creator == creator) && nat_le name.id bound))
  says-so (decision.Hear Start) on so = (on, refl, inl refl)
  says-so (decision.Hear Finish) on so = (on, refl, inr refl)
  says-so decision.Nothing on so = refl

pub counted : RecordsAreCountedSo
unfolding taken
counted n b m = let fits = suits n b m in (fits.0, says-so n m (decided n b m) (rests n b m) fits.1)
