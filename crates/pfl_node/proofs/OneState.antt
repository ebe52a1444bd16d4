-- No record and no packet gives two states of a node one wire key or one stack key (pf.c).
use Rattle.std.specs.Prelude.{◌≡◌, ℕ, Bool, true, false, not, ◌&&◌, ◌||◌, List, [], ◌∷◌, Option, Some, None, is_some, refl}
use Rattle.std.specs.List.{fold}
use Rattle.std.specs.Option.{option_map_or}
use Rattle.std.proofs.Common.{cond, ◌∙◌, ap, sym, subst, inl, inr}
use Rattle.pfl_base.specs.declared.direction.Dir.{Dir}
use Rattle.pfl_base.specs.declared.kernel.Kernel.{Kernel}
use Rattle.pfl_base.specs.declared.packet.Packet.{Packet}
use Rattle.pfl_base.specs.declared.state_name.StateName.{StateName}
use Rattle.pfl_base.specs.Keys.{key}
use Rattle.pfl_base.proofs.ForCallers.{names_total, names_exact}
use Rattle.pfl_base.specs.Packets.{is_tcp}
use Rattle.pfl_edits.specs.Maps as maps
use Rattle.pfl_edits.proofs.ForCallers.{get-set_at_same, get-set_at_other, key_cases}
use Rattle.pfl_track.specs.declared.state.State.{State}
use Rattle.pfl_track.specs.declared.tracked.Tracked.{Tracked}
use Rattle.pfl_track.specs.declared.tracked.Tracked.TheVariants.{Moved, OutOfWindow, Reused}
use Rattle.pfl_track.proofs.ForCallers.{Stays, tracked_by-stays}
use Rattle.pfl_receive.specs.table.Tables.{AreStates, found, key_in_use}
use Rattle.pfl_receive.proofs.ForCallers.table.{OwnsKeys-unused, OwnsKeys-known, SameKeys, SameKeys-itself, AreStates-with, AreStates-without, found-stands}
use Rattle.pfl_wire.specs.declared.message.Message.{Message}
use Rattle.pfl_receive.specs.queue.declared.Kind.TheVariants.{Insert}
use Rattle.pfl_receive.specs.queue.Queues.{kind_of}
use Rattle.pfl_receive.specs.merge.declared.received.Received.{Received}
use Rattle.pfl_receive.specs.merge.declared.merged.Merged.{Merged}
use Rattle.pfl_receive.specs.merge.Merging.{merged, stale_src, stale_dst}
use Rattle.pfl_receive.specs.defer.declared.Held.{Held}
use Rattle.pfl_receive.specs.defer.Deferring.{pushed_out}
use Rattle.pfl_receive.specs.desk.Nodes.{Node}
use Rattle.pfl_receive.specs.desk.Changes.{put_state, mark, is_unannounced, is_insert, is_held, freed, lost, not_waiting, released, changed, deleted, keeps_deletion}
use Rattle.pfl_receive.specs.desk.Changes.{forgotten, count_stale, count_freed, count_lost, without_held}
use Rattle.pfl_node.specs.Starting.{Handled, announced, hold, is_deferred, judged, with_new, with_room}
use Rattle.pfl_node.specs.Packets.{handled, handled_by, followed, accepted, tracked_at}
use Rattle.pfl_receive.specs.declared.decision.Decision.{Decision}
use Rattle.pfl_receive.specs.declared.decision.Decision.TheVariants.{Bad, Import, Merge, Ask, Queue, Serve, Release, Delete, Clear, Hear, Nothing}
use Rattle.pfl_receive.specs.Bringing.{name_in}
use Rattle.pfl_receive.specs.Receiving.{cleared_names, decided, does, merged_into, taken}
use Rattle.pfl_receive.proofs.ForCallers.{RestsOn, may-import, rests}
use Rattle.pfl_node.proofs.Ruled.{judged-by}

-- the states of the node are named and keyed rightly
abbrev Apart : Node → Type 0
Apart n = AreStates n.states

either : (b : Bool) (x y : Node) → Apart x → Apart y → Apart (cond b x y)
either true x y k l = k
either false x y k l = l

on_some : {X : Type 0} (o : Option X) (f : X → Node) (d : Node) → ((x : X) → o ≡ Some x → Apart (f x)) → Apart d → Apart (option_map_or f o d)
on_some None f d k l = l
on_some (Some x) f d k l = k x refl

over_all : {X : Type 0} (f : Node → X → Node) (xs : List X) (n : Node) → ((m : Node) (x : X) → Apart m → Apart (f m x)) → Apart n → Apart (fold f n xs)
over_all f [] n k l = l
over_all f (x ∷ xs) n k l = over_all f xs (f n x) k (k n x l)

-- ---- held packets

-- the states stay
freed-states : (n : Node) (name : StateName) → (freed n name).states ≡ n.states
freed-states n name = by (is_held n name)
  where
    by : (b : Bool) → (cond b (count_freed (without_held n name)) n).states ≡ n.states
    by true = refl
    by false = refl

lost-states : (n : Node) (name : StateName) → (lost n name).states ≡ n.states
lost-states n name = by (is_held n name)
  where
    by : (b : Bool) → (cond b (count_lost (without_held n name)) n).states ≡ n.states
    by true = refl
    by false = refl

freed-apart : (n : Node) (name : StateName) → Apart n → Apart (freed n name)
freed-apart n name k = subst AreStates (sym (freed-states n name)) k

lost-apart : (n : Node) (name : StateName) → Apart n → Apart (lost n name)
lost-apart n name k = subst AreStates (sym (lost-states n name)) k

-- ---- states put

-- in place of one with the same name and keys
put-known : (n : Node) (s t : State) → Apart n → maps.get n.states s.name ≡ Some s → SameKeys s t → Apart (put_state n t)
put-known n s t k at same = AreStates-with n.states t k (OwnsKeys-known n.states s t k at same)

put-unused : (n : Node) (s : State) → Apart n → key_in_use n.states s.wire s.stack ≡ false → Apart (put_state n s)
put-unused n s k free = AreStates-with n.states s k (OwnsKeys-unused n.states s free)

under_its_name : (n : Node) (name : StateName) (s : State) → Apart n → maps.get n.states name ≡ Some s → maps.get n.states s.name ≡ Some s
under_its_name n name s k at = subst (λ q. maps.get n.states q ≡ Some s) (sym (k.filed name s at)) at

not_waiting-apart : (n : Node) (name : StateName) → Apart n → Apart (not_waiting n name)
not_waiting-apart n name k = on_some (maps.get n.states name) _ n
    (λ s at. put-known n s (record s { ack_wanted = false }) k (under_its_name n name s k at) (record { name = refl; wire = refl; stack = refl })) k

released-apart : (n : Node) (name : StateName) → Apart n → Apart (released n name)
released-apart n name k = not_waiting-apart (freed n name) name (freed-apart n name k)

-- a name has a state with these keys
pub record Has (n : Node) (s : State) : Type 0 where
  pub state : State
  pub at : maps.get n.states s.name ≡ Some state
  pub same : SameKeys s state

inner : {X : Type 0} (x y : X) → Some x ≡ Some y → x ≡ y
inner x y e = cc

not_waiting-has : (n : Node) (name : StateName) (s : State) → Apart n → maps.get n.states s.name ≡ Some s → Has (not_waiting n name) s
not_waiting-has n name s k at = by (maps.get n.states name) refl
  where
    by : (o : Option State) → maps.get n.states name ≡ o → Has (option_map_or (λ t. put_state n (record t { ack_wanted = false })) o n) s
    by None e = record { state = s; at = at; same = SameKeys-itself s }
    by (Some t) e = elim (key_cases names_total names_exact s.name t.name) [
      | inl same ↦ record {
        state = record t { ack_wanted = false };
        at = ap (maps.get (maps.insert n.states t.name (record t { ack_wanted = false }))) same
            ∙ get-set_at_same names_total names_exact n.states t.name (Some (record t { ack_wanted = false }));
        same =
            let one : t ≡ s = inner t s (sym (under_its_name n name t k e) ∙ (ap (maps.get n.states) (sym same) ∙ at)) in
            record { name = ap (λ (u : State). u.name) one; wire = ap (λ (u : State). u.wire) one; stack = ap (λ (u : State). u.stack) one };
      }
      | inr other ↦ record {
        state = s;
        at = get-set_at_other names_total names_exact n.states t.name (Some (record t { ack_wanted = false })) s.name other ∙ at;
        same = SameKeys-itself s;
      }
    ]

released-has : (n : Node) (name : StateName) (s : State) → Apart n → maps.get n.states s.name ≡ Some s → Has (released n name) s
released-has n name s k at =
    not_waiting-has (freed n name) name s (freed-apart n name k) (ap (λ m. maps.get m s.name) (freed-states n name) ∙ at)

-- ---- local changes and deletions

changed-apart : (n : Node) (s t : State) → Apart n → maps.get n.states s.name ≡ Some s → SameKeys s t → Apart (changed n t)
unfolding changed
changed-apart n s t k at same =
    either t.no_sync _ _ (put-known n s t k at same)
    (either (is_unannounced (kind_of n.queue t.name)) _ _
    (put-known n s (record t { updates = 0 }) k at (record { name = same.name; wire = same.wire; stack = same.stack }))
    (either (is_tcp t.wire.proto) _ _ (put-known n s _ k at (record { name = same.name; wire = same.wire; stack = same.stack })) (put-known n s t k at same)))

deleted-apart : (n : Node) (s : State) → Apart n → Apart (deleted n s)
unfolding deleted
deleted-apart n s k =
    let without = AreStates-without (lost n s.name).states s.name (lost-apart n s.name k) in
    either (is_insert (kind_of (lost n s.name).queue s.name)) _ _ without (either s.no_sync _ _ without without)

forgotten-apart : (n : Node) (name : StateName) → Apart n → Apart (forgotten n name)
unfolding forgotten
forgotten-apart n name k = AreStates-without (lost n name).states name (lost-apart n name k)

-- ---- records

same_of : (b : Bool) (held x y : State) → SameKeys held x → SameKeys held y → SameKeys held (cond b x y)
same_of true held x y f g = f
same_of false held x y f g = g

-- a merge keeps the held name and keys
merged-same : (k : Kernel) (held : State) (r : Received) (seconds now : ℕ) → SameKeys held (merged k held r seconds now).state
merged-same k held r seconds now =
    same_of (not (stale_src held r && stale_dst held r)) held _ _
    (record { name = refl; wire = refl; stack = refl }) (record { name = refl; wire = refl; stack = refl })

merge-apart : (n : Node) (s : State) (x : Merged) → Apart n → maps.get n.states s.name ≡ Some s → SameKeys s x.state
    → Apart (merged_into (lost n x.state.name) x)
merge-apart n s x k at same =
    let m = lost n x.state.name in
    let calm : SameKeys s (record x.state { ack_wanted = false }) = record { name = same.name; wire = same.wire; stack = same.stack } in
    let there = ap (λ l. maps.get l s.name) (lost-states n x.state.name) ∙ at in
    either (x.stale_src || x.stale_dst) _ _
    (changed-apart (count_stale m) s (record x.state { ack_wanted = false }) (lost-apart n x.state.name k) there calm)
    (put-known m s (record x.state { ack_wanted = false }) (lost-apart n x.state.name k) there calm)

-- what was decided of a record, done
done-apart : (n : Node) (m : Message) (d : Decision) → RestsOn n m d → Apart n → Apart (does n d)
unfolding does RestsOn
done-apart n m (Bad why) so k = k
done-apart n m (Import s ack) so k =
    let free = (may-import n so.sent so.free).unused in
    let put = put-unused n s k (subst (λ (t : State). key_in_use n.states t.wire t.stack ≡ false) (sym so.is) free) in
    either ack _ _ (either (keeps_deletion n s.name) _ _ put put) put
done-apart n m (Merge x) so k =
    merge-apart n so.held x k (under_its_name n (name_in m) so.held k so.found)
    (subst (λ (y : Merged). SameKeys so.held y.state) (sym so.is) (merged-same n.limits.kernel so.held so.received _ n.clock))
done-apart n m (Ask name) so k = k
done-apart n m (Queue name) so k = k
done-apart n m (Serve begins) so k = k
done-apart n m (Release name) so k = released-apart n name k
done-apart n m (Delete name) so k = forgotten-apart n name k
done-apart n m (Clear creator bound) so k = over_all forgotten (cleared_names n creator bound) n (λ l name t. forgotten-apart l name t) k
done-apart n m (Hear status) so k = k
done-apart n m Nothing so k = k

-- no record brings two states under one key
pub taken-apart : (n : Node) (same_rules : Bool) (m : Message) → AreStates n.states → AreStates (taken n same_rules m).states
unfolding taken
taken-apart n b m k = done-apart n m (decided n b m) (rests n b m) k

-- ---- packets

one_of : (b : Bool) (x y : Handled) → Apart x.node → Apart y.node → Apart (cond b x y).node
one_of true x y k l = k
one_of false x y k l = l

room-has : (n : Node) (s : State) → Apart n → maps.get n.states s.name ≡ Some s → Has (with_room n) s
room-has n s k at = by (pushed_out n.held)
  where
    by : (o : Option Held) → Has (option_map_or (λ h. released n h.name) o n) s
    by None = record { state = s; at = at; same = SameKeys-itself s }
    by (Some h) = released-has n h.name s k at

room-apart : (n : Node) → Apart n → Apart (with_room n)
room-apart n k = on_some (pushed_out n.held) _ n (λ h at. released-apart n h.name k) k

hold-apart : (n : Node) (s : State) (p : Packet) → Apart n → Has n s → Apart (hold n s p).node
hold-apart n s p k has =
    let there : maps.get n.states has.state.name ≡ Some has.state = ap (maps.get n.states) has.same.name ∙ has.at in
    put-known n has.state (record s { ack_wanted = true }) k there
    (record { name = sym has.same.name; wire = sym has.same.wire; stack = sym has.same.stack })

announced-apart : (n : Node) (s : State) (dir : Dir) (p : Packet) → Apart n → maps.get n.states s.name ≡ Some s → Apart (announced n s dir p).node
announced-apart n s dir p k at =
    one_of s.no_sync _ _ k
    (one_of (is_deferred n dir) _ _
    (hold-apart (with_room (mark n s.name Insert)) s p (room-apart (mark n s.name Insert) k) (room-has (mark n s.name Insert) s k at)) k)

judged-apart : (n : Node) (dir : Dir) (p : Packet) → Apart n → Apart (judged n dir p).node
judged-apart n dir p k = judged-by (λ (h : Handled). Apart h.node) n dir p k (λ why. k) (λ s new.
    announced-apart (with_new n s) s dir p (put-unused n s k (λ i. is_some (new.wire i) || is_some (new.stack i)))
    (get-set_at_same names_total names_exact n.states s.name (Some s)))

accepted-apart : (n : Node) (s t : State) → Apart n → maps.get n.states s.name ≡ Some s → SameKeys s t → Apart (accepted n t).node
accepted-apart n s t k at same =
    changed-apart (freed n t.name) s (record t { ack_wanted = false }) (freed-apart n t.name k) (ap (λ m. maps.get m s.name) (freed-states n t.name) ∙ at)
    (record { name = same.name; wire = same.wire; stack = same.stack })

followed-apart : (n : Node) (dir : Dir) (p : Packet) (s : State) (x : Tracked) → Apart n → maps.get n.states s.name ≡ Some s → Stays s x
    → Apart (followed n dir p s x).node
followed-apart n dir p s (Moved t) k at stays = accepted-apart n s t k at (record { name = stays.name; wire = stays.wire; stack = stays.stack })
followed-apart n dir p s OutOfWindow k at stays = k
followed-apart n dir p s Reused k at stays = judged-apart (deleted n s) dir p (deleted-apart n s k)

-- no packet brings two states under one key
pub handled-apart : (n : Node) (dir : Dir) (p : Packet) → AreStates n.states → AreStates (handled n dir p).node.states
unfolding handled
handled-apart n dir p k = by (found n.states (key p dir) dir) refl
  where
    by : (o : Option State) → found n.states (key p dir) dir ≡ o → Apart (handled_by n dir p o).node
    by None e = judged-apart n dir p k
    by (Some s) e = followed-apart n dir p s (tracked_at n s p dir) k (found-stands n.states (key p dir) dir s k e) (tracked_by-stays n.limits.kernel s p dir n.clock)
