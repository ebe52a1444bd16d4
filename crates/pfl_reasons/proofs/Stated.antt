-- The states of a node after small changes: when one counts as last used, what is kept of its ends, and that it does not wait any more.
use Rattle.std.specs.Prelude.{◌≡◌, ◌&&◌, ◌||◌, ◌+◌, Bool, true, false, not, List, [], ◌∷◌, filter, find, min, Option, Some, None, IsSomeAnd, is_some, ℕ, refl}
use Rattle.std.specs.Option.{option_map_or}
use Rattle.std.proofs.Common.{cond, ◌∙◌, ap, subst, sym}
use Rattle.pfl_base.specs.declared.kernel.Kernel.{Kernel}
use Rattle.pfl_base.specs.declared.state_name.StateName.{StateName}
use Rattle.pfl_base.specs.Names.{is_name}
use Rattle.pfl_base.specs.Packets.{is_tcp}
use Rattle.pfl_base.proofs.ForCallers.{names_exact, names_total}
use Rattle.pfl_edits.specs.Maps as maps
use Rattle.pfl_edits.proofs.ForCallers.{first_value-stands, get-set_at_same}
use Rattle.pfl_track.specs.declared.peer.Peer.{Peer}
use Rattle.pfl_track.specs.declared.state.State.{State}
use Rattle.pfl_merge.specs.declared.merged.Merged.{Merged}
use Rattle.pfl_merge.specs.declared.received.Received.{Received}
use Rattle.pfl_merge.specs.Merging.{merged, refreshed, stale_dst, stale_src}
use Rattle.pfl_queue.specs.Queues.{kind_of}
use Rattle.pfl_world.specs.defer.declared.Held.{Held}
use Rattle.pfl_world.specs.desk.Changes.{changed, count_freed, count_stale, freed, is_held, is_unannounced, not_waiting, put_state, released, without_held}
use Rattle.pfl_world.specs.desk.Nodes.{Node}
use Rattle.pfl_world.specs.receive.Receiving.{merged_into}
use Rattle.pfl_reasons.specs.Packets.{HasState}
use Rattle.pfl_reasons.specs.declared.record_fate.TakenEnds.{TakenEnds}
use Rattle.pfl_reasons.specs.Records.{IsLastUsed, IsMergedSo, WaitsNoMore, ends_of, ends_taken}
use Rattle.pfl_reasons.proofs.Expiring.{passes}

-- what holds of the value that there is
pub some_and : {X : Type 0} (P : X → Type 0) (o : Option X) (x : X) → o ≡ Some x → P x → IsSomeAnd o P
some_and P o x is holds = subst (λ q. IsSomeAnd q P) (sym is) holds

-- one of two nodes of which this is so
pub either : (P : Node → Type 0) (b : Bool) (x y : Node) → P x → P y → P (cond b x y)
either P true x y p q = p
either P false x y p q = q

-- a state that a test finds is one of the node
pub owner : (n : Node) (test : State → Bool) (s : State) → find test (maps.values n.states) ≡ Some s → HasState n s.name (λ t. test t ≡ true)
owner n test s is =
    let at = first_value-stands names_total names_exact test n.states s is in
    (at.0, s, at.1, refl, passes test (maps.values n.states) s is)

-- ---- the last use and the ends

-- the node has a state of the name with the last use and the ends of this one
abbrev pub HasLike : Node → StateName → State → Type 0
HasLike n name s = IsSomeAnd (maps.get n.states name) (λ t. (t.last ≡ s.last) × (t.src ≡ s.src) × (t.dst ≡ s.dst))

pub put-like : (n : Node) (s : State) → HasLike (put_state n s) s.name s
put-like n s = some_and (λ (t : State). (t.last ≡ s.last) × (t.src ≡ s.src) × (t.dst ≡ s.dst)) (maps.get (put_state n s).states s.name) s
    (get-set_at_same names_total names_exact n.states s.name (Some s)) (refl, refl, refl)

pub put-used : (n : Node) (s : State) → IsLastUsed (put_state n s) s.name s.last
put-used n s = some_and (λ (t : State). t.last ≡ s.last) (maps.get (put_state n s).states s.name) s
    (get-set_at_same names_total names_exact n.states s.name (Some s)) refl

changed-like : (n : Node) (s : State) → HasLike (changed n s) s.name s
unfolding changed
changed-like n s =
    let like : Node → Type 0 = λ m. HasLike m s.name s in
    either like s.no_sync _ _ (put-like n s)
    (either like (is_unannounced (kind_of n.queue s.name)) _ _ (put-like n (record s { updates = 0 }))
    (either like (is_tcp s.wire.proto) _ _ (put-like n (record s { updates = min 255 (s.updates + 1) })) (put-like n s)))

-- what was merged is put back under its name
into-like : (n : Node) (x : Merged) → HasLike (merged_into n x) x.state.name x.state
into-like n x =
    let like : Node → Type 0 = λ m. HasLike m x.state.name x.state in
    let s = record x.state { ack_wanted = false } in
    either like (x.stale_src || x.stale_dst) _ _ (changed-like (count_stale n) s) (put-like n s)

-- what a merge makes of a state: its name stays, and each end that was taken is that of the record
record Becomes (s : State) (r : Received) (ends : TakenEnds) (t : State) : Type 0 where
  name : t.name ≡ s.name
  src : t.src ≡ cond ends.src r.src s.src
  dst : t.dst ≡ cond ends.dst r.dst s.dst

-- an end that does not stay is taken
taken-else : {X : Type 0} (stays : Bool) (held received : X) → cond stays held received ≡ cond (not stays) received held
taken-else true held received = refl
taken-else false held received = refl

-- the ends that are shown as taken, by whether the rule is the kernel's and which ends are older
abbrev ends_by : Bool → Bool → Bool → TakenEnds
ends_by merge src dst = ends_of (cond merge (Some (record { src = not src; dst = not (dst && src) })) None) src dst

src-taken : (merge src dst : Bool) (held received : Peer) → cond src held received ≡ cond (ends_by merge src dst).src received held
src-taken true src dst held received = taken-else src held received
src-taken false src dst held received = taken-else src held received

dst-taken : (merge src dst : Bool) (held received : Peer)
    → cond (dst && (not merge || src)) held received ≡ cond (ends_by merge src dst).dst received held
dst-taken true src dst held received = taken-else (dst && src) held received
dst-taken false src true held received = refl
dst-taken false src false held received = refl

-- the ends of a record that a merge took
abbrev pub ends_in : Kernel → Merged → TakenEnds
ends_in k x = ends_of (ends_taken k x.stale_src x.stale_dst) x.stale_src x.stale_dst

merged-becomes : (k : Kernel) (s : State) (r : Received) (timeout now : ℕ) (x : Merged) → x ≡ merged k s r timeout now → Becomes s r (ends_in k x) x.state
merged-becomes k s r timeout now x is =
    subst (λ (y : Merged). Becomes s r (ends_in k y) y.state) (sym is) (by (not (stale_src s r && stale_dst s r)) _ (record {
      name = refl;
      src = src-taken k.merge (stale_src s r) (stale_dst s r) s.src r.src;
      dst = dst-taken k.merge (stale_src s r) (stale_dst s r) s.dst r.dst;
    }))
  where
    by : (b : Bool) (t : State) → Becomes s r (ends_in k (merged k s r timeout now)) t
        → Becomes s r (ends_in k (merged k s r timeout now)) (refreshed k b t r timeout now)
    by true t becomes = record { name = becomes.name; src = becomes.src; dst = becomes.dst }
    by false t becomes = becomes

inside : {X : Type 0} (P Q : X → Type 0) (o : Option X) → ((x : X) → P x → Q x) → IsSomeAnd o P → IsSomeAnd o Q
inside P Q None then holds = holds
inside P Q (Some x) then holds = then x holds

-- a state that is merged
pub merged-so : (n m : Node) (name : StateName) (s : State) (r : Received) (timeout : ℕ) → maps.get n.states name ≡ Some s → s.name ≡ name
    → (x : Merged) → x ≡ merged n.limits.kernel s r timeout n.clock
    → IsMergedSo n name (ends_in n.limits.kernel x) x.state.last (merged_into m x) r
merged-so n m name s r timeout at filed x is =
    let ends = ends_in n.limits.kernel x in
    let after = merged_into m x in
    let becomes = merged-becomes n.limits.kernel s r timeout n.clock x is in
    let like = subst (λ (j : StateName). HasLike after j x.state) (becomes.name ∙ filed) (into-like m x) in
    some_and (λ (u : State). IsSomeAnd (maps.get after.states name)
    (λ (t : State). (t.last ≡ x.state.last) × (t.src ≡ cond ends.src r.src u.src) × (t.dst ≡ cond ends.dst r.dst u.dst)))
    (maps.get n.states name) s at
    (inside (λ (t : State). (t.last ≡ x.state.last) × (t.src ≡ x.state.src) × (t.dst ≡ x.state.dst))
    (λ (t : State). (t.last ≡ x.state.last) × (t.src ≡ cond ends.src r.src s.src) × (t.dst ≡ cond ends.dst r.dst s.dst))
    (maps.get after.states name) (λ t so. (so.0, so.1 ∙ becomes.src, so.2 ∙ becomes.dst)) like)

-- ---- waiting

none-left : (name : StateName) (hs : List Held) → find (λ h. is_name name h.name) (filter (λ h. not (is_name name h.name)) hs) ≡ None
none-left name [] = refl
none-left name (h ∷ hs) =
    let rest = filter (λ (h : Held). not (is_name name h.name)) hs in
    elim (is_name name h.name) as (λ b. is_name name h.name ≡ b → find (λ (h : Held). is_name name h.name) (cond (not b) (h ∷ rest) rest) ≡ None) [
      | true ↦ λ e. none-left name hs
      | false ↦ λ e. ap (λ (b : Bool). cond b (Some h) (find (λ (h : Held). is_name name h.name) rest)) e ∙ none-left name hs
    ] refl

freed-held : (n : Node) (name : StateName) → is_held (freed n name) name ≡ false
freed-held n name = by (is_held n name) refl
  where
    by : (b : Bool) → is_held n name ≡ b → is_held (cond b (count_freed (without_held n name)) n) name ≡ false
    by true is = ap (λ (o : Option Held). is_some o) (none-left name n.held.list)
    by false is = is

freed-states : (n : Node) (name : StateName) → (freed n name).states ≡ n.states
freed-states n name = elim (is_held n name) as (λ b. (cond b (count_freed (without_held n name)) n).states ≡ n.states) [ true ↦ refl | false ↦ refl ]

still-held : (n : Node) (name : StateName) → is_held (not_waiting n name) name ≡ is_held n name
still-held n name = by (maps.get n.states name)
  where
    by : (o : Option State) → is_held (option_map_or (λ (s : State). put_state n (record s { ack_wanted = false })) o n) name ≡ is_held n name
    by None = refl
    by (Some s) = refl

waits-not : (n : Node) (s : State) → maps.get n.states s.name ≡ Some s
    → IsSomeAnd (maps.get (not_waiting n s.name).states s.name) (λ (t : State). t.ack_wanted ≡ false)
waits-not n s at =
    let told : State = record s { ack_wanted = false } in
    subst (λ (o : Option State). IsSomeAnd
    (maps.get (option_map_or (λ (t : State). put_state n (record t { ack_wanted = false })) o n).states s.name) (λ (t : State). t.ack_wanted ≡ false)) (sym at)
    (some_and (λ (t : State). t.ack_wanted ≡ false) (maps.get (put_state n told).states s.name) told
    (get-set_at_same names_total names_exact n.states s.name (Some told)) refl)

-- a state that is acknowledged
pub acknowledged : (n : Node) (name : StateName) (s : State) → maps.get n.states name ≡ Some s → s.ack_wanted ≡ true → s.name ≡ name
    → WaitsNoMore n name (released n s.name)
acknowledged n name s at wanted filed =
    let own : maps.get n.states s.name ≡ Some s = ap (maps.get n.states) filed ∙ at in
    let freed-own = ap (λ m. maps.get m s.name) (freed-states n s.name) ∙ own in
    subst (λ (k : StateName). WaitsNoMore n k (released n s.name)) filed (
      some_and (λ (t : State). t.ack_wanted ≡ true) (maps.get n.states s.name) s own wanted,
      waits-not (freed n s.name) s freed-own,
      still-held (freed n s.name) s.name ∙ freed-held n s.name,
    )
