-- What a node keeps where a packet is held, and where a full list lets its oldest go.
use Rattle.std.specs.Prelude.{◌≡◌, ◌≤◌, ◌<◌, ℕ, ◌+◌, suc, Bool, true, false, nat_le, List, [], ◌∷◌, length, find, slice_get, Option, Some, None, is_some, refl}
use Rattle.std.specs.Option.{option_map_or}
use Rattle.std.proofs.Common.{cond, ◌∙◌, ap, sym, subst, arith, inl, inr}
use Rattle.pfl_base.specs.declared.direction.Dir.{Dir}
use Rattle.pfl_base.specs.declared.packet.Packet.{Packet}
use Rattle.pfl_base.specs.declared.state_name.StateName.{StateName}
use Rattle.pfl_base.proofs.ForCallers.{names_total, names_exact, is_name-same}
use Rattle.pfl_base.specs.Names.{is_name}
use Rattle.pfl_edits.specs.Maps as maps
use Rattle.pfl_edits.proofs.ForCallers.{get-set_at_same, get-set_at_other, key_cases}
use Rattle.pfl_track.specs.declared.state.State.{State}
use Rattle.pfl_receive.specs.table.Tables.{AreStates}
use Rattle.pfl_receive.specs.queue.declared.Kind.TheVariants.{Insert}
use Rattle.pfl_receive.specs.defer.declared.Held.{Held}
use Rattle.pfl_receive.specs.defer.Deferring as deferring
use Rattle.pfl_receive.specs.defer.Deferring.{Deferrals, IsDeferrals, held_of, let_go, pushed_out}
use Rattle.pfl_receive.proofs.ForCallers.defer.{with_room-has_room, found_place}
use Rattle.pfl_receive.specs.desk.Changes.{put_state, mark, is_held, freed, count_freed, without_held, not_waiting, released}
use Rattle.pfl_receive.specs.desk.inner.Kept.{MayReplace, MayStart}
use Rattle.pfl_receive.specs.desk.Nodes.{Node, AreParts, IsGiven}
use Rattle.pfl_node.specs.Starting.{announced, with_room, is_deferred, pass, hold}
use Rattle.pfl_receive.proofs.ForCallers.desk.{state_still}

-- ---- a full list lets its oldest go

-- the packet that is pushed out is held
pub pushed-held : (d : Deferrals) (h : Held) → IsDeferrals d → pushed_out d ≡ Some h → held_of d h.name ≡ Some h
pushed-held d h is out = found_place d.list 0 h is.once (by (nat_le d.limit (length d.list)) out)
  where
    by : (b : Bool) → cond b (slice_get d.list 0) None ≡ Some h → slice_get d.list 0 ≡ Some h
    by true e = e
    by false e = absurd (cc)

-- a node without its states
abbrev bare : Node → Node
bare n = record n { states = maps.empty }

bare-not_waiting : (n : Node) (name : StateName) → bare (not_waiting n name) ≡ bare n
bare-not_waiting n name = by (maps.get n.states name)
  where
    by : (o : Option State) → bare (option_map_or (λ s. put_state n (record s { ack_wanted = false })) o n) ≡ bare n
    by None = refl
    by (Some s) = refl

-- the node with the list that has room, but for its states
abbrev roomy : Node → Option Held → Node
roomy n o = record n {
  held = option_map_or (λ h. let_go n.held h.name) o n.held;
  counters = record n.counters { freed = n.counters.freed + cond (is_some o) 1 0 };
}

-- to make room changes held packets, states, and what is counted as freed
pub room-rest : (n : Node) → IsDeferrals n.held → bare (with_room n) ≡ bare (roomy n (pushed_out n.held))
room-rest n is = by (pushed_out n.held) refl
  where
    by : (o : Option Held) → pushed_out n.held ≡ o → bare (option_map_or (λ h. released n h.name) o n) ≡ bare (roomy n o)
    by None e =
        let none : n.counters.freed ≡ n.counters.freed + 0 = omega arith in
        ap (λ (k : ℕ). bare (record n { counters = record n.counters { freed = k } })) none
    by (Some h) e =
        bare-not_waiting (freed n h.name) h.name
        ∙ ap (λ b. bare (cond b (count_freed (without_held n h.name)) n)) (ap (λ (o : Option Held). is_some o) (pushed-held n.held h is e))

-- a full list lets its oldest go, and any other stays as it is
pub room-some : (n : Node) (h : Held) → pushed_out n.held ≡ Some h → with_room n ≡ released n h.name
room-some n h e = ap (λ (o : Option Held). option_map_or (λ h. released n h.name) o n) e

pub room-none : (n : Node) → pushed_out n.held ≡ None → with_room n ≡ n
room-none n e = ap (λ (o : Option Held). option_map_or (λ h. released n h.name) o n) e

-- a state that waits for the peer is itself as one that waits
pub waits-is : (s : State) → s.ack_wanted ≡ true → record s { ack_wanted = true } ≡ s
waits-is s e = ap (λ (b : Bool). record s { ack_wanted = b }) (sym e)

-- a state that is like s, but for its wish for an acknowledgement, stands under its name
record Like (n : Node) (s : State) : Type 0 where
  state : State
  at : maps.get n.states s.name ≡ Some state
  wire : s.wire ≡ state.wire
  stack : s.stack ≡ state.stack
  no_sync : s.no_sync ≡ state.no_sync

waiting-like : (n : Node) (name : StateName) (s : State) → AreStates n.states → maps.get n.states s.name ≡ Some s → Like (not_waiting n name) s
waiting-like n name s are at = by (maps.get n.states name) refl
  where
    by : (o : Option State) → maps.get n.states name ≡ o → Like (option_map_or (λ u. put_state n (record u { ack_wanted = false })) o n) s
    by None there = record { state = s; at = at; wire = refl; stack = refl; no_sync = refl }
    by (Some u) there = elim (key_cases names_total names_exact s.name u.name) [
      | inl same ↦
          let one : Some s ≡ Some u = sym at ∙ (ap (maps.get n.states) (same ∙ are.filed name u there) ∙ there) in
          let it : s ≡ u = cc in
          record {
            state = record u { ack_wanted = false };
            at = ap (maps.get (maps.insert n.states u.name (record u { ack_wanted = false }))) same
                ∙ get-set_at_same names_total names_exact n.states u.name (Some (record u { ack_wanted = false }));
            wire = ap (λ (t : State). t.wire) it;
            stack = ap (λ (t : State). t.stack) it;
            no_sync = ap (λ (t : State). t.no_sync) it;
          }
      | inr other ↦ record {
        state = s;
        at = get-set_at_other names_total names_exact n.states u.name (Some (record u { ack_wanted = false })) s.name other ∙ at;
        wire = refl;
        stack = refl;
        no_sync = refl;
      }
    ]

room-like : (n : Node) (s : State) → AreStates n.states → maps.get n.states s.name ≡ Some s → Like (with_room n) s
room-like n s are at = by (pushed_out n.held)
  where
    went : (b : Bool) (h : Held) → Like (not_waiting (cond b (count_freed (without_held n h.name)) n) h.name) s
    went true h = waiting-like (count_freed (without_held n h.name)) h.name s are at
    went false h = waiting-like n h.name s are at

    by : (o : Option Held) → Like (option_map_or (λ h. released n h.name) o n) s
    by None = record { state = s; at = at; wire = refl; stack = refl; no_sync = refl }
    by (Some h) = went (is_held n h.name) h

-- and where room was made
pub room-may : (n : Node) (s : State) → AreParts n → maps.get n.states s.name ≡ Some s → MayReplace (with_room n) s
room-may n s is at =
    let like = room-like n s is.states at in
    let rest = room-rest n is.deferrals in
    record {
      former = like.state;
      stands = like.at;
      wire = like.wire;
      stack = like.stack;
      no_sync = like.no_sync;
      is = state_still n (with_room n) s (ap (λ (m : Node). m.limits) rest) (ap (λ (m : Node). m.creator) rest) (ap (λ (m : Node). m.next_id) rest)
          (ap (λ (m : Node). m.rules) rest) (ap (λ (m : Node). m.clock) rest) (is.each s.name s at);
    }

-- what a packet finds for which room was made
pub record IsRoomFor (n : Node) (name : StateName) : Type 0 where
  pub free : length n.held.list < n.held.limit
  pub fresh : held_of n.held name ≡ None

pub room-made : (n : Node) (name : StateName) → AreParts n → held_of n.held name ≡ None → IsRoomFor (with_room n) name
room-made n name is fresh =
    let least : 1 ≤ n.limits.held = is.limits.1.1.1.1.0.0 in
    let limit = is.held_limit in
    let left = with_room-has_room n.held is.deferrals (omega arith) in
    let held : deferring.with_room n.held ≡ (with_room n).held = sym (ap (λ (m : Node). m.held) (room-rest n is.deferrals)) in
    record {
      free = subst (λ (d : Deferrals). length d.list < d.limit) held left.room;
      fresh = subst (λ (d : Deferrals). held_of d name ≡ None) held (left.fresh name fresh);
    }

-- ---- a packet is held

-- no packet is held of a name that was not given
pub fresh-held : (n : Node) (s : State) → AreParts n → MayStart n s → held_of n.held s.name ≡ None
fresh-held n s is may = by n.held.list (λ i h at. (is.held i h at).0)
  where
    by : (hs : List Held) → ((i : ℕ) (h : Held) → slice_get hs i ≡ Some h → IsGiven n h.name) → find (λ h. is_name s.name h.name) hs ≡ None
    by [] given = refl
    by (h ∷ hs) given =
        elim (is_name s.name h.name) as (λ b. is_name s.name h.name ≡ b → cond b (Some h) (find (λ h. is_name s.name h.name) hs) ≡ None) [
          | true ↦ λ t.
              let same = is_name-same s.name h.name t in
              let below = given 0 h refl (ap (λ (q : StateName). q.creator) (sym same) ∙ may.creator) in
              let ids = ap (λ (q : StateName). q.id) same in
              let id = may.id in
              absurd (omega arith)
          | false ↦ λ t. by hs (λ i k at. given (suc i) k at)
        ] refl

-- ---- a packet that makes a state

-- what is announced to the peer of a new state is what is queued in the end
pub announced-queue : (n : Node) (s : State) (dir : Dir) (p : Packet) → IsDeferrals n.held → s.no_sync ≡ false
    → (announced n s dir p).node.queue ≡ (mark n s.name Insert).queue
announced-queue n s dir p is told =
    ap (λ b. (cond b (pass n (Some s.name))
    (cond (is_deferred n dir) (hold (with_room (mark n s.name Insert)) s p) (pass (mark n s.name Insert) (Some s.name)))).node.queue) told
    ∙ by (is_deferred n dir)
  where
    by : (b : Bool) → (cond b (hold (with_room (mark n s.name Insert)) s p) (pass (mark n s.name Insert) (Some s.name))).node.queue
        ≡ (mark n s.name Insert).queue
    by true = ap (λ (m : Node). m.queue) (room-rest (mark n s.name Insert) is)
    by false = refl

-- a state that is not announced lets its packet go on
pub announced-quiet : (n : Node) (s : State) (dir : Dir) (p : Packet) → s.no_sync ≡ true → announced n s dir p ≡ pass n (Some s.name)
announced-quiet n s dir p quiet =
    ap (λ b. cond b (pass n (Some s.name))
    (cond (is_deferred n dir) (hold (with_room (mark n s.name Insert)) s p) (pass (mark n s.name Insert) (Some s.name)))) quiet

-- any other one holds it, where packets are deferred
pub announced-held : (n : Node) (s : State) (dir : Dir) (p : Packet) → s.no_sync ≡ false → is_deferred n dir ≡ true
    → announced n s dir p ≡ hold (with_room (mark n s.name Insert)) s p
announced-held n s dir p told on =
    ap (λ b. cond b (pass n (Some s.name))
    (cond (is_deferred n dir) (hold (with_room (mark n s.name Insert)) s p) (pass (mark n s.name Insert) (Some s.name)))) told
    ∙ ap (λ b. cond b (hold (with_room (mark n s.name Insert)) s p) (pass (mark n s.name Insert) (Some s.name))) on

pub announced-passed : (n : Node) (s : State) (dir : Dir) (p : Packet) → s.no_sync ≡ false → is_deferred n dir ≡ false
    → announced n s dir p ≡ pass (mark n s.name Insert) (Some s.name)
announced-passed n s dir p told off =
    ap (λ b. cond b (pass n (Some s.name))
    (cond (is_deferred n dir) (hold (with_room (mark n s.name Insert)) s p) (pass (mark n s.name Insert) (Some s.name)))) told
    ∙ ap (λ b. cond b (hold (with_room (mark n s.name Insert)) s p) (pass (mark n s.name Insert) (Some s.name))) off
