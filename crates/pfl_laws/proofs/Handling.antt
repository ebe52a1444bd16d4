-- What a packet keeps under one name that a node may not give any more: a new state has another name, a reused connection
-- is deleted, and what stays is followed by what tracking made of it.
use Rattle.std.specs.Prelude.{◌≡◌, ◌≢◌, ◌<◌, Bool, true, false, Option, Some, None, refl}
use Rattle.std.proofs.Common.{◌∙◌, ap, cond, sym, arith}
use Rattle.pfl_base.specs.declared.direction.Dir.{Dir}
use Rattle.pfl_base.specs.declared.packet.Packet.{Packet}
use Rattle.pfl_base.specs.declared.state_name.StateName.{StateName}
use Rattle.pfl_base.specs.Keys.{key}
use Rattle.pfl_base.specs.Packets.{IsPacket}
use Rattle.pfl_edits.specs.Maps as maps
use Rattle.pfl_world.specs.track.declared.state.State.{State}
use Rattle.pfl_world.specs.track.declared.tracked.Tracked.{Tracked}
use Rattle.pfl_world.specs.track.declared.tracked.Tracked.TheVariants.{Moved, OutOfWindow, Reused}
use Rattle.pfl_world.proofs.ForCallers.node.{judged-by}
use Rattle.pfl_world.proofs.ForCallers.track.{Stays, tracked_by-stays}
use Rattle.pfl_world.specs.table.Tables.{States, AreStates, found}
use Rattle.pfl_world.proofs.ForCallers.table.{found-stands}
use Rattle.pfl_world.specs.queue.declared.Kind.TheVariants.{Insert}
use Rattle.pfl_world.specs.defer.Deferring.{pushed_out}
use Rattle.pfl_world.specs.desk.Nodes.{Node, IsGiven}
use Rattle.pfl_world.specs.desk.Changes.{mark, freed, changed, deleted}
use Rattle.pfl_world.specs.node.Starting.{Handled, announced, hold, is_deferred, judged, next_name, with_new, with_room}
use Rattle.pfl_world.specs.node.Packets.{handled, handled_by, followed, accepted, tracked_at}
use Rattle.pfl_laws.proofs.Following.{Alike, Alike-itself, Follows, alike-follows, alike-follows-then, moved-follows, comes-removed, Filed, filed-put}
use Rattle.pfl_laws.proofs.Keeping.{Keeps, keeps-then, alike-then, keeps-as, keeps-itself, keeps-given, on_some, put_other-keeps, freed-states}
use Rattle.pfl_laws.proofs.Keeping.{freed-keeps, released-keeps, changed-keeps, deleted-states, deleted-keeps}

-- ---- choices

one_of : (R : State → State → Type 0) (q : StateName) (n : Node) (b : Bool) (x y : Handled) → Keeps R q n x.node → Keeps R q n y.node
    → Keeps R q n (cond b x y).node
one_of R q n true x y k l = k
one_of R q n false x y k l = l

-- ---- a packet that no state takes

-- the next name is not given yet
not_next : (n : Node) (q : StateName) → IsGiven n q → q ≢ next_name n
not_next n q given same =
    let low : q.id < n.next_id = given (ap (λ (m : StateName). m.creator) same) in
    let here : q.id ≡ n.next_id = ap (λ (m : StateName). m.id) same in
    omega arith

new-keeps : (q : StateName) (n : Node) (s : State) → q ≢ s.name → Keeps Alike q n (with_new n s)
new-keeps q n s other = record { creator = refl; next = omega arith; limits = refl; comes = (put_other-keeps q n s other).comes }

room-keeps : (q : StateName) (n : Node) → Filed n.states → Keeps Alike q n (with_room n)
room-keeps q n filed = on_some Alike q n (pushed_out n.held) _ n (λ h at. released-keeps q n h.name filed) (keeps-itself Alike q n Alike-itself)

hold-keeps : (q : StateName) (n : Node) (s : State) (p : Packet) → q ≢ s.name → Keeps Alike q n (hold n s p).node
hold-keeps q n s p other =
    let put = put_other-keeps q n (record s { ack_wanted = true }) other in
    record { creator = refl; next = omega arith; limits = refl; comes = put.comes }

-- the state is not that of the name
pub announced-keeps : (q : StateName) (n : Node) (s : State) (dir : Dir) (p : Packet) → Filed n.states → q ≢ s.name → Keeps Alike q n (announced n s dir p).node
announced-keeps q n s dir p filed other =
    let still : Keeps Alike q n n = keeps-itself Alike q n Alike-itself in
    let room : Keeps Alike q n (with_room (mark n s.name Insert)) = room-keeps q (mark n s.name Insert) filed in
    one_of Alike q n s.no_sync _ _ still
    (one_of Alike q n (is_deferred n dir) _ _
    (alike-then q n (with_room (mark n s.name Insert)) (hold (with_room (mark n s.name Insert)) s p).node room
    (hold-keeps q (with_room (mark n s.name Insert)) s p other))
    still)

pub judged-keeps : (q : StateName) (n : Node) (dir : Dir) (p : Packet) → Filed n.states → IsGiven n q → Keeps Alike q n (judged n dir p).node
judged-keeps q n dir p filed given =
    let still : Keeps Alike q n n = keeps-itself Alike q n Alike-itself in
    judged-by (λ (h : Handled). Keeps Alike q n h.node) n dir p still (λ why. still) (λ s new.
    let other : q ≢ s.name = λ e. not_next n q given (e ∙ ap (λ (t : State). t.name) new.is) in
    alike-then q n (with_new n s) (announced (with_new n s) s dir p).node
    (new-keeps q n s other) (announced-keeps q (with_new n s) s dir p (filed-put n.states s filed) other))

-- ---- a packet of a state

pub filed-without : (n : Node) (s : State) → Filed n.states → Filed (deleted n s).states
filed-without n s filed a u at =
    let from = comes-removed n.states s.name a u (ap (λ (m : States). maps.get m a) (sym (deleted-states n s)) ∙ at) in
    ap (λ (v : State). v.name) from.so ∙ filed a from.state from.at

follows-itself : (C : Type 0) (s : State) → Follows C s s
follows-itself C s = alike-follows C s s refl

-- the state s moved to t
pub accepted-keeps : (q : StateName) (n : Node) (dir : Dir) (p : Packet) (s t : State) → maps.get n.states s.name ≡ Some s
    → t.name ≡ s.name → tracked_at n s p dir ≡ Moved t → Keeps (Follows (IsPacket p)) q n (accepted n t).node
accepted-keeps q n dir p s t at named e =
    keeps-then Alike (Follows (IsPacket p)) (Follows (IsPacket p)) q n (freed n t.name)
    (changed (freed n t.name) (record t { ack_wanted = false })) (alike-follows-then (IsPacket p))
    (freed-keeps q n t.name)
    (changed-keeps (Follows (IsPacket p)) q (freed n t.name) (record t { ack_wanted = false }) (follows-itself (IsPacket p)) (λ same updates. record {
      state = s;
      at = ap (maps.get (freed n t.name).states) (same ∙ named) ∙ (ap (λ (m : States). maps.get m s.name) (freed-states n t.name) ∙ at);
      so = moved-follows n.limits.kernel s p dir n.clock t false updates e;
    }))

followed-keeps : (q : StateName) (n : Node) (dir : Dir) (p : Packet) (s : State) (x : Tracked) → Filed n.states → IsGiven n q
    → maps.get n.states s.name ≡ Some s → Stays s x → tracked_at n s p dir ≡ x → Keeps (Follows (IsPacket p)) q n (followed n dir p s x).node
followed-keeps q n dir p s (Moved t) filed given at stays e = accepted-keeps q n dir p s t at stays.name e
followed-keeps q n dir p s OutOfWindow filed given at stays e = keeps-itself (Follows (IsPacket p)) q n (follows-itself (IsPacket p))
followed-keeps q n dir p s Reused filed given at stays e =
    let gone = deleted-keeps q n s in
    keeps-as Alike (Follows (IsPacket p)) q n (judged (deleted n s) dir p).node (alike-follows (IsPacket p))
    (alike-then q n (deleted n s) (judged (deleted n s) dir p).node gone
    (judged-keeps q (deleted n s) dir p (filed-without n s filed) (keeps-given Alike q n (deleted n s) gone given)))

-- whatever packet comes
pub handled-keeps : (q : StateName) (n : Node) (dir : Dir) (p : Packet) → AreStates n.states → IsGiven n q
    → Keeps (Follows (IsPacket p)) q n (handled n dir p).node
unfolding handled
handled-keeps q n dir p are given = by (found n.states (key p dir) dir) refl
  where
    by : (o : Option State) → found n.states (key p dir) dir ≡ o → Keeps (Follows (IsPacket p)) q n (handled_by n dir p o).node
    by None e = keeps-as Alike (Follows (IsPacket p)) q n (judged n dir p).node (alike-follows (IsPacket p)) (judged-keeps q n dir p are.filed given)
    by (Some s) e = followed-keeps q n dir p s (tracked_at n s p dir) are.filed given (found-stands n.states (key p dir) dir s are e)
        (tracked_by-stays n.limits.kernel s p dir n.clock) refl
