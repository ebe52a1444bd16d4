-- A state waits for an acknowledgement exactly while its packet is held: each record of the peer's keeps that, and each packet
-- that a node judges or accepts.
use Rattle.std.specs.Prelude.{◌≡◌, ◌≢◌, ◌<◌, ◌+◌, Bool, true, false, Option, Some, None, refl}
use Rattle.std.proofs.Common.{◌∙◌, cond, ap, sym, subst, arith, inl, inr}
use Rattle.pfl_base.specs.declared.direction.Dir.{Dir}
use Rattle.pfl_base.specs.declared.packet.Packet.{Packet}
use Rattle.pfl_base.specs.declared.state_name.StateName.{StateName}
use Rattle.pfl_base.proofs.ForCallers.{names_total, names_exact}
use Rattle.pfl_edits.specs.Maps as maps
use Rattle.pfl_edits.proofs.ForCallers.{get-set_at_other, key_cases}
use Rattle.pfl_world.specs.track.declared.state.State.{State}
use Rattle.pfl_world.specs.table.Tables.{States}
use Rattle.pfl_world.specs.wire.declared.message.Message.{Message}
use Rattle.pfl_world.specs.queue.declared.Kind.TheVariants.{Insert, InsertAck, Update}
use Rattle.pfl_world.specs.defer.Deferring.{pushed_out}
use Rattle.pfl_world.specs.desk.Nodes.{Node, IsGiven}
use Rattle.pfl_world.specs.desk.Changes.{put_state, mark, push_if, count_bad, count_passed, count_blocked, is_held, freed, lost, changed, forgotten, keeps_deletion}
use Rattle.pfl_world.specs.desk.Changes.{released, ask}
use Rattle.pfl_world.specs.node.Packets.{accepted}
use Rattle.pfl_world.specs.receive.declared.decision.Decision.{Decision}
use Rattle.pfl_world.specs.receive.declared.decision.Decision.TheVariants.{Bad, Import, Merge, Ask, Queue, Serve, Release, Delete, Clear, Hear, Nothing}
use Rattle.pfl_world.specs.receive.Receiving.{acknowledged, taken, does, decided, merged_into, served, heard_of, cleared_names}
use Rattle.pfl_world.proofs.ForCallers.receive.{RestsOn, rests, may-import}
use Rattle.pfl_world.specs.node.Starting.{Handled, announced, hold, is_deferred, judged, next_name, pass, with_new, with_room}
use Rattle.pfl_world.proofs.ForCallers.node.{judged-by}
use Rattle.pfl_laws.specs.Laws.{IsTied, RecordsKeepTied}
use Rattle.pfl_laws.proofs.Following.{Alike, Filed, filed-put}
use Rattle.pfl_laws.proofs.Keeping.{Keeps, keeps-given, freed-states}
use Rattle.pfl_laws.proofs.Handling.{announced-keeps}
use Rattle.pfl_laws.proofs.Removing.{forgotten-removes, all-tied}
use Rattle.pfl_laws.proofs.Tied.{waits, tied-same, tied-out, tied-put, tied-hold, tied-either, tied-some, tied-released, freed-held}
use Rattle.pfl_laws.proofs.Tied.{changed-puts, tied-forgotten, Puts, PutsCalm, merged-puts}

-- whatever name has a state was given
abbrev pub AreGiven : Node → Type 0
AreGiven n = (name : StateName) (s : State) → maps.get n.states name ≡ Some s → IsGiven n name

-- ---- records

-- what is taken over stands under a new name, and waits for nothing; of what is merged the packet is dropped
does-tied : (n : Node) (m : Message) (d : Decision) → Filed n.states → RestsOn n m d → IsTied n → IsTied (does n d)
unfolding does RestsOn
does-tied n m (Bad why) filed on tied = tied-same n (count_bad n) tied refl refl
does-tied n m (Import s ack) filed on tied =
    let fresh = subst (λ (t : State). maps.get n.states t.name ≡ None) (sym on.is) (may-import n on.sent on.free).fresh in
    let calm : s.ack_wanted ≡ is_held n s.name = ap (λ (t : State). t.ack_wanted) on.is ∙ sym (tied s.name ∙ ap waits fresh) in
    let new = put_state n s in
    let told : IsTied (push_if true (acknowledged new s.name)) =
    elim (keeps_deletion n s.name) as (λ b. IsTied (push_if true (cond b new (mark new s.name InsertAck)))) [
      | true ↦ tied-put n (push_if true new) s tied refl refl calm
      | false ↦ tied-put n (push_if true (mark new s.name InsertAck)) s tied refl refl calm
    ] in
    tied-either ack (push_if true (acknowledged new s.name)) new told (tied-put n new s tied refl refl calm)
does-tied n m (Merge x) filed on tied =
    let puts : PutsCalm n x.state (merged_into (lost n x.state.name) x) = merged-puts n x in
    tied-out n (merged_into (lost n x.state.name) x) x.state.name (Some (record x.state { ack_wanted = false; updates = puts.updates })) tied
    puts.states refl puts.held
does-tied n m (Ask name) filed on tied = tied-same n (ask n name) tied refl refl
does-tied n m (Queue name) filed on tied = tied-same n (push_if true (mark n name Update)) tied refl refl
does-tied n m (Serve begins) filed on tied = tied-same n (served n begins) tied refl refl
does-tied n m (Release name) filed on tied = tied-released n name filed tied
does-tied n m (Delete name) filed on tied = tied-forgotten n name tied
does-tied n m (Clear creator bound) filed on tied =
    all-tied forgotten (λ (name : StateName). name) forgotten-removes (cleared_names n creator bound) n tied
does-tied n m (Hear status) filed on tied = tied-same n (heard_of n status) tied refl refl
does-tied n m Nothing filed on tied = tied

pub tied-record : RecordsKeepTied
unfolding taken
tied-record n b m are tied = does-tied n m (decided n b m) are.filed (rests n b m) tied

-- ---- packets

of_test : (b : Bool) (x y : Handled) → IsTied x.node → IsTied y.node → IsTied (cond b x y).node
of_test true x y k l = k
of_test false x y k l = l

-- no packet is held of the next name
next-free : (n : Node) → AreGiven n → IsTied n → is_held n (next_name n) ≡ false
next-free n given tied = tied (next_name n) ∙ by (maps.get n.states (next_name n)) refl
  where
    by : (o : Option State) → maps.get n.states (next_name n) ≡ o → waits o ≡ false
    by None e = refl
    by (Some s) e = let low : n.next_id < n.next_id = given (next_name n) s e refl in absurd (omega arith)

room-tied : (n : Node) → Filed n.states → IsTied n → IsTied (with_room n)
room-tied n filed tied = tied-some (pushed_out n.held) (λ h. released n h.name) n (λ h e. tied-released n h.name filed tied) tied

announced-tied : (n : Node) (s : State) (dir : Dir) (p : Packet) → Filed n.states → IsTied n → IsTied (announced n s dir p).node
announced-tied n s dir p filed tied =
    let k = with_room (mark n s.name Insert) in
    let roomy : IsTied k = room-tied (mark n s.name Insert) filed (tied-same n (mark n s.name Insert) tied refl refl) in
    let held = hold k s p in
    let passed = pass (mark n s.name Insert) (Some s.name) in
    of_test s.no_sync (pass n (Some s.name)) (cond (is_deferred n dir) held passed) (tied-same n (pass n (Some s.name)).node tied refl refl)
    (of_test (is_deferred n dir) held passed
    (tied-hold k held.node (record s { ack_wanted = true }) p roomy refl refl refl)
    (tied-same n passed.node tied refl refl))

pub judged-tied : (n : Node) (dir : Dir) (p : Packet) → Filed n.states → AreGiven n → IsTied n → IsTied (judged n dir p).node
judged-tied n dir p filed given tied = judged-by (λ (h : Handled). IsTied h.node) n dir p (tied-same n (count_passed n) tied refl refl)
    (λ why. tied-same n (count_blocked n) tied refl refl) (λ s new.
    let free = ap (is_held n) (ap (λ (t : State). t.name) new.is) ∙ next-free n given tied in
    announced-tied (with_new n s) s dir p (filed-put n.states s filed) (tied-put n (with_new n s) s tied refl refl (ap (λ (t : State). t.ack_wanted) new.is ∙ sym free)))

pub accepted-tied : (n : Node) (t : State) → IsTied n → IsTied (accepted n t).node
accepted-tied n t tied =
    let calm : State = record t { ack_wanted = false } in
    let m = freed n t.name in
    let puts : Puts m calm (changed m calm) = changed-puts m calm in
    tied-out n (accepted n t).node t.name (Some (record calm { updates = puts.updates })) tied
    (puts.states ∙ ap (λ (l : States). maps.insert l t.name (record calm { updates = puts.updates })) (freed-states n t.name)) refl
    (puts.held ∙ freed-held n t.name)

-- ---- names that were given

-- where all comes from what stood, no other name has a state
pub given-keeps : (R : State → State → Type 0) (n m : Node) → ((q : StateName) → Keeps R q n m) → AreGiven n → AreGiven m
given-keeps R n m keeps given q t at = let from = (keeps q).comes t at in keeps-given R q n m (keeps q) (given q from.state from.at)

-- a new state has the next name, which is given with it
announced-given : (n : Node) (s : State) (dir : Dir) (p : Packet) → Filed n.states → s.name ≡ next_name n → AreGiven n
    → AreGiven (announced (with_new n s) s dir p).node
announced-given n s dir p filed next given q t at =
    let new = with_new n s in
    let after = (announced new s dir p).node in
    let later : StateName = record { creator = s.name.creator; id = s.name.id + 1 } in
    let apart : later ≢ s.name = λ e. let ids = ap (λ (k : StateName). k.id) e in absurd (omega arith) in
    let on = (announced-keeps later new s dir p (filed-put n.states s filed) apart).next in
    let id = ap (λ (k : StateName). k.id) next in
    elim (key_cases names_total names_exact q s.name) [
      | inl same ↦ λ own. let ids = ap (λ (k : StateName). k.id) same in omega arith
      | inr other ↦
          let keeps = announced-keeps q new s dir p (filed-put n.states s filed) other in
          let from = keeps.comes t at in
          let before = given q from.state (sym (get-set_at_other names_total names_exact n.states s.name (Some s) q other) ∙ from.at) in
          keeps-given Alike q new after keeps (λ own. let low = before own in omega arith)
    ]

pub judged-given : (n : Node) (dir : Dir) (p : Packet) → Filed n.states → AreGiven n → AreGiven (judged n dir p).node
judged-given n dir p filed given = judged-by (λ (h : Handled). AreGiven h.node) n dir p given (λ why. given) (λ s new.
    announced-given n s dir p filed (ap (λ (t : State). t.name) new.is) given)
