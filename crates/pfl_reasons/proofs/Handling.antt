-- The fate of a packet follows from its reason.
use Rattle.std.specs.Prelude.{◌≡◌, ◌≤◌, ◌⊎◌, ℕ, Bool, true, false, ◌&&◌, nat_le, Option, Some, None, IsSomeAnd, is_some, unwrap_or, refl}
use Rattle.std.specs.Option.{option_map_or}
use Rattle.std.proofs.Common.{cond, ap, sym, subst, inl, inr}
use Rattle.std.proofs.lemmas.Bool.{leb-true}
use Rattle.pfl_base.specs.declared.direction.Dir.{Dir}
use Rattle.pfl_base.specs.declared.kernel.Kernel.{Kernel}
use Rattle.pfl_base.specs.declared.packet.Packet.{Packet}
use Rattle.pfl_base.specs.Keys.{is_key, key}
use Rattle.pfl_base.specs.Packets.{is_request, is_tcp}
use Rattle.pfl_base.proofs.ForCallers.{names_exact, names_total}
use Rattle.pfl_edits.specs.Maps as maps
use Rattle.pfl_edits.proofs.ForCallers.{get-set_at_same}
use Rattle.pfl_rules.specs.declared.rule.Rule.{Rule}
use Rattle.pfl_rules.specs.Matching.{is_pass}
use Rattle.pfl_rules.specs.Rules.{deciding, rule_at, verdict_by}
use Rattle.pfl_track.specs.declared.branch.Branch.{Branch}
use Rattle.pfl_track.specs.declared.judgement.Judgement.{Judgement}
use Rattle.pfl_track.specs.declared.state.State.{State}
use Rattle.pfl_track.specs.declared.tracked.Tracked.{Tracked}
use Rattle.pfl_track.specs.declared.tracked.Tracked.TheVariants.{Moved, OutOfWindow, Reused}
use Rattle.pfl_track.specs.Judging.{branch_of, window_test_by}
use Rattle.pfl_track.specs.RuleLaws.{OutcomesFollow}
use Rattle.pfl_track.specs.Rules.{branch, passed, segment_of, tracked_by, tracked_other_by, tracked_tcp_by}
use Rattle.pfl_track.specs.Tracking.{is_closed, receiver, sender}
use Rattle.pfl_language.specs.declared.fate.Fate.TheVariants as fate
use Rattle.pfl_language.specs.declared.fate.Reason.TheVariants as reason
use Rattle.pfl_world.proofs.ForCallers.track.{Stays, tracked_by-stays}
use Rattle.pfl_world.specs.desk.Changes.{deleted, mark, put_state}
use Rattle.pfl_world.specs.desk.Nodes.{Node}
use Rattle.pfl_world.specs.node.Packets.{followed, handled, handled_by}
use Rattle.pfl_world.specs.node.declared.packet.ruling.Ruling.{Ruling}
use Rattle.pfl_world.specs.node.declared.packet.ruling.Ruling.TheVariants as ruling
use Rattle.pfl_world.specs.node.Starting.{Handled, announced, by_keys, by_rule, carried, drop, hold, is_at_max, is_deferred, judged, new_state, next_name, pass}
use Rattle.pfl_world.specs.node.Starting.{ruled, starting, with_new, with_room}
use Rattle.pfl_world.specs.table.Tables.{by_stack, by_wire, count_of_rule, found}
use Rattle.pfl_world.specs.table.Translating.{new_keys}
use Rattle.pfl_world.specs.queue.declared.Kind.TheVariants.{Insert}
use Rattle.pfl_reasons.specs.Deciding.{Decides}
use Rattle.pfl_reasons.specs.Packets.{HandledSo, HasState, IsPassedBy, IsReuse, JudgedSo, TestedSo, by_found, by_tracked, judged_reason, packet_reason}
use Rattle.pfl_reasons.specs.Packets.{passes, shown_ruling, tested}
use Rattle.pfl_reasons.proofs.Deciding.{decides, none-decides}
use Rattle.pfl_reasons.proofs.Stated.{owner, some_and}

-- ---- a packet that no state takes

-- a rule has its limit of states, or more
at-max : (most : Option ℕ) (states : ℕ) → option_map_or (λ m. nat_le m states) most false ≡ true
    → (most ≡ Some (unwrap_or most 0)) × (unwrap_or most 0 ≤ states)
at-max None states is = absurd (cc)
at-max (Some m) states is = (refl, leb-true m states is)

module _ (n : Node) (dir : Dir) (p : Packet) where
  -- a new state is there then, with its rule
  Announced : State → Handled → Type 0
  Announced s h = ((h.fate ≡ fate.Pass (Some s.name)) ⊎ (h.fate ≡ fate.Held s.name)) × IsSomeAnd (maps.get h.node.states s.name) (λ t. t.rule ≡ s.rule)

  announced-so : (m : Node) (s : State) → maps.get m.states s.name ≡ Some s → Announced s (announced m s dir p)
  unfolding Announced
  announced-so m s at = (by s.no_sync (is_deferred m dir), there s.no_sync (is_deferred m dir))
    where
      marked : Node
      marked = mark m s.name Insert

      waiting : State
      waiting = record s { ack_wanted = true }

      kept : IsSomeAnd (maps.get m.states s.name) (λ (t : State). t.rule ≡ s.rule)
      kept = some_and (λ (t : State). t.rule ≡ s.rule) (maps.get m.states s.name) s at refl

      put : (k : Node) → IsSomeAnd (maps.get (put_state k waiting).states s.name) (λ (t : State). t.rule ≡ s.rule)
      put k = some_and (λ (t : State). t.rule ≡ s.rule) (maps.get (put_state k waiting).states s.name) waiting
          (get-set_at_same names_total names_exact k.states s.name (Some waiting)) refl

      given : Bool → Bool → Handled
      given untold deferred = cond untold (pass m (Some s.name)) (cond deferred (hold (with_room marked) s p) (pass marked (Some s.name)))

      by : (untold deferred : Bool) → ((given untold deferred).fate ≡ fate.Pass (Some s.name)) ⊎ ((given untold deferred).fate ≡ fate.Held s.name)
      by true deferred = inl refl
      by false true = inr refl
      by false false = inl refl

      there : (untold deferred : Bool) → IsSomeAnd (maps.get (given untold deferred).node.states s.name) (λ (t : State). t.rule ≡ s.rule)
      there true deferred = kept
      there false true = put (with_room marked)
      there false false = kept

  -- the rule that decides passes it
  module _ (number : ℕ) (r : Rule) (decided : Decides n.rules.list p dir number r) (passed : is_pass r.action ≡ true) where
    by_it : (P : Rule → Type 0) → P r → IsPassedBy n dir p number P
    by_it P holds = (r, decided, passed, holds)

    keyed-so : (wire stack : Option State) → by_wire n.states (new_keys n.states r (key p dir)).wire ≡ wire
        → by_stack n.states (new_keys n.states r (key p dir)).stack ≡ stack
        → let made = by_keys number wire stack (new_state n dir p number r) in JudgedSo n dir p (shown_ruling made) (carried n dir p made)
    unfolding Announced
    keyed-so (Some s) stack on at = (
      refl,
      by_it (λ r. HasState n s.name (λ t. is_key t.wire (new_keys n.states r (key p dir)).wire ≡ true))
          (owner n (λ (t : State). is_key t.wire (new_keys n.states r (key p dir)).wire) s on),
    )
    keyed-so None (Some s) on at = (
      refl,
      by_it (λ r. HasState n s.name (λ t. is_key t.stack (new_keys n.states r (key p dir)).stack ≡ true))
          (owner n (λ (t : State). is_key t.stack (new_keys n.states r (key p dir)).stack) s at),
    )
    keyed-so None None on at =
        let s = new_state n dir p number r in
        let so = announced-so (with_new n s) s (get-set_at_same names_total names_exact n.states s.name (Some s)) in
        (so.0, so.1, by_it (λ r. next_name n ≡ next_name n) refl)

    starting-so : JudgedSo n dir p (shown_ruling (starting n dir p number r)) (carried n dir p (starting n dir p number r))
    starting-so = by (is_at_max n number r) (nat_le n.limits.states (maps.len n.states)) refl refl
      where
        by : (most full : Bool) → is_at_max n number r ≡ most → nat_le n.limits.states (maps.len n.states) ≡ full
            → let made = cond most (ruling.AtMax number (unwrap_or r.max 0) (count_of_rule n.states number))
            (cond full (ruling.Full number n.limits.states (maps.len n.states))
            (by_keys number (by_wire n.states (new_keys n.states r (key p dir)).wire)
            (by_stack n.states (new_keys n.states r (key p dir)).stack) (new_state n dir p number r))) in
            JudgedSo n dir p (shown_ruling made) (carried n dir p made)
        by true full most room =
            let so = at-max r.max (count_of_rule n.states number) most in (
              refl,
              by_it (λ q. (q.max ≡ Some (unwrap_or r.max 0)) × (count_of_rule n.states number ≡ count_of_rule n.states number)
                  × (unwrap_or r.max 0 ≤ count_of_rule n.states number)) (so.0, refl, so.1),
            )
        by false true most room = (
          refl,
          by_it (λ q. (n.limits.states ≡ n.limits.states) × (maps.len n.states ≡ maps.len n.states) × (n.limits.states ≤ maps.len n.states))
              (refl, refl, leb-true n.limits.states (maps.len n.states) room),
        )
        by false false most room = keyed-so (by_wire n.states (new_keys n.states r (key p dir)).wire)
            (by_stack n.states (new_keys n.states r (key p dir)).stack) refl refl

  -- what is shown of a ruling, and what is done by it
  MadeSo : Ruling → Type 0
  MadeSo made = JudgedSo n dir p (shown_ruling made) (carried n dir p made)

  -- the rules are asked
  by_rule-so : (number : ℕ) (r : Rule) → Decides n.rules.list p dir number r → is_pass r.action ≡ true
      → MadeSo (option_map_or (starting n dir p number) (rule_at n.rules.list (Some number)) ruling.Unmatched)
  unfolding MadeSo
  by_rule-so number r decided passed =
      subst (λ (o : Option Rule). MadeSo (option_map_or (starting n dir p number) o ruling.Unmatched)) (sym decided.there)
      (starting-so number r decided passed)

  judged-so : JudgedSo n dir p (judged_reason n dir p) (judged n dir p)
  unfolding judged judged_reason ruled MadeSo
  judged-so = by (deciding n.rules.list p dir) refl
    where
      by : (o : Option (ℕ × Rule)) → deciding n.rules.list p dir ≡ o
          → MadeSo (option_map_or (by_rule n dir p (verdict_by o)) (verdict_by o).rule ruling.Unmatched)
      by None is = (refl, none-decides n.rules.list p dir is)
      by (Some e) is = elim (is_pass e.1.action) as
          (λ b. is_pass e.1.action ≡ b → MadeSo (cond b (option_map_or (starting n dir p e.0) (rule_at n.rules.list (Some e.0)) ruling.Unmatched)
          (ruling.Blocked e.0))) [
            | true ↦ λ passed. by_rule-so e.0 e.1 (decides n.rules.list p dir e is) passed
            | false ↦ λ blocked. (refl, (e.1, decides n.rules.list p dir e is, blocked))
          ] refl

-- ---- a packet of a state

-- what tracking makes of a packet that passes its tests, or does not
SaysOfTests : Bool → Tracked → Type 0
SaysOfTests passes (Moved t) = passes ≡ true
SaysOfTests passes OutOfWindow = passes ≡ false
SaysOfTests passes Reused = Unit {0}

abbrev passes_all : Kernel → State → Dir → Packet → Bool
passes_all k s dir p = option_map_or passes (tested k s dir p) true

tracked-says : OutcomesFollow → (k : Kernel) (s : State) (p : Packet) (dir : Dir) (now : ℕ)
    → SaysOfTests (passes_all k s dir p) (tracked_by k s p dir now)
unfolding SaysOfTests
tracked-says follow k s p dir now = by (is_tcp p.proto) refl
  where
    gone : Option Branch → Tracked
    gone way = passed s (segment_of k (sender s dir) (receiver s dir) p) p dir now way

    tests : Judgement
    tests = window_test_by k s dir p

    in_way : (way : Option Branch) → SaysOfTests (is_some way) (gone way)
    in_way None = refl
    in_way (Some b) = refl

    unless_again : (again : Bool) (way : Option Branch) → SaysOfTests (is_some way) (cond again Reused (gone way))
    unless_again true way = tt
    unless_again false way = in_way way

    by : (tcp : Bool) → is_tcp p.proto ≡ tcp → SaysOfTests (option_map_or passes (cond tcp (Some tests) None) true) (tracked_by k s p dir now)
    by true is = subst (SaysOfTests (passes tests)) (sym (follow k s p dir now is)) (unless_again (is_request p && is_closed s) (branch_of tests))
    by false is = subst (SaysOfTests true) (sym (ap (λ b. cond b (tracked_tcp_by k s p dir now) (Moved (tracked_other_by k s p dir now))) is)) refl

-- a new connection over a closed one
tracked-reuse : (k : Kernel) (s : State) (p : Packet) (dir : Dir) (now : ℕ) → tracked_by k s p dir now ≡ Reused → IsReuse s p
tracked-reuse k s p dir now =
    by (is_tcp p.proto) (is_request p) (is_closed s) (branch k (segment_of k (sender s dir) (receiver s dir) p) p) _
  where
    gone : Option Branch → Tracked
    gone way = passed s (segment_of k (sender s dir) (receiver s dir) p) p dir now way

    by : (tcp asks closed : Bool) (way : Option Branch) (u : State)
        → cond tcp (cond (asks && closed) Reused (gone way)) (Moved u) ≡ Reused
        → (tcp ≡ true) × (asks ≡ true) × (closed ≡ true)
    by true true true way u is = (refl, refl, refl)
    by true true false None u is = absurd (cc)
    by true true false (Some b) u is = absurd (cc)
    by true false closed None u is = absurd (cc)
    by true false closed (Some b) u is = absurd (cc)
    by false asks closed way u is = absurd (cc)

module _ (n : Node) (dir : Dir) (p : Packet) (s : State) (at : found n.states (key p dir) dir ≡ Some s) where
  found-so : IsSomeAnd (found n.states (key p dir) dir) (λ t. (t.name ≡ s.name) × (tested n.limits.kernel s dir p ≡ tested n.limits.kernel t dir p))
  found-so = some_and (λ (t : State). (t.name ≡ s.name) × (tested n.limits.kernel s dir p ≡ tested n.limits.kernel t dir p))
      (found n.states (key p dir) dir) s at (refl, refl)

  followed-so : (x : Tracked) → tracked_by n.limits.kernel s p dir n.clock ≡ x → Stays s x → SaysOfTests (passes_all n.limits.kernel s dir p) x
      → HandledSo n dir p (by_tracked n dir p s x) (followed n dir p s x)
  unfolding SaysOfTests
  followed-so (Moved t) is stays says = (
    found-so,
    subst (λ b. TestedSo n s.name b (followed n dir p s (Moved t))) (sym says) (ap (λ name. fate.Pass (Some name)) stays.name),
  )
  followed-so OutOfWindow is stays says = (found-so, subst (λ b. TestedSo n s.name b (drop n reason.Window)) (sym says) refl)
  followed-so Reused is stays says =
      let made = judged_reason (deleted n s) dir p in
      some_and (λ (t : State). (t.name ≡ s.name) × IsReuse t p × JudgedSo (deleted n t) dir p made (judged (deleted n s) dir p))
      (found n.states (key p dir) dir) s at (refl, tracked-reuse n.limits.kernel s p dir n.clock is, judged-so (deleted n s) dir p)

pub handled-so : OutcomesFollow → (n : Node) (dir : Dir) (p : Packet) → HandledSo n dir p (packet_reason n dir p) (handled n dir p)
unfolding handled packet_reason
handled-so follow n dir p = by (found n.states (key p dir) dir) refl
  where
    by : (o : Option State) → found n.states (key p dir) dir ≡ o → HandledSo n dir p (by_found n dir p o) (handled_by n dir p o)
    by None at = (at, judged-so n dir p)
    by (Some s) at =
        let k = n.limits.kernel in
        followed-so n dir p s at (tracked_by k s p dir n.clock) refl (tracked_by-stays k s p dir n.clock) (tracked-says follow k s p dir n.clock)
