-- A packet passes as its tests say, whichever rules are the kernel's; with none of these rules the tests are those of the profile.
use Rattle.std.specs.Prelude.{◌≡◌, ℕ, Bool, true, false, not, ◌&&◌, ◌||◌, Option, Some, None, is_none, refl}
use Rattle.std.specs.Option.{option_map_or}
use Rattle.std.proofs.Common.{cond, ap, ◌∙◌, sym}
use Rattle.pfl_base.specs.declared.kernel.Kernel.{Kernel}
use Rattle.pfl_base.specs.Packets.{is_request, is_tcp}
use Rattle.pfl_base.specs.Sequence.{seq_geq}
use Rattle.pfl_track.specs.declared.edges.AckTest.{AckTest}
use Rattle.pfl_track.specs.declared.judgement.Judgement.{Judgement}
use Rattle.pfl_track.specs.declared.branch.Branch.{Branch}
use Rattle.pfl_track.specs.declared.branch.Branch.TheVariants.{Window, Loose}
use Rattle.pfl_track.specs.declared.segment.Segment.{Segment}
use Rattle.pfl_track.specs.declared.tracked.Tracked.{Tracked}
use Rattle.pfl_track.specs.declared.tracked.Tracked.TheVariants.{Moved, Reused}
use Rattle.pfl_track.specs.Edges.{is_met, tested_by, unless, window_test}
use Rattle.pfl_track.specs.Judging.{branch_of, edges_of, is_met_loosely, judged, loose_test, misses_no_number, near_test, reset_test, window_test_by}
use Rattle.pfl_track.specs.RuleLaws.{JudgementsAgree, NoneTestsByProfile, OutcomesFollow}
use Rattle.pfl_track.specs.Rules.{ahead_of, asks_number, back_of, branch, is_beside, is_in_window, is_inside_by, is_lenient, is_near, is_nearby}
use Rattle.pfl_track.specs.Rules.{loose_back, loose_end, passed, plain, segment_of, tracked_other_by}
use Rattle.pfl_track.specs.Tracking.{is_closed, receiver, sender}
use Rattle.pfl_track.specs.Windows.{acknowledges}
use Rattle.pfl_track.proofs.RuleMoving.{is-profile}

none-unless : (b : Bool) (n : ℕ) → is_none (unless b n) ≡ b
none-unless true n = refl
none-unless false n = refl

acks-agree : (ahead lo : ℕ) (ack : Option ℕ)
    → option_map_or (λ (a : AckTest). is_none a.missed) (option_map_or (λ number. Some (near_test ahead lo number)) ack None) true
    ≡ option_map_or (is_near ahead lo) ack true
acks-agree ahead lo None = refl
acks-agree ahead lo (Some number) = none-unless (is_near ahead lo number) _

three : (a b c x y z : Bool) → a ≡ x → b ≡ y → c ≡ z → (a && b && c) ≡ (x && y && z)
three a b c x y z e f g = cc

edges-met : (g : Segment) → is_met (edges_of g) ≡ is_in_window g
edges-met g = three _ _ _ _ _ _ (none-unless (seq_geq g.sender.hi g.end) _) (none-unless (seq_geq g.seq (back_of g)) _)
    (acks-agree (ahead_of g) g.receiver.lo g.ack)

reset-met : (asked : Bool) (lo number : ℕ) → misses_no_number (cond asked (Some (reset_test lo number)) None) ≡ (not asked || is_beside number lo)
reset-met false lo number = refl
reset-met true lo number = none-unless (is_beside number lo) _

two : (a b x y : Bool) → a ≡ x → b ≡ y → (a && b) ≡ (x && y)
two a b x y e f = cc

loose-met : (asked : Bool) (g : Segment) → is_met_loosely (cond asked (Some (loose_test g)) None) ≡ (asked && is_nearby g)
loose-met false g = refl
loose-met true g = two _ _ _ _ (none-unless (seq_geq (loose_end g) g.end) _) (none-unless (seq_geq g.seq (loose_back g)) _)

abbrev ways : Bool → Bool → Option Branch
ways inside loosely = cond inside (Some Window) (cond loosely (Some Loose) None)

in-order : (inside loose lenient nearby : Bool) → ways inside ((loose && lenient && not inside) && nearby) ≡ ways inside (loose && lenient && nearby)
in-order true loose lenient nearby = refl
in-order false false lenient nearby = refl
in-order false true false nearby = refl
in-order false true true nearby = refl

pub judgements-agree : JudgementsAgree
unfolding judged
judgements-agree kernel g p =
    let asked = kernel.loose && is_lenient g && not (is_inside_by kernel g p) in
    let inside : (is_met (edges_of g) && misses_no_number (cond (asks_number kernel p) (Some (reset_test g.sender.lo p.seq)) None))
    ≡ is_inside_by kernel g p =
    two _ _ _ _ (edges-met g) (reset-met (asks_number kernel p) g.sender.lo p.seq) in
    ap (λ (b : Bool). ways b (is_met_loosely (cond asked (Some (loose_test g)) None))) inside
    ∙ (ap (ways (is_inside_by kernel g p)) (loose-met asked g)
    ∙ in-order (is_inside_by kernel g p) kernel.loose (is_lenient g) (is_nearby g))

pub outcomes-follow : OutcomesFollow
outcomes-follow kernel s p dir now tcp = by-proto (is_tcp p.proto) tcp
  where
    g : Segment
    g = segment_of kernel (sender s dir) (receiver s dir) p

    after : Option Branch → Tracked
    after b = cond (is_request p && is_closed s) Reused (passed s g p dir now b)

    by-proto : (b : Bool) → b ≡ true → cond b (after (branch kernel g p)) (Moved (tracked_other_by kernel s p dir now))
        ≡ after (branch_of (judged kernel g p))
    by-proto true e = ap after (sym (judgements-agree kernel g p))
    by-proto false e = cc

profile-ack : (counts : Bool) (ahead lo number : ℕ) → option_map_or (λ n. Some (near_test ahead lo n)) (cond counts (Some number) None) None
    ≡ cond counts (Some (near_test ahead lo number)) None
profile-ack true ahead lo number = refl
profile-ack false ahead lo number = refl

pub profile-tests : NoneTestsByProfile
unfolding judged tested_by
profile-tests kernel s dir p e =
    let g = plain false (sender s dir) (receiver s dir) p in
    let d = receiver s dir in
    ap (λ (k : Kernel). window_test_by k s dir p) (is-profile kernel e)
    ∙ ap with_ack (profile-ack (acknowledges d p) (ahead_of g) d.lo p.ack)
  where
    with_ack : Option AckTest → Judgement
    with_ack ack = record { eased = false; test = record (window_test s dir p) { ack = ack }; reset = None; loose = None }
