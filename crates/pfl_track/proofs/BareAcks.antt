-- By the rule `window` a packet without data is judged by what it acknowledges alone.
use Rattle.std.specs.Prelude.{◌≡◌, ◌≤◌, ◌<◌, ◌*◌, ◌^◌, ℕ, Bool, true, false, ◌&&◌, Option, Some, None, IfSome, unwrap_or, refl}
use Rattle.std.proofs.Common.{arith, cond, ap, ◌∙◌}
use Rattle.std.proofs.Math.Pow.{pow_mono}
use Rattle.std.proofs.lemmas.Bool.Decides.{nat_tests}
use Rattle.std.proofs.lemmas.Nat.{mul-le}
use Rattle.pfl_base.specs.Sequence.{sub32, seq_geq}
use Rattle.pfl_track.specs.declared.peer.Peer.{Peer}
use Rattle.pfl_track.specs.Peers.{IsPeer}
use Rattle.pfl_track.specs.RuleLaws.{BareAcksByAck}
use Rattle.pfl_track.specs.Rules.{back_of, eased, heard, is_acknowledgement, is_empty}
use Rattle.pfl_track.specs.Windows.{at_scale}

scale-small : (o : Option ℕ) → IfSome o (λ s. s ≤ 14) → unwrap_or o 0 ≤ 14
scale-small None h = omega arith
scale-small (Some s) h = h

times-small : (w x : ℕ) → w < 65536 → x ≤ 16384 → w * x ≤ 65535 * 16384
times-small w x h k = mul-le w x 65535 16384 (omega arith) k

window-small : (given : Bool) (d : Peer) → IsPeer d → d.window < 2 ^ 16 → at_scale given d d.window ≤ 65535 * 16384
window-small true d is h = times-small d.window (2 ^ unwrap_or d.scale 0) h (pow_mono (scale-small d.scale is.scale))
window-small false d is h = omega arith

back-small : (lo w : ℕ) → lo < 2 ^ 32 → w ≤ 65535 * 16384 → sub32 lo (sub32 lo w) < 2 ^ 31
back-small lo w h k = omega arith

-- a window back from a number, that number is still ahead by less than half of the circle
back-geq : (lo w : ℕ) → lo < 2 ^ 32 → w ≤ 65535 * 16384 → seq_geq lo (sub32 lo w) ≡ true
back-geq lo w h k = let small = back-small lo w h k in grind (arith, nat_tests)

both : (a b c : Bool) → a ≡ true → b ≡ true → (a && b && c) ≡ c
both true true c e f = refl
both true false c e f = cc
both false b c e f = cc

at-sender : (empty : Bool) (lo number : ℕ) → empty ≡ true → cond empty lo number ≡ lo
at-sender true lo number e = refl
at-sender false lo number e = cc

pub bare-acks : BareAcksByAck
bare-acks scaling s d p is h w empty order =
    let g = eased scaling s d p in
    let from = heard scaling s d p in
    let right : seq_geq from.hi g.end ≡ true = ap (seq_geq from.hi) (at-sender (is_empty p) from.lo _ empty) ∙ order in
    let left : seq_geq g.seq (back_of g) ≡ true =
    ap (λ (n : ℕ). seq_geq n (back_of g)) (at-sender (is_empty p) from.lo _ empty)
    ∙ back-geq from.lo (at_scale g.scaled d d.window) h (window-small g.scaled d is w) in
    both (seq_geq from.hi g.end) (seq_geq g.seq (back_of g)) (is_acknowledgement g) right left
