-- A timeout only shrinks where it is scaled.
use Rattle.std.specs.Prelude.{◌≤◌, ◌<◌, ◌≡◌, ℕ, ◌-◌, ◌*◌, ◌/◌, Bool, true, false, not, ◌&&◌, nat_lt, nat_le, refl}
use Rattle.std.proofs.Common.{cond, arith}
use Rattle.std.proofs.Math.Nat.{div-le_of_le-mul, mul-le-mul_left}
use Rattle.std.proofs.lemmas.Bool.Decides.{nat_tests}
use Rattle.pfl_rules.specs.declared.adaptive.Adaptive.{Adaptive}
use Rattle.pfl_rules.specs.Scaling.{scaled}

-- a part of a number, of which there are so many
part-less : (t end start states : ℕ) → start < states → t * (end - states) / (end - start) ≤ t
part-less t end start states less =
    div-le_of_le-mul (end - start)
    (let fewer : end - states ≤ end - start = omega arith in omega (arith, mul-le-mul_left t fewer))

pub scaled-less : (t : ℕ) (a : Adaptive) (states : ℕ) → scaled t a states ≤ t
scaled-less t a states = by (nat_lt a.start states) (nat_lt a.start a.end) (nat_le a.end states) refl
  where
    by : (above shrinks all : Bool) → nat_lt a.start states ≡ above
        → cond (not (above && shrinks)) t (cond all 0 (t * (a.end - states) / (a.end - a.start))) ≤ t
    by false shrinks all is = omega arith
    by true false all is = omega arith
    by true true true is = omega arith
    by true true false is = part-less t a.end a.start states (grind (arith, nat_tests))
