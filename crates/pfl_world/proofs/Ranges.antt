-- Limits without a fault are limits.
use Rattle.std.specs.Prelude.{◌≡◌, ◌≤◌, ℕ, Bool, true, false, ◌||◌, nat_lt, List, [], ◌∷◌, Option, Some, None, refl, if◌then◌else◌}
use Rattle.std.specs.List.{list_any, AllByRecursion}
use Rattle.std.specs.Option.{option_map}
use Rattle.std.proofs.Common.{arith}
use Rattle.std.proofs.lemmas.Bool.Decides.{nat_tests}
use Rattle.pfl_edits.proofs.ForCallers.{some_is_none}
use Rattle.pfl_language.specs.declared.limits.Limits.{Limits}
use Rattle.pfl_language.specs.declared.limits.LimitFault.TheVariants as limit
use Rattle.pfl_language.specs.Limits.{AreLimits, ranges}
use Rattle.pfl_world.specs.declared.fault.WorldFault.{WorldFault}
use Rattle.pfl_world.specs.declared.fault.WorldFault.TheVariants.{TooSmall, TooLarge}
use Rattle.pfl_world.specs.Worlds.{from_limits, world_fault}

both : (a b : Bool) → (a || b) ≡ false → (a ≡ false) × (b ≡ false)
both true b e = cc
both false b e = (refl, e)

not_below : (x y : ℕ) → nat_lt x y ≡ false → y ≤ x
not_below x y e = grind (arith, nat_tests)

all_within : (rs : List (ℕ × ℕ × ℕ)) → list_any (λ r. nat_lt r.0 r.1) rs ≡ false → list_any (λ r. nat_lt r.2 r.0) rs ≡ false
    → AllByRecursion (λ r. (r.1 ≤ r.0) × (r.0 ≤ r.2)) rs
all_within [] low high = tt
all_within (r ∷ rs) low high =
    let small = both (nat_lt r.0 r.1) (list_any (λ r. nat_lt r.0 r.1) rs) low in
    let large = both (nat_lt r.2 r.0) (list_any (λ r. nat_lt r.2 r.0) rs) high in
    ((not_below r.0 r.1 small.0, not_below r.2 r.0 large.0), all_within rs small.1 large.1)

abbrev fault_by : Bool → Bool → Option WorldFault
fault_by small large = option_map from_limits (if small then Some limit.TooSmall else if large then Some limit.TooLarge else None)

neither : (small large : Bool) → fault_by small large ≡ None → (small ≡ false) × (large ≡ false)
neither true large e = absurd (some_is_none TooSmall e)
neither false true e = absurd (some_is_none TooLarge e)
neither false false e = (refl, refl)

pub faultless : (l : Limits) → world_fault l ≡ None → AreLimits l
faultless l none =
    let is = neither (list_any (λ r. nat_lt r.0 r.1) (ranges l)) (list_any (λ r. nat_lt r.2 r.0) (ranges l)) none in
    all_within (ranges l) is.0 is.1
