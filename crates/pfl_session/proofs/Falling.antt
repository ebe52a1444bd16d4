-- What is left of a branch without one of its events, and what falls out of it, are no more than it had.
use Rattle.std.specs.Prelude.{◌≡◌, ◌≤◌, ℕ, suc, ◌+◌, ◌-◌, List, [], ◌∷◌, length, take, drop, fold, Ok, Err, refl}
use Rattle.std.proofs.Common.{ap, arith, length-append, length-take, length-drop}
use Rattle.std.proofs.lemmas.List.{length-map}
use Rattle.pfl_language.specs.declared.event.Event.{Event}
use Rattle.pfl_timeline.specs.world.Events.{step}
use Rattle.pfl_timeline.specs.world.Worlds.{World}
use Rattle.pfl_timeline.specs.Excisions.{Placed, placed_behind, placed, without, Sieved, sifted, sift, sieve, sieved_without, excised, fallen_places}
use Rattle.pfl_timeline.specs.Timelines.{Branch}

-- each event is kept, or falls out
sifted-length : (s : Sieved) (ps : List Placed) → length (fold sift s ps).kept + length (fold sift s ps).fallen ≡ length s.kept + length s.fallen + length ps
sifted-length s [] = omega arith
sifted-length s (p ∷ ps) =
    elim (step s.world p.event) as (λ r. length (fold sift (sifted s p r) ps).kept + length (fold sift (sifted s p r) ps).fallen
    ≡ length s.kept + length s.fallen + length (p ∷ ps)) [
      | Ok new ↦ (let rest = sifted-length (sifted s p (Ok new)) ps in omega (arith, rest, length-append s.kept (p ∷ [])))
      | Err why ↦ (let rest = sifted-length (sifted s p (Err why)) ps in omega (arith, rest, length-append s.fallen (p ∷ [])))
    ]

placed-length : (n : ℕ) (es : List Event) → length (placed_behind n es) ≡ length es
placed-length n [] = refl
placed-length n (e ∷ es) = ap suc (placed-length (n + 1) es)

without-length : {X : Type 0} (k : ℕ) (xs : List X) → length (without k xs) ≤ length xs
without-length k xs = omega (arith, length-append (take (k - 1) xs) (drop k xs), length-take (k - 1) xs, length-drop k xs)

parts-length : (opening : World) (k : ℕ) (b : Branch) → length (sieved_without opening k b).kept + length (sieved_without opening k b).fallen ≤ length b.events
unfolding sieve
parts-length opening k b =
    let all = sifted-length (record { world = opening; kept = []; fallen = [] }) (without k (placed b.events)) in
    omega (arith, all, without-length k (placed b.events), placed-length 0 b.events)

pub left-few : (opening : World) (k : ℕ) (b : Branch) → length (excised opening k b).events ≤ length b.events
left-few opening k b = omega (arith, parts-length opening k b, length-map (sieved_without opening k b).kept (λ (p : Placed). p.event))

pub fallen-few : (opening : World) (k : ℕ) (b : Branch) → length (fallen_places opening k b) ≤ length b.events
fallen-few opening k b = omega (arith, parts-length opening k b, length-map (sieved_without opening k b).fallen (λ (p : Placed). p.place))
