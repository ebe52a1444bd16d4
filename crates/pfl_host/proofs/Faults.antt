-- The first fault of sessions that have ended.
use Rattle.std.proofs.Common.{◌≡◌, List, [], ◌∷◌, length, map, refl, inl, inr, arith, Option, Some, None}
use Rattle.std.specs.Prelude.{◌⊎◌, Result}
use Rattle.std.specs.List.{AllByRecursion}
use Rattle.pfl_run.specs.script.declared.engine.Ended.{Ended}
use Rattle.pfl_run.specs.script.declared.fault.EngineFault.{EngineFault}
use Rattle.pfl_run.specs.declared.fault.RunFault.TheVariants as fault
use Rattle.pfl_serve.specs.declared.closing.EndedSeat.{EndedSeat}
use Rattle.pfl_serve.specs.declared.seat.ServeFault.{ServeFault}
use Rattle.pfl_serve.specs.declared.seat.ServeFault.TheVariants as serve
use Rattle.pfl_host.specs.Servers.{of_serve}
use Rattle.pfl_host.specs.Reports.{fault_in, first_of, first_fault}

-- one more has ended
pub first-more : {X : Type 0} (f : X → Result Ended EngineFault) (first : Option EngineFault) (x : X) (left : List X) (all : Option EngineFault) →
    first_of first (first_fault (map f (x ∷ left))) ≡ all → first_of (first_of first (fault_in (f x))) (first_fault (map f left)) ≡ all
first-more f None x left all is = is
first-more f (Some why) x left all is = is

-- all have ended where none is left
pub first-all : {X : Type 0} (f : X → Result Ended EngineFault) (first : Option EngineFault) (left : List X) (all : Option EngineFault) → length left ≡ 0 →
    first_of first (first_fault (map f left)) ≡ all → first ≡ all
first-all f None [] all none is = is
first-all f (Some why) [] all none is = is
first-all f first (x ∷ left) all none is = absurd (omega (arith, none))

-- where each is so, each of the list is
pub all-mapped : {X Y : Type 0} (P : Y → Type 0) (f : X → Y) (xs : List X) → AllByRecursion P (map f xs) → AllByRecursion (λ x. P (f x)) xs
all-mapped P f [] all = tt
all-mapped P f (x ∷ xs) all = (all.0, all-mapped P f xs all.1)

-- why sessions were not served
pub serve_faults : (why : ServeFault) → (of_serve why ≡ fault.NoThread) ⊎ (of_serve why ≡ fault.NoMemory)
serve_faults serve.NoThread = inl refl
serve_faults serve.NoMemory = inr refl

-- one more seat has ended
pub ended_more : {I W : Type 0} (first : Option EngineFault) (x : EndedSeat I W) (left : List (EndedSeat I W)) (all : Option EngineFault)
    → first_of first (first_fault (map (λ s. s.result) (x ∷ left))) ≡ all
    → first_of (first_of first (fault_in x.result)) (first_fault (map (λ s. s.result) left)) ≡ all
ended_more first x left all is = first-more (λ s. s.result) first x left all is

-- all seats have ended where none is left
pub ended_all : {I W : Type 0} (first : Option EngineFault) (left : List (EndedSeat I W)) (all : Option EngineFault) → length left ≡ 0
    → first_of first (first_fault (map (λ s. s.result) left)) ≡ all → first ≡ all
ended_all first left all none is = first-all (λ s. s.result) first left all none is
