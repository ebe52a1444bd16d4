-- Where memory was wanting for an answer.
use Rattle.std.proofs.Common.{ℕ, List, Some, None, Ok, Err, Result, ◌∙◌, ap, sym}
use Rattle.std.specs.Prelude.{◌≡◌, true, is_some, IsTrue, IfErr, refl}
use Rattle.std.specs.Option.{option_map_or}
use Rattle.std.proofs.lemmas.Bool.{both_ways}
use Rattle.pfl_language.specs.declared.refused.Refused.{Refused}
use Rattle.pfl_language.specs.declared.refused.Refused.TheVariants as refused
use Rattle.pfl_timeline.specs.Replies.{Reply, Refused as Refusing}
use Rattle.pfl_timeline.specs.Searches.{Finding, Sought, finding, finding_on, Refused as NotSought}
use Rattle.pfl_timeline.specs.Sizes.{is_listing}
use Rattle.pfl_timeline.specs.Timelines.{Timeline, branch_of}
use Rattle.pfl_script.specs.declared.fault.EngineFault.{EngineFault}
use Rattle.pfl_script.specs.declared.fault.EngineFault.TheVariants.{NoMemory}
use Rattle.pfl_script.specs.inner.Answers.{is_run}

-- what is true anyway is true where memory was wanting
pub where-none : {X : Type 0} (P : Type 0) (r : Result X EngineFault) → P → IfErr r (λ e. e ≡ NoMemory → P)
where-none P (Ok x) is = tt
where-none P (Err e) is = λ _. is

-- no memory is wanted for a refusal
pub refusal-wants-none : {X : Type 0} (P : Type 0) (r : Result X EngineFault) (reply : Reply) (why : Refused) → reply ≡ Refusing why
    → IfErr r (λ e. e ≡ NoMemory → is_listing reply ≡ true) → IfErr r (λ e. e ≡ NoMemory → P)
refusal-wants-none P (Ok x) reply why is wants = tt
refusal-wants-none P (Err e) reply why is wants = λ none. absurd (both_ways (is_listing reply) (ap is_listing is) (wants none))

-- a run is found from a branch that is there
pub run-there : (t : Timeline) (name : List ℕ) (s : Sought) (f : Finding) → f ≡ finding t name s → is_run f ≡ true → IsTrue (is_some (branch_of t name))
run-there t name s f is run =
    elim (branch_of t name) as (λ o. is_run (option_map_or (finding_on t s) o (NotSought refused.NoBranch)) ≡ true → IsTrue (is_some o)) [
      | None ↦ λ none. none
      | Some b ↦ λ _. refl
    ] (sym (ap is_run is) ∙ run)
