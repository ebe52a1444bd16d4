-- Runs of first events.
use Rattle.std.specs.Prelude.{◌≡◌, List, [], ◌∷◌, ◌++◌, fold, Option, Some, None, is_some, IsTrue, Result, Ok, Err, refl}
use Rattle.std.specs.Option.{option_and_then}
use Rattle.std.proofs.Common.{◌∙◌, ap, subst}
use Rattle.std.proofs.lemmas.List.Sums.{fold-append}
use Rattle.pfl_base.specs.declared.refusal.Refusal.{Refusal}
use Rattle.pfl_language.specs.declared.event.Event.{Event}
use Rattle.pfl_search.specs.world.Events.{step}
use Rattle.pfl_search.specs.world.Meanings.{Stepped}
use Rattle.pfl_search.specs.world.Runs.{run, world_after}
use Rattle.pfl_search.specs.world.Worlds.{World}
use Rattle.pfl_timeline.proofs.Runs.{run-last}

-- an event more, where the events before it have a world
abbrev pub go_on : Option World → Event → Option World
go_on at e = option_and_then (λ v. world_after (step v e)) at

-- a refused event has no world after it
pub never_again : (es : List Event) → fold go_on None es ≡ None
never_again [] = refl
never_again (e ∷ es) = never_again es

-- where a run goes on, it had a world
had_world : (at : Option World) (es : List Event) → IsTrue (is_some (fold go_on at es)) → IsTrue (is_some at)
had_world None es is = subst (λ (o : Option World). IsTrue (is_some o)) (never_again es) is
had_world (Some w) es is = refl

-- first events of a run have a run
pub run-front : (w : World) (es fs : List Event) → IsTrue (is_some (run w (es ++ fs))) → IsTrue (is_some (run w es))
unfolding run
run-front w es fs is = had_world (fold go_on (Some w) es) fs (subst (λ (o : Option World). IsTrue (is_some o)) (fold-append go_on (Some w) es fs) is)

-- what an accepted event gave
pub record Accepted (w : World) (es : List Event) (e : Event) : Type 0 where
  pub before : World
  pub here : run w es ≡ Some before
  pub gives : Stepped
  pub stepped : step before e ≡ Ok gives

the_world : (o : Option World) → IsTrue (is_some o) → (v : World) × (o ≡ Some v)
the_world None is = absurd cc
the_world (Some v) is = (v, refl)

the_step : (r : Result Stepped Refusal) → IsTrue (is_some (world_after r)) → (s : Stepped) × (r ≡ Ok s)
the_step (Ok s) is = (s, refl)
the_step (Err why) is = absurd cc

pub last_accepted : (w : World) (es : List Event) (e : Event) → IsTrue (is_some (run w (es ++ e ∷ []))) → Accepted w es e
last_accepted w es e is =
    let before : (v : World) × (run w es ≡ Some v) = the_world (run w es) (run-front w es (e ∷ []) is) in
    let ends : run w (es ++ e ∷ []) ≡ world_after (step before.0 e) =
    run-last w es e ∙ ap (λ (o : Option World). option_and_then (λ v. world_after (step v e)) o) before.1 in
    let gives : (s : Stepped) × (step before.0 e ≡ Ok s) = the_step (step before.0 e) (subst (λ (o : Option World). IsTrue (is_some o)) ends is) in
    record { before = before.0; here = before.1; gives = gives.0; stepped = gives.1 }
