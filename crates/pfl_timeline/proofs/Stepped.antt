-- Events that are stepped one after another.
use Rattle.std.specs.Prelude.{◌≡◌, ◌+◌, List, [], ◌∷◌, ◌++◌, length, take, Option, Some, None, is_some, IsTrue, Result, refl}
use Rattle.std.specs.Option.{option_map_or}
use Rattle.std.proofs.Common.{sym, ◌∙◌, ap, subst, le_refl, length-append, append_assoc, append-nil, take_all}
use Rattle.pfl_base.specs.declared.refusal.Refusal.{Refusal}
use Rattle.pfl_language.specs.declared.event.Event.{Event}
use Rattle.pfl_language.specs.declared.ask.Ask.TheVariants as ask
use Rattle.pfl_language.specs.declared.command.Command.TheVariants as command
use Rattle.pfl_language.specs.BranchWords.{main_name}
use Rattle.pfl_search.specs.world.Events.{step}
use Rattle.pfl_search.specs.world.Meanings.{Stepped}
use Rattle.pfl_search.specs.world.Runs.{run}
use Rattle.pfl_search.specs.world.Worlds.{World}
use Rattle.pfl_timeline.specs.Answers.{Answer, step_answer}
use Rattle.pfl_timeline.specs.Commands.{in_place, show_command, command_step, replayed}
use Rattle.pfl_timeline.specs.Laws.{StepsAreRuns, steps, all_stand}
use Rattle.pfl_timeline.specs.Replies.{Replied, Shown}
use Rattle.pfl_timeline.specs.Timelines.{Branch, Timeline, new_timeline, standing}
use Rattle.pfl_timeline.proofs.Answering.{asked-there, show-is, step-is}
use Rattle.pfl_timeline.proofs.Prefixes.{run-front, Accepted, last_accepted}

abbrev main_with : List Event → Branch
main_with es = record { name = main_name; events = es; cursor = length es; former = None }

-- all of its events stand
whole : (es : List Event) → take (length es) es ≡ es
whole es = take_all (length es) es (le_refl (length es))

shows : (w v : World) (es : List Event) → run w es ≡ Some v → run w (standing (main_with es)) ≡ Some v
shows w v es is = ap (run w) (whole es) ∙ is

-- one step
one_more : (w : World) (es : List Event) (e : Event) → Accepted w es e
    → (command_step (all_stand w es) (command.On main_name (ask.Step e))).timeline ≡ all_stand w (es ++ e ∷ [])
one_more w es e k =
    let t = all_stand w es in
    let b = main_with es in
    ap (λ (r : Replied). r.timeline) (asked-there t main_name b (ask.Step e) refl)
    ∙ ap (λ (a : Answer). (in_place t a).timeline) (step-is w b k.before (shows w k.before es k.here) e)
    ∙ ap (λ (r : Result Stepped Refusal). (in_place t (step_answer b e r)).timeline) k.stepped
    ∙ ap (λ (fs : List Event). record {
      opening = w;
      branches = record { name = main_name; events = fs ++ e ∷ []; cursor = length es + 1; former = None } ∷ [];
    }) (whole es)
    ∙ ap (λ n. record { opening = w; branches = record { name = main_name; events = es ++ e ∷ []; cursor = n; former = None } ∷ [] })
    (sym (length-append es (e ∷ [])))

-- the other steps after these
all_more : (w : World) (es rest : List Event) → IsTrue (is_some (run w (es ++ rest))) → replayed (all_stand w es) (steps rest) ≡ all_stand w (es ++ rest)
unfolding replayed
all_more w es [] is = ap (all_stand w) (sym (append-nil es))
all_more w es (e ∷ rest) is =
    let moved : (es ++ e ∷ []) ++ rest ≡ es ++ e ∷ rest = append_assoc es (e ∷ []) rest in
    let all : IsTrue (is_some (run w ((es ++ e ∷ []) ++ rest))) = subst (λ (fs : List Event). IsTrue (is_some (run w fs))) (sym moved) is in
    ap (λ (t : Timeline). replayed t (steps rest)) (one_more w es e (last_accepted w es e (run-front w (es ++ e ∷ []) rest all)))
    ∙ all_more w (es ++ e ∷ []) rest all
    ∙ ap (all_stand w) moved

shown_whole : (opening w : World) (es : List Event) → run opening es ≡ Some w
    → (show_command (all_stand opening es) main_name).reply ≡ Shown main_name (length es) (length es) w
shown_whole opening w es is =
    let t = all_stand opening es in
    let b = main_with es in
    ap (λ (r : Replied). r.reply) (asked-there t main_name b ask.Show refl)
    ∙ ap (λ (a : Answer). a.reply) (show-is opening b w (shows opening w es is))

pub steps-run : StepsAreRuns
steps-run opening es w is =
    let stepped : replayed (new_timeline opening) (steps es) ≡ all_stand opening es =
    all_more opening [] es (subst (λ (o : Option World). IsTrue (is_some o)) (sym is) refl) in
    record {
      timeline = stepped;
      shown = ap (λ (t : Timeline). (show_command t main_name).reply) stepped ∙ shown_whole opening w es is;
    }
