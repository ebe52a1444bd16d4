-- Each branch shows the run of the events before its cursor.
use Rattle.std.specs.Prelude.{◌≡◌, ℕ, false, List, [], ◌∷◌, length, map, find, Option, Some, None, is_some, IsTrue, refl}
use Rattle.std.specs.List.{AllByRecursion, IsDistinct}
use Rattle.std.specs.Option.{option_map_or}
use Rattle.std.proofs.Common.{cond, sym, ◌∙◌, ap}
use Rattle.std.proofs.lemmas.Slice.Eq.{bytes_eq-Decides}
use Rattle.pfl_language.specs.declared.ask.Ask.TheVariants as ask
use Rattle.pfl_language.specs.declared.command.Command.{Command}
use Rattle.pfl_language.specs.BranchWords.{same_name}
use Rattle.pfl_search.specs.world.Runs.{run}
use Rattle.pfl_search.specs.world.Worlds.{World}
use Rattle.pfl_timeline.specs.Answers.{Answer, answer}
use Rattle.pfl_timeline.specs.Commands.{with_changed, in_place, show_command, log_command, command_step}
use Rattle.pfl_timeline.specs.Commands.{replayed}
use Rattle.pfl_timeline.specs.Laws.{ShowsItsRun, BranchesShowTheirRuns}
use Rattle.pfl_timeline.specs.Replies.{Replied, Shown, Logged}
use Rattle.pfl_timeline.specs.Timelines.{Branch, Timeline, IsTimeline, new_timeline, standing, world_of}
use Rattle.pfl_timeline.proofs.Answering.{asked-there, show-is}
use Rattle.pfl_timeline.proofs.Keeping.{commands-keep, branches-show}
use Rattle.pfl_timeline.proofs.NewTimelines.{new_timeline-is}
use Rattle.pfl_timeline.proofs.Replying.{each-command}

-- ---- no command changes the opening

abbrev Begins : Timeline → Replied → Type 0
Begins t done = done.timeline.opening ≡ t.opening

begins_placed : (t : Timeline) (a : Answer) → Begins t (in_place t a)
begins_placed t a = elim a.changed as (λ o. (option_map_or (with_changed t) o t).opening ≡ t.opening) [ None ↦ refl | Some b ↦ refl ]

opening_kept : (t : Timeline) (c : Command) → Begins t (command_step t c)
opening_kept t = each-command (Begins t) t (record {
  refused = λ _. refl;
  answered = λ _ b q _. begins_placed t (answer t.opening b q);
  forked = λ _ _ _ _ _. refl;
  dropped = λ _. refl;
  names = refl;
})

opening_stays : (t : Timeline) (cs : List Command) → (replayed t cs).opening ≡ t.opening
unfolding replayed
opening_stays t [] = refl
opening_stays t (c ∷ cs) = opening_stays (command_step t c).timeline cs ∙ opening_kept t c

-- ---- each branch is the one of its name

abbrev named_in : List Branch → Branch → Type 0
named_in bs b = find (λ c. same_name c.name b.name) bs ≡ Some b

-- in front stands a branch of another name
named_behind : (b : Branch) (bs cs : List Branch) → AllByRecursion (λ n. same_name b.name n ≡ false) (map (λ c. c.name) cs)
    → AllByRecursion (named_in bs) cs → AllByRecursion (named_in (b ∷ bs)) cs
named_behind b bs [] apart all = tt
named_behind b bs (c ∷ cs) apart all =
    (ap (λ t. cond t (Some b) (find (λ d. same_name d.name c.name) bs)) apart.0 ∙ all.0, named_behind b bs cs apart.1 all.1)

each_named : (bs : List Branch) → IsDistinct same_name (map (λ b. b.name) bs) → AllByRecursion (named_in bs) bs
unfolding IsDistinct
each_named [] distinct = tt
each_named (b ∷ bs) distinct = (
  ap (λ t. cond t (Some b) (find (λ c. same_name c.name b.name) bs))
      ((bytes_eq-Decides b.name b.name).1 refl),
  named_behind b bs bs distinct.0 (each_named bs distinct.1),
)

-- ---- what each shows

pub the_world : (o : Option World) → IsTrue (is_some o) → (w : World) × (o ≡ Some w)
the_world None is = absurd cc
the_world (Some w) is = (w, refl)

told_shown : (t : Timeline) (b : Branch) (w : World) → named_in t.branches b → run t.opening (standing b) ≡ Some w
    → (show_command t b.name).reply ≡ Shown b.name (length b.events) b.cursor w
told_shown t b w there here =
    ap (λ (r : Replied). r.reply) (asked-there t b.name b ask.Show there) ∙ ap (λ (a : Answer). a.reply) (show-is t.opening b w here)

told_logged : (t : Timeline) (b : Branch) → named_in t.branches b → (log_command t b.name).reply ≡ Logged b.name b.events b.cursor
unfolding answer
told_logged t b there = ap (λ (r : Replied). r.reply) (asked-there t b.name b ask.Log there)

shows_run : (opening : World) (t : Timeline) (b : Branch) → t.opening ≡ opening → named_in t.branches b → IsTrue (is_some (world_of t b))
    → ShowsItsRun opening t b
unfolding world_of
shows_run opening t b begins named is =
    let w : (w : World) × (world_of t b ≡ Some w) = the_world (world_of t b) is in
    record {
      world = w.0;
      runs = ap (λ (o : World). run o (standing b)) (sym begins) ∙ w.1;
      shown = told_shown t b w.0 named w.1;
      logged = told_logged t b named;
    }

all_show : (opening : World) (t : Timeline) (bs : List Branch) → t.opening ≡ opening → AllByRecursion (named_in t.branches) bs
    → AllByRecursion (λ b. IsTrue (is_some (world_of t b))) bs → AllByRecursion (ShowsItsRun opening t) bs
all_show opening t [] begins named is = tt
all_show opening t (b ∷ bs) begins named is = (shows_run opening t b begins named.0 is.0, all_show opening t bs begins named.1 is.1)

pub branches-show-runs : BranchesShowTheirRuns
branches-show-runs opening cs world =
    let t = replayed (new_timeline opening) cs in
    let is : IsTimeline t = commands-keep (new_timeline opening) cs (new_timeline-is opening world) in
    all_show opening t t.branches (opening_stays (new_timeline opening) cs) (each_named t.branches is.names) (branches-show t is)
