-- Every command leaves a timeline a timeline, and each branch shows a world.
use Rattle.std.specs.Prelude.{◌≡◌, ◌≤◌, ℕ, ◌+◌, ◌-◌, ◌++◌, Bool, true, false, not, nat_lt, nat_le, List, [], ◌∷◌, length, map, find, take, drop}
use Rattle.std.specs.Prelude.{Option, Some, None, is_some, IsTrue, IfSome, Ok, Err, refl, if◌then◌else◌}
use Rattle.std.specs.List.{AllByRecursion, IsDistinct}
use Rattle.std.specs.Option.{option_and_then, option_map_or}
use Rattle.std.proofs.Common.{cond, sym, ◌∙◌, ap, subst, arith, length-append, length-take-le}
use Rattle.std.proofs.lemmas.Bool.{ltb-false, leb-false}
use Rattle.std.proofs.lemmas.List.{length-map, take-append-drop}
use Rattle.std.proofs.lemmas.Slice.Eq.{bytes_eq-Decides}
use Rattle.pfl_base.proofs.ForCallers.{each-weaker}
use Rattle.pfl_edits.proofs.ForCallers.{some_is_none}
use Rattle.pfl_language.specs.declared.event.Event.{Event}
use Rattle.pfl_language.specs.declared.ask.Ask.{Ask}
use Rattle.pfl_language.specs.declared.command.Command.{Command}
use Rattle.pfl_language.specs.declared.command.Command.TheVariants as command
use Rattle.pfl_language.specs.declared.refused.Refused.{Refused}
use Rattle.pfl_language.specs.declared.refused.Refused.TheVariants as refused
use Rattle.pfl_language.specs.BranchWords.{is_branch_name, same_name}
use Rattle.pfl_search.specs.world.desk.Nodes.{refused_by}
use Rattle.pfl_search.specs.world.Events.{step}
use Rattle.pfl_search.specs.world.Meanings.{Stepped}
use Rattle.pfl_search.specs.world.Runs.{run, world_after}
use Rattle.pfl_search.specs.world.Worlds.{World}
use Rattle.pfl_timeline.specs.Answers.{Answer, extended, undone, answer}
use Rattle.pfl_timeline.specs.Commands.{replied, reply_unless, with_branch, with_changed, in_place, first_events, fork_refusal, fork_reply, drop_reply}
use Rattle.pfl_timeline.specs.Commands.{command_step, replayed}
use Rattle.pfl_timeline.specs.Excisions.{has_event, excised, fallen_places, restored}
use Rattle.pfl_timeline.specs.Laws.{CommandsKeepTimelines, BranchesShowWorlds}
use Rattle.pfl_timeline.specs.Replies.{Replied, Forked, Removed, Shown, Excised, Restored, Refused as Refusing}
use Rattle.pfl_timeline.specs.Timelines.{Former, Branch, Timeline, IsFormer, IsBranch, IsTimeline, branch_of, standing, world_of}
use Rattle.pfl_timeline.proofs.Answering.{each}
use Rattle.pfl_timeline.proofs.Distinct.{all_behind, distinct_behind, no_some, others, all_others, distinct_others, one_less}
use Rattle.pfl_timeline.proofs.Prefixes.{run-front}
use Rattle.pfl_timeline.proofs.Runs.{run-last}
use Rattle.pfl_timeline.proofs.Sieving.{excised-is}

-- ---- branches

-- what holds of all branches holds of the one that is found
pub found_is : (P : Branch → Type 0) (p : Branch → Bool) (bs : List Branch) (b : Branch) → AllByRecursion P bs → find p bs ≡ Some b → P b
found_is P p [] b all is = absurd (some_is_none b (sym is))
found_is P p (c ∷ cs) b all is =
    elim (p c) as (λ t. cond t (Some c) (find p cs) ≡ Some b → P b) [
      | true ↦ λ here. let same : c ≡ b = cc in subst P same all.0
      | false ↦ λ later. found_is P p cs b all.1 later
    ] is

-- a branch in place of the one of its name
abbrev put : Branch → Branch → Branch
put b c = if same_name c.name b.name then b else c

name_kept : (b c : Branch) → (put b c).name ≡ c.name
name_kept b c =
    elim (same_name c.name b.name) as (λ t. same_name c.name b.name ≡ t → (if t then b else c).name ≡ c.name) [
      | true ↦ λ is. sym ((bytes_eq-Decides c.name b.name).0 is)
      | false ↦ λ is. refl
    ] refl

names_kept : (b : Branch) (bs : List Branch) → map (λ c. c.name) (map (put b) bs) ≡ map (λ c. c.name) bs
names_kept b [] = refl
names_kept b (c ∷ cs) = ap (λ n. n ∷ map (λ d. d.name) (map (put b) cs)) (name_kept b c) ∙ ap (λ ns. c.name ∷ ns) (names_kept b cs)

pub all_put : (P : Branch → Type 0) (b : Branch) (bs : List Branch) → P b → AllByRecursion P bs → AllByRecursion P (map (put b) bs)
all_put P b [] is all = tt
all_put P b (c ∷ cs) is all =
    let here : P (put b c) = elim (same_name c.name b.name) as (λ t. P (if t then b else c)) [ true ↦ is | false ↦ all.0 ] in
    (here, all_put P b cs is all.1)

-- a timeline with another branch in the place of the one of its name
keeps : (t : Timeline) (b : Branch) → IsTimeline t → IsBranch t.opening b → IsTimeline (with_changed t b)
keeps t b is branch = record {
  opening = is.opening;
  some = omega (arith, is.some, length-map t.branches (put b));
  few = omega (arith, is.few, length-map t.branches (put b));
  names = subst (IsDistinct same_name) (sym (names_kept b t.branches)) is.names;
  branches = all_put (IsBranch t.opening) b t.branches branch is.branches;
}

-- ---- what a branch becomes

-- a branch with an accepted event more
longer : (opening : World) (b : Branch) → IsBranch opening b → (e : Event) (w : World) (s : Stepped) → run opening (standing b) ≡ Some w → step w e ≡ Ok s
    → IsBranch opening (extended b e)
longer opening b branch e w s here stepped =
    let ends : run opening (standing b ++ e ∷ []) ≡ Some s.world =
    run-last opening (standing b) e ∙ ap (λ (o : Option World). option_and_then (λ v. world_after (step v e)) o) here ∙ ap world_after stepped in
    record {
      name = branch.name;
      within = omega (arith, length-append (standing b) (e ∷ []), length-take-le b.cursor b.events branch.within);
      runs = subst (λ (o : Option World). IsTrue (is_some o)) (sym ends) refl;
      former = tt;
    }

-- fewer events of a branch stand
shorter : (opening : World) (b : Branch) → IsBranch opening b → (n : ℕ) → IsBranch opening (record b { cursor = b.cursor - n })
shorter opening b branch n = record { name = branch.name; within = omega (arith, branch.within); runs = branch.runs; former = branch.former }

-- more events of a branch stand
further : (opening : World) (b : Branch) → IsBranch opening b → (n : ℕ) → nat_lt (undone b) n ≡ false → IsBranch opening (record b { cursor = b.cursor + n })
further opening b branch n near =
    record { name = branch.name; within = omega (arith, branch.within, ltb-false (undone b) n near); runs = branch.runs; former = branch.former }

-- what was there before the newest excision
as_before : (opening : World) (b : Branch) → IsBranch opening b → (f : Former) → b.former ≡ Some f → IsBranch opening (restored b f)
as_before opening b branch f there =
    let former : IsFormer opening f = subst (λ (o : Option Former). IfSome o (IsFormer opening)) there branch.former in
    record { name = branch.name; within = former.within; runs = former.runs; former = tt }

-- a branch becomes a branch
pub answers-keep : (opening : World) (b : Branch) → IsBranch opening b → (q : Ask) → IfSome (answer opening b q).changed (IsBranch opening)
answers-keep opening b branch = each (λ a. IfSome a.changed (IsBranch opening)) opening b (record {
  said = λ _. tt;
  stepped = longer opening b branch;
  back = λ n _. shorter opening b branch n;
  forward = further opening b branch;
  excised = λ k _. excised-is opening k b branch;
  restored = as_before opening b branch;
})

-- with it in its place a timeline is one
placed_keeps : (t : Timeline) (a : Answer) → IsTimeline t → IfSome a.changed (IsBranch t.opening) → IsTimeline (in_place t a).timeline
placed_keeps t a is =
    elim a.changed as (λ o. IfSome o (IsBranch t.opening) → IsTimeline (option_map_or (with_changed t) o t)) [
      | None ↦ λ _. is
      | Some b ↦ keeps t b is
    ]

-- ---- a branch more, and a branch less

-- no test refuses
pub none_refused : (a b c d : Bool)
    → refused_by ((a, refused.NameTaken) ∷ (b, refused.BadName) ∷ (c, refused.NothingForward) ∷ (d, refused.BranchesFull) ∷ []) ≡ None
    → (a ≡ false) × (b ≡ false) × (c ≡ false) × (d ≡ false)
none_refused true b c d is = absurd cc
none_refused false true c d is = absurd cc
none_refused false false true d is = absurd cc
none_refused false false false true is = absurd cc
none_refused false false false false is = (refl, refl, refl, refl)

-- the first test that holds says why
abbrev first_of : Bool → Bool → Bool → Bool → Option Refused
first_of a b c d = refused_by ((a, refused.NameTaken) ∷ (b, refused.BadName) ∷ (c, refused.NothingForward) ∷ (d, refused.BranchesFull) ∷ [])

module _ (t : Timeline) (k : ℕ) (name : List ℕ) (b : Branch) where
  abbrev taken : Bool
  taken = is_some (branch_of t name)

  abbrev bad : Bool
  bad = not (is_branch_name name)

  abbrev far : Bool
  far = nat_lt (length b.events) k

  abbrev full : Bool
  full = nat_le 16 (length t.branches)

  pub is_taken : taken ≡ true → Some refused.NameTaken ≡ fork_refusal t k name b
  is_taken one = sym (ap (λ x. first_of x bad far full) one)

  pub is_bad : taken ≡ false → bad ≡ true → Some refused.BadName ≡ fork_refusal t k name b
  is_bad one two = sym (ap (λ x. first_of x bad far full) one ∙ ap (λ x. first_of false x far full) two)

  pub is_far : taken ≡ false → bad ≡ false → far ≡ true → Some refused.NothingForward ≡ fork_refusal t k name b
  is_far one two three = sym (ap (λ x. first_of x bad far full) one ∙ ap (λ x. first_of false x far full) two ∙ ap (λ x. first_of false false x full) three)

  pub is_full : taken ≡ false → bad ≡ false → far ≡ false → full ≡ true → Some refused.BranchesFull ≡ fork_refusal t k name b
  is_full one two three four =
      sym (ap (λ x. first_of x bad far full) one ∙ ap (λ x. first_of false x far full) two ∙ ap (λ x. first_of false false x full) three
      ∙ ap (λ x. first_of false false false x) four)

  pub is_free : taken ≡ false → bad ≡ false → far ≡ false → full ≡ false → None ≡ fork_refusal t k name b
  is_free one two three four =
      sym (ap (λ x. first_of x bad far full) one ∙ ap (λ x. first_of false x far full) two ∙ ap (λ x. first_of false false x full) three
      ∙ ap (λ x. first_of false false false x) four)

-- what a fork that is not refused knows
pub fork_known : (t : Timeline) (k : ℕ) (name : List ℕ) (b : Branch) → fork_refusal t k name b ≡ None
    → (is_some (branch_of t name) ≡ false) × (not (is_branch_name name) ≡ false) × (nat_lt (length b.events) k ≡ false)
    × (nat_le 16 (length t.branches) ≡ false)
fork_known t k name b is = none_refused (is_some (branch_of t name)) (not (is_branch_name name)) (nat_lt (length b.events) k) (nat_le 16 (length t.branches)) is

-- a name that is not none
pub is_one : (b : Bool) → not b ≡ false → IsTrue b
is_one true is = refl
is_one false is = absurd cc

-- the first events of a branch
first_is : (t : Timeline) (k : ℕ) (name : List ℕ) (b : Branch) → IsBranch t.opening b → IsTrue (is_branch_name name) → k ≤ length b.events
    → IsBranch t.opening (first_events k name b)
first_is t k name b branch named within = record {
  name = named;
  within = omega (arith, length-take-le k b.events within);
  runs = run-front t.opening (take k b.events) (drop k b.events)
      (subst (λ (es : List Event). IsTrue (is_some (run t.opening es))) (sym (take-append-drop k b.events)) branch.runs);
  former = tt;
}

-- a branch more
fork_keeps : (t : Timeline) (k : ℕ) (name : List ℕ) (b : Branch) → IsTimeline t → IsBranch t.opening b → IsTimeline (fork_reply t k name b).timeline
fork_keeps t k name b is branch =
    let new = first_events k name b in
    elim (fork_refusal t k name b) as (λ o. fork_refusal t k name b ≡ o
    → IsTimeline (reply_unless t o (replied (record t { branches = t.branches ++ new ∷ [] }) Forked)).timeline) [
      | Some why ↦ λ _. is
      | None ↦ λ free.
          let known = fork_known t k name b free in
          record {
            opening = is.opening;
            some = omega (arith, length-append t.branches (new ∷ []));
            few = omega (arith, length-append t.branches (new ∷ []), leb-false 16 (length t.branches) known.3);
            names = distinct_behind new t.branches (no_some (branch_of t name) known.0) is.names;
            branches = all_behind (IsBranch t.opening) t.branches new is.branches
                (first_is t k name b branch (is_one (is_branch_name name) known.1) (ltb-false (length b.events) k known.2));
          }
    ] refl

-- a branch less
drop_keeps : (t : Timeline) (name : List ℕ) (b : Branch) → IsTimeline t → branch_of t name ≡ Some b → IsTimeline (drop_reply t b).timeline
drop_keeps t name b is here =
    elim (nat_le (length t.branches) 1) as (λ last. nat_le (length t.branches) 1 ≡ last
    → IsTimeline (reply_unless t (refused_by ((last, refused.LastBranch) ∷ []))
    (replied (record t { branches = others b.name t.branches }) Removed)).timeline) [
      | true ↦ λ _. is
      | false ↦ λ more.
          let left = one_less (λ c. same_name c.name name) t.branches b here is.names in
          record {
            opening = is.opening;
            some = omega (arith, left, leb-false (length t.branches) 1 more);
            few = omega (arith, left, is.few);
            names = distinct_others b.name t.branches is.names;
            branches = all_others b.name (IsBranch t.opening) t.branches is.branches;
          }
    ] refl

-- ---- commands

-- the branch of a name
abbrev Finds : Timeline → List ℕ → Branch → Type 0
Finds t name b = branch_of t name ≡ Some b

named_keeps : (t : Timeline) (name : List ℕ) (done : Branch → Replied) → IsTimeline t
    → ((b : Branch) → Finds t name b → IsBranch t.opening b → IsTimeline (done b).timeline) → IsTimeline (with_branch t name done).timeline
named_keeps t name done is keep =
    elim (branch_of t name) as (λ o. branch_of t name ≡ o → IsTimeline (option_map_or done o (replied t (Refusing refused.NoBranch))).timeline) [
      | None ↦ λ _. is
      | Some b ↦ λ here. keep b here (found_is (IsBranch t.opening) (λ c. same_name c.name name) t.branches b is.branches here)
    ] refl

pub command_keeps : (t : Timeline) (c : Command) → IsTimeline t → IsTimeline (command_step t c).timeline
unfolding command_step
command_keeps t (command.On name q) is =
    named_keeps t name (λ b. in_place t (answer t.opening b q)) is
    (λ b _ branch. placed_keeps t (answer t.opening b q) is (answers-keep t.opening b branch q))
command_keeps t (command.Fork from k name) is = named_keeps t from (fork_reply t k name) is (λ b _ branch. fork_keeps t k name b is branch)
command_keeps t (command.Drop name) is = named_keeps t name (drop_reply t) is (λ b here _. drop_keeps t name b is here)
command_keeps t command.Names is = is

pub commands-keep : CommandsKeepTimelines
unfolding replayed
commands-keep t [] is = is
commands-keep t (c ∷ cs) is = commands-keep (command_step t c).timeline cs (command_keeps t c is)

-- ---- worlds

shows_world : (t : Timeline) (b : Branch) → IsBranch t.opening b → IsTrue (is_some (world_of t b))
unfolding world_of
shows_world t b branch =
    run-front t.opening (take b.cursor b.events) (drop b.cursor b.events)
    (subst (λ (es : List Event). IsTrue (is_some (run t.opening es))) (sym (take-append-drop b.cursor b.events)) branch.runs)

pub branches-show : BranchesShowWorlds
branches-show t is = each-weaker (IsBranch t.opening) (λ b. IsTrue (is_some (world_of t b))) (shows_world t) t.branches is.branches
