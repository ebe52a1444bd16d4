-- An event taken out of the middle, described by the list without it.
use Rattle.std.specs.Prelude.{◌≡◌, ℕ, ◌-◌, ◌≤◌, Bool, ◌&&◌, nat_le, length, true, false, not, List, [], ◌∷◌, map, find, take, drop, Option, Some}
use Rattle.std.specs.Prelude.{None, is_some, IsTrue, refl, if◌then◌else◌}
use Rattle.std.specs.Option.{option_map, option_map_or}
use Rattle.std.proofs.Common.{cond, sym, ◌∙◌, ap, subst}
use Rattle.std.proofs.lemmas.Bool.{leb-true}
use Rattle.std.proofs.lemmas.Slice.Eq.{bytes_eq-Decides}
use Rattle.pfl_edits.proofs.ForCallers.{some_is_none}
use Rattle.pfl_language.specs.declared.event.Event.{Event}
use Rattle.pfl_language.specs.declared.ask.Ask.TheVariants as ask
use Rattle.pfl_language.specs.declared.command.Command.TheVariants as command
use Rattle.pfl_language.specs.BranchWords.{same_name}
use Rattle.pfl_search.specs.world.Runs.{run}
use Rattle.pfl_search.specs.world.Worlds.{World}
use Rattle.pfl_timeline.specs.Answers.{answer}
use Rattle.pfl_timeline.specs.Commands.{replied, with_changed, in_place, command_step, replayed}
use Rattle.pfl_timeline.specs.Excisions.{placed, without, has_event, excised, fallen_places}
use Rattle.pfl_timeline.specs.Laws.{ExcisionsAreRunsWithout, ExcisionsLeaveStanding, ExcisionsReportTheRefused, NothingElseFallsOut}
use Rattle.pfl_timeline.specs.Laws.{RestorationsTakeBack, accepted_events, refused_behind, events_of}
use Rattle.pfl_timeline.specs.Replies.{Replied, Excised, Restored}
use Rattle.pfl_timeline.specs.Timelines.{Branch, Timeline, branch_of, standing}
use Rattle.pfl_timeline.proofs.Answering.{asked-there, excise-is}
use Rattle.pfl_timeline.proofs.Distinct.{called}
use Rattle.pfl_timeline.proofs.Others.{has_the_name}
use Rattle.pfl_timeline.proofs.Parting.{sieve-standing, sieve-refused}
use Rattle.pfl_timeline.proofs.Sieving.{places_in, events_without, sieve-accepted, sieve-keeps}

-- ---- the branch of the name after a change

abbrev put : Branch → Branch → Branch
put b c = if same_name c.name b.name then b else c

-- the changed branch is found in the place of the one that was
find_changed : (name : List ℕ) (new : Branch) (bs : List Branch) (b : Branch) → new.name ≡ b.name → find (called name) bs ≡ Some b
    → find (called name) (map (put new) bs) ≡ Some new
find_changed name new [] b same is = absurd (some_is_none b (sym is))
find_changed name new (c ∷ cs) b same is =
    elim (same_name c.name name) as (λ t. same_name c.name name ≡ t → cond t (Some c) (find (called name) cs) ≡ Some b
    → find (called name) (put new c ∷ map (put new) cs) ≡ Some new) [
      | true ↦ λ has here.
          let it : c ≡ b = cc in
          let of_new : same_name c.name new.name ≡ true = (bytes_eq-Decides c.name new.name).1 (ap (λ (d : Branch). d.name) it ∙ sym same) in
          let named : same_name new.name name ≡ true = ap (λ (n : List ℕ). same_name n name) (same ∙ sym (ap (λ (d : Branch). d.name) it)) ∙ has in
          ap (λ t. find (called name) (cond t new c ∷ map (put new) cs)) of_new
          ∙ ap (λ t. cond t (Some new) (find (called name) (map (put new) cs))) named
      | false ↦ λ hasnt later.
          let named : same_name new.name name ≡ true = ap (λ (n : List ℕ). same_name n name) same ∙ has_the_name name cs b later in
          (elim (same_name c.name new.name) as (λ t. same_name c.name new.name ≡ t → find (called name) (cond t new c ∷ map (put new) cs) ≡ Some new) [
            | true ↦ λ alike. absurd (let both : false ≡ true = sym hasnt
                ∙ ap (λ (n : List ℕ). same_name n name) ((bytes_eq-Decides c.name new.name).0 alike) ∙ named in cc)
            | false ↦ λ _. ap (λ t. cond t (Some c) (find (called name) (map (put new) cs))) hasnt ∙ find_changed name new cs b same later
          ]) refl
    ] refl is

pub changed_there : (t : Timeline) (name : List ℕ) (b new : Branch) → branch_of t name ≡ Some b → new.name ≡ b.name
    → branch_of (with_changed t new) name ≡ Some new
changed_there t name b new here same = find_changed name new t.branches b same here

-- ---- what the commands give

-- places count from 1
some_event : (a c : Bool) (k : ℕ) → nat_le 1 k ≡ a → IsTrue (a && c) → 1 ≤ k
some_event true c k is has = leb-true 1 k is
some_event false c k is has = absurd cc

module _ (t : Timeline) (name : List ℕ) (k : ℕ) (b : Branch) (here : branch_of t name ≡ Some b) (has : IsTrue (has_event k b)) where
  abbrev new : Branch
  new = excised t.opening k b

  taken_out : command_step t (command.On name (ask.Excise k)) ≡ replied (with_changed t new) (Excised (fallen_places t.opening k b))
  taken_out = asked-there t name b (ask.Excise k) here ∙ ap (in_place t) (excise-is t.opening b k has)

  new_there : branch_of (with_changed t new) name ≡ Some new
  new_there = changed_there t name b new here refl

  pub what-is-left : events_of (command_step t (command.On name (ask.Excise k))).timeline name ≡ Some (accepted_events t.opening (without k b.events))
  what-is-left =
      ap (λ (r : Replied). events_of r.timeline name) taken_out
      ∙ ap (λ (o : Option Branch). option_map (λ c. c.events) o) new_there
      ∙ ap Some (sieve-accepted t.opening (without k (placed b.events)) ∙ ap (accepted_events t.opening) (events_without k b.events))

  pub what-stands : option_map standing (branch_of (command_step t (command.On name (ask.Excise k))).timeline name)
      ≡ Some (accepted_events t.opening (without k (standing b)))
  what-stands =
      ap (λ (r : Replied). option_map standing (branch_of r.timeline name)) taken_out
      ∙ ap (λ (o : Option Branch). option_map standing o) new_there
      ∙ ap Some (sieve-standing t.opening k b.cursor b.events (some_event (nat_le 1 k) (nat_le k (length b.events)) k refl has))

  pub what-is-told : (w : World) → run t.opening (take (k - 1) b.events) ≡ Some w
      → (command_step t (command.On name (ask.Excise k))).reply ≡ Excised (refused_behind k w (drop k b.events))
  what-is-told w here_w = ap (λ (r : Replied). r.reply) taken_out ∙ ap Excised (sieve-refused t.opening k b.events w here_w)

  pub none-falls : IsTrue (is_some (run t.opening (without k b.events))) → (command_step t (command.On name (ask.Excise k))).reply ≡ Excised []
  none-falls runs =
      let all = sieve-keeps t.opening (without k (placed b.events))
      (subst (λ (es : List Event). IsTrue (is_some (run t.opening es))) (sym (events_without k b.events)) runs) in
      ap (λ (r : Replied). r.reply) taken_out ∙ ap (λ ps. Excised (places_in ps)) all.fallen

  brought_back : command_step (with_changed t new) (command.On name ask.Restore)
      ≡ replied (with_changed (with_changed t new) (record b { former = None })) (Restored b.cursor)
  unfolding answer
  brought_back = asked-there (with_changed t new) name new ask.Restore new_there

  pub back-again : branch_of (replayed t (command.On name (ask.Excise k) ∷ command.On name ask.Restore ∷ [])) name ≡ Some (record b { former = None })
  unfolding replayed
  back-again =
      ap (λ (r : Replied). branch_of (command_step r.timeline (command.On name ask.Restore)).timeline name) taken_out
      ∙ ap (λ (r : Replied). branch_of r.timeline name) brought_back
      ∙ changed_there (with_changed t new) name new (record b { former = None }) new_there refl

pub excisions-are-runs : ExcisionsAreRunsWithout
excisions-are-runs = what-is-left

pub excisions-leave-standing : ExcisionsLeaveStanding
excisions-leave-standing = what-stands

pub excisions-tell-refused : ExcisionsReportTheRefused
excisions-tell-refused t name k b w here has runs = what-is-told t name k b here has w runs

pub nothing-else-falls : NothingElseFallsOut
nothing-else-falls = none-falls

pub restorations-take-back : RestorationsTakeBack
restorations-take-back = back-again
