-- A command leaves every other branch as it was.
use Rattle.std.specs.Prelude.{◌≡◌, ℕ, true, false, ◌&&◌, not, nat_le, List, [], ◌∷◌, ◌++◌, length, map, find, Option, Some, None, IfSome}
use Rattle.std.specs.Prelude.{refl, if◌then◌else◌}
use Rattle.std.specs.Option.{option_map_or}
use Rattle.std.proofs.Common.{cond, sym, ◌∙◌, ap}
use Rattle.std.proofs.lemmas.Slice.Eq.{bytes_eq-Decides}
use Rattle.pfl_edits.proofs.ForCallers.{some_is_none}
use Rattle.pfl_language.specs.declared.ask.Ask.{Ask}
use Rattle.pfl_language.specs.declared.command.Command.TheVariants as command
use Rattle.pfl_language.specs.declared.refused.Refused.{Refused}
use Rattle.pfl_language.specs.declared.refused.Refused.TheVariants as refused
use Rattle.pfl_language.specs.BranchWords.{same_name}
use Rattle.pfl_search.specs.world.desk.Nodes.{refused_by}
use Rattle.pfl_timeline.specs.Answers.{Answer, answer}
use Rattle.pfl_timeline.specs.Commands.{reply_unless, with_changed, in_place, first_events, fork_refusal, fork_reply, drop_reply, command_step}
use Rattle.pfl_timeline.specs.Laws.{CommandsLeaveOthers, changes}
use Rattle.pfl_timeline.specs.Replies.{Replied}
use Rattle.pfl_timeline.specs.Timelines.{Branch, Timeline, branch_of}
use Rattle.pfl_timeline.proofs.Answering.{keeps-name, looks-stay, named}
use Rattle.pfl_timeline.proofs.Distinct.{called, others}

-- ---- a search for another name

-- a branch in place of the one of its name
abbrev put : Branch → Branch → Branch
put b c = if same_name c.name b.name then b else c

-- one of the same name has another name than this, too
apart_too : (b c : Branch) (name : List ℕ) → same_name b.name name ≡ false → same_name c.name b.name ≡ true → same_name c.name name ≡ false
apart_too b c name apart same = ap (λ n. same_name n name) ((bytes_eq-Decides c.name b.name).0 same) ∙ apart

module _ (b : Branch) (name : List ℕ) (apart : same_name b.name name ≡ false) where
  find_put : (bs : List Branch) → find (called name) (map (put b) bs) ≡ find (called name) bs
  find_put [] = refl
  find_put (c ∷ cs) =
      elim (same_name c.name b.name) as (λ t. same_name c.name b.name ≡ t
      → find (called name) ((if t then b else c) ∷ map (put b) cs) ≡ find (called name) (c ∷ cs)) [
        | true ↦ λ same.
            ap (λ t. cond t (Some b) (find (called name) (map (put b) cs))) apart
            ∙ (find_put cs ∙ sym (ap (λ t. cond t (Some c) (find (called name) cs)) (apart_too b c name apart same)))
        | false ↦ λ _. ap (λ (o : Option Branch). cond (same_name c.name name) (Some c) o) (find_put cs)
      ] refl

-- ---- commands

-- the branch that is found has the name
pub has_the_name : (of : List ℕ) (bs : List Branch) (b : Branch) → find (called of) bs ≡ Some b → same_name b.name of ≡ true
has_the_name of [] b is = absurd (some_is_none b (sym is))
has_the_name of (c ∷ cs) b is =
    elim (same_name c.name of) as (λ t. same_name c.name of ≡ t → cond t (Some c) (find (called of) cs) ≡ Some b → same_name b.name of ≡ true) [
      | true ↦ λ has here. let same : c ≡ b = cc in ap (λ (d : Branch). same_name d.name of) (sym same) ∙ has
      | false ↦ λ _ later. has_the_name of cs b later
    ] refl is

abbrev Leaves : Timeline → List ℕ → Replied → Type 0
Leaves t name done = branch_of done.timeline name ≡ branch_of t name

leaves_answered : (t : Timeline) (name : List ℕ) (o : Option Refused) (done : Replied) → Leaves t name done → Leaves t name (reply_unless t o done)
leaves_answered t name None done leaves = leaves
leaves_answered t name (Some why) done leaves = refl

-- a branch of another name in the place of the one of its name
leaves_placed : (t : Timeline) (name : List ℕ) (a : Answer) → IfSome a.changed (λ c. same_name c.name name ≡ false) → Leaves t name (in_place t a)
leaves_placed t name a =
    elim a.changed as (λ o. IfSome o (λ c. same_name c.name name ≡ false) → branch_of (option_map_or (with_changed t) o t) name ≡ branch_of t name) [
      | None ↦ λ _. refl
      | Some c ↦ λ apart. find_put c name apart t.branches
    ]

-- what is asked of a branch of another name, or changes nothing
leaves_asked : (t : Timeline) (of name : List ℕ) (q : Ask) (b : Branch) → same_name b.name of ≡ true → changes q && same_name of name ≡ false
    → Leaves t name (in_place t (answer t.opening b q))
leaves_asked t of name q b has =
    elim (changes q) as (λ t'. changes q ≡ t' → t' && same_name of name ≡ false → Leaves t name (in_place t (answer t.opening b q))) [
      | false ↦ λ looks _. ap (λ (o : Option Branch). branch_of (option_map_or (with_changed t) o t) name) (looks-stay t.opening b q looks)
      | true ↦ λ _ apart.
          let other : same_name b.name name ≡ false = ap (λ n. same_name n name) ((bytes_eq-Decides b.name of).0 has) ∙ apart in
          leaves_placed t name (answer t.opening b q)
          (elim (answer t.opening b q).changed as (λ o. IfSome o (λ c. c.name ≡ b.name) → IfSome o (λ c. same_name c.name name ≡ false)) [
            | None ↦ λ _. tt
            | Some c ↦ λ same. ap (λ n. same_name n name) same ∙ other
          ] (keeps-name t.opening b q))
    ] refl

-- ---- a branch more, or less

-- a branch of another name after all
find_before : (b : Branch) (name : List ℕ) → same_name b.name name ≡ false → (bs : List Branch) → find (called name) (bs ++ b ∷ []) ≡ find (called name) bs
find_before b name apart [] = ap (λ t. cond t (Some b) None) apart
find_before b name apart (c ∷ bs) = ap (λ (o : Option Branch). cond (same_name c.name name) (Some c) o) (find_before b name apart bs)

leaves_fork : (t : Timeline) (k : ℕ) (new name : List ℕ) → same_name new name ≡ false → (b : Branch) → Leaves t name (fork_reply t k new b)
leaves_fork t k new name apart b = leaves_answered t name (fork_refusal t k new b) _ (find_before (first_events k new b) name apart t.branches)

-- those of another name stay where one name goes
find_others : (of name : List ℕ) → same_name of name ≡ false → (bs : List Branch) → find (called name) (others of bs) ≡ find (called name) bs
find_others of name apart [] = refl
find_others of name apart (c ∷ bs) =
    elim (same_name c.name of) as (λ t. same_name c.name of ≡ t
    → find (called name) (cond (not t) (c ∷ others of bs) (others of bs)) ≡ find (called name) (c ∷ bs)) [
      | true ↦ λ has. find_others of name apart bs
          ∙ sym (ap (λ t. cond t (Some c) (find (called name) bs)) (ap (λ n. same_name n name) ((bytes_eq-Decides c.name of).0 has) ∙ apart))
      | false ↦ λ _. ap (λ (o : Option Branch). cond (same_name c.name name) (Some c) o) (find_others of name apart bs)
    ] refl

leaves_drop : (t : Timeline) (of name : List ℕ) → same_name of name ≡ false → (b : Branch) → same_name b.name of ≡ true → Leaves t name (drop_reply t b)
leaves_drop t of name apart b has =
    leaves_answered t name (refused_by ((nat_le (length t.branches) 1, refused.LastBranch) ∷ [])) _
    (find_others b.name name (ap (λ n. same_name n name) ((bytes_eq-Decides b.name of).0 has) ∙ apart) t.branches)

pub others-stay : CommandsLeaveOthers
unfolding command_step
others-stay t (command.On of q) name apart =
    named (Leaves t name) t of (λ b. in_place t (answer t.opening b q)) refl
    (λ b here. leaves_asked t of name q b (has_the_name of t.branches b here) apart)
others-stay t (command.Fork from k new) name apart = named (Leaves t name) t from (fork_reply t k new) refl (λ b _. leaves_fork t k new name apart b)
others-stay t (command.Drop of) name apart =
    named (Leaves t name) t of (drop_reply t) refl (λ b here. leaves_drop t of name apart b (has_the_name of t.branches b here))
others-stay t command.Names name apart = refl
