-- A command that has a long word changes nothing: no branch has it as its name, and none is made under it.
use Rattle.std.specs.Prelude.{◌≡◌, ◌≤◌, ℕ, Bool, true, false, not, ◌&&◌, ◌||◌, nat_lt, nat_le, List, [], ◌∷◌, ◌++◌, length, find, Option, Some, None}
use Rattle.std.specs.Prelude.{is_some, IsTrue, refl}
use Rattle.std.specs.List.{AllByRecursion, list_all}
use Rattle.std.specs.Option.{option_map_or}
use Rattle.std.proofs.Common.{cond, ◌∙◌, ap, arith}
use Rattle.std.proofs.lemmas.Bool.{and_parts, both_ways, leb-true, ltb-true}
use Rattle.std.proofs.lemmas.Slice.Eq.{bytes_eq-Decides}
use Rattle.pfl_language.specs.BranchWords.{is_branch_name, is_letter, is_name_byte, same_name}
use Rattle.pfl_language.specs.declared.command.Command.{Command}
use Rattle.pfl_language.specs.declared.command.Command.TheVariants as command
use Rattle.pfl_language.specs.declared.refused.Refused.TheVariants as refused
use Rattle.pfl_timeline.specs.desk.Nodes.{refused_by}
use Rattle.pfl_timeline.specs.world.Worlds.{World}
use Rattle.pfl_timeline.specs.Answers.{answer}
use Rattle.pfl_timeline.specs.Commands.{replied, reply_unless, with_branch, in_place, first_events, fork_reply, drop_reply, command_step}
use Rattle.pfl_timeline.specs.Replies.{Replied, Forked, Refused as Refusing}
use Rattle.pfl_timeline.specs.Timelines.{Branch, Timeline, IsBranch, IsTimeline, branch_of}
use Rattle.pfl_session.specs.inner.Fitting.{is_long, has_long_word}

-- a name is short
short-name : (name : List ℕ) → IsTrue (is_branch_name name) → length name ≤ 16
short-name [] is = omega arith
short-name (c ∷ cs) is = omega (arith, leb-true (length cs) 15 (and_parts (is_letter c && list_all is_name_byte cs) (nat_le (length cs) 15) is).1)

-- so a long word is none
no-name : (name : List ℕ) → IsTrue (is_long name) → is_branch_name name ≡ false
no-name name long =
    elim (is_branch_name name) as (λ t. is_branch_name name ≡ t → t ≡ false) [
      | true ↦ λ is. absurd (omega (arith, short-name name is, ltb-true 16 (length name) long))
      | false ↦ λ _. refl
    ] refl

not-named : (name : List ℕ) (b : Branch) → IsTrue (is_branch_name b.name) → IsTrue (is_long name) → same_name b.name name ≡ false
not-named name b short long =
    elim (same_name b.name name) as (λ t. same_name b.name name ≡ t → t ≡ false) [
      | true ↦ λ is.
          let same = ap (λ (n : List ℕ). length n) ((bytes_eq-Decides b.name name).0 is) in
          absurd (omega (arith, same, short-name b.name short, ltb-true 16 (length name) long))
      | false ↦ λ _. refl
    ] refl

none-named : (opening : World) (name : List ℕ) (bs : List Branch) → IsTrue (is_long name) → AllByRecursion (IsBranch opening) bs
    → find (λ b. same_name b.name name) bs ≡ None
none-named opening name [] long all = refl
none-named opening name (b ∷ bs) long all =
    ap (λ t. cond t (Some b) (find (λ c. same_name c.name name) bs)) (not-named name b all.0.name long) ∙ none-named opening name bs long all.1

-- nothing is done with a branch of that name
unnamed-keeps : (t : Timeline) (name : List ℕ) (done : Branch → Replied) → IsTimeline t → IsTrue (is_long name) → (with_branch t name done).timeline ≡ t
unnamed-keeps t name done is long =
    ap (λ (o : Option Branch). (option_map_or done o (replied t (Refusing refused.NoBranch))).timeline) (none-named t.opening name t.branches long is.branches)

-- none is made under it
bad-name-keeps : (t : Timeline) (k : ℕ) (name : List ℕ) (b : Branch) → IsTrue (is_long name) → (fork_reply t k name b).timeline ≡ t
bad-name-keeps t k name b long =
    let done = λ (taken named : Bool).
    (reply_unless t (refused_by ((taken, refused.NameTaken) ∷ (not named, refused.BadName)
    ∷ (nat_lt (length b.events) k, refused.NothingForward) ∷ (nat_le 16 (length t.branches), refused.BranchesFull) ∷ []))
    (replied (record t { branches = t.branches ++ first_events k name b ∷ [] }) Forked)).timeline in
    elim (is_some (branch_of t name)) as (λ taken. done taken (is_branch_name name) ≡ t) [
      | true ↦ refl
      | false ↦ ap (λ (named : Bool). done false named) (no-name name long)
    ]

fork-keeps : (t : Timeline) (from : List ℕ) (k : ℕ) (name : List ℕ) → IsTimeline t → IsTrue (is_long from || is_long name)
    → (with_branch t from (fork_reply t k name)).timeline ≡ t
fork-keeps t from k name is long =
    elim (is_long from) as (λ far. is_long from ≡ far → IsTrue (far || is_long name) → (with_branch t from (fork_reply t k name)).timeline ≡ t) [
      | true ↦ λ here _. unnamed-keeps t from (fork_reply t k name) is here
      | false ↦ λ _ new.
          elim (branch_of t from) as (λ o. (option_map_or (fork_reply t k name) o (replied t (Refusing refused.NoBranch))).timeline ≡ t) [
            | None ↦ refl
            | Some b ↦ bad-name-keeps t k name b new
          ]
    ] refl long

pub long-word-keeps : (t : Timeline) (c : Command) → IsTimeline t → IsTrue (has_long_word c) → (command_step t c).timeline ≡ t
unfolding command_step
long-word-keeps t (command.On name q) is long = unnamed-keeps t name (λ b. in_place t (answer t.opening b q)) is long
long-word-keeps t (command.Fork from k name) is long = fork-keeps t from k name is long
long-word-keeps t (command.Drop name) is long = unnamed-keeps t name (drop_reply t) is long
long-word-keeps t command.Names is long = absurd (both_ways false refl long)
