-- No reply lists more places than its command's branch has events.
use Rattle.std.specs.Prelude.{◌≡◌, ◌≤◌, ◌<◌, ℕ, zero, suc, ◌+◌, Bool, List, [], ◌∷◌, ◌++◌, length, get_or, map, filter, find, drop, not}
use Rattle.std.specs.Prelude.{nat_le, Option, Some, None, refl, if◌then◌else◌}
use Rattle.std.specs.Option.{option_map, option_map_or}
use Rattle.std.proofs.Common.{true, false, cond, sym, ◌∙◌, ap, arith, drop_of_length-le}
use Rattle.pfl_language.specs.declared.command.Command.{Command}
use Rattle.pfl_language.specs.declared.command.Command.TheVariants as command
use Rattle.pfl_language.specs.declared.refused.Refused.{Refused}
use Rattle.pfl_language.specs.declared.refused.Refused.TheVariants as refused
use Rattle.pfl_language.specs.BranchWords.{same_name}
use Rattle.pfl_timeline.specs.desk.Nodes.{refused_by}
use Rattle.pfl_timeline.specs.Answers.{answer}
use Rattle.pfl_timeline.specs.Commands.{replied, reply_unless, in_place, first_events, fork_refusal, fork_reply, drop_reply, command_step}
use Rattle.pfl_timeline.specs.Replies.{Reply, Replied, Forked, Removed, Refused as Refusing}
use Rattle.pfl_timeline.specs.Rooted.{Rooted}
use Rattle.pfl_timeline.specs.Timelines.{Branch, Timeline, branch_of}
use Rattle.pfl_timeline.proofs.ForCallers.{named, within}
use Rattle.pfl_session.specs.Listings.{places_in, takes_out, most_places}
use Rattle.pfl_session.proofs.Answered.{answer-lists}

-- it lists at most n places
abbrev Tells : ℕ → Replied → Type 0
Tells n done = length (places_in done.reply) ≤ n

-- a refusal lists none
unless_refused : (t : Timeline) (o : Option Refused) (done : Replied) → Tells 0 done → Tells 0 (reply_unless t o done)
unless_refused t None done is = is
unless_refused t (Some r) done is = omega arith

tells : (t : Timeline) (c : Command) → Tells (most_places t c) (command_step t c)
unfolding command_step
tells t (command.On name q) =
    elim (branch_of t name) as (λ o. Tells (if takes_out q then option_map_or (λ b. length b.events) o 0 else 0)
    (option_map_or (λ b. in_place t (answer t.opening b q)) o (replied t (Refusing refused.NoBranch)))) [
      | None ↦ omega arith
      | Some b ↦ answer-lists t.opening b q
    ]
tells t (command.Fork from k name) =
    named (Tells 0) t from (fork_reply t k name) (omega arith)
    (λ b _. unless_refused t (fork_refusal t k name b) (replied (record t { branches = t.branches ++ first_events k name b ∷ [] }) Forked) (omega arith))
tells t (command.Drop name) =
    named (Tells 0) t name (drop_reply t) (omega arith)
    (λ b _. unless_refused t (refused_by ((nat_le (length t.branches) 1, refused.LastBranch) ∷ []))
    (replied (record t { branches = filter (λ c. not (same_name c.name b.name)) t.branches }) Removed) (omega arith))
tells t command.Names = omega arith

-- room for the most places is room for those that the reply lists
pub room-is-enough : (t u : Timeline) (c : Command) (r : Reply) (most room : ℕ) → command_step t c ≡ replied u r → most ≡ most_places t c
    → most ≤ room → length (places_in r) ≤ room
room-is-enough t u c r most room is all there =
    let same = ap (λ (d : Replied). length (places_in d.reply)) is in
    omega (arith, same, tells t c, all, there)

-- ---- the branch of the name, sought among the branches with their opening

found_among : (name : List ℕ) (rs : List Rooted)
    → option_map (λ r. r.branch) (find (λ r. same_name r.branch.name name) rs) ≡ find (λ b. same_name b.name name) (map (λ r. r.branch) rs)
found_among name [] = refl
found_among name (r ∷ rs) =
    elim (same_name r.branch.name name) as
    (λ here. option_map (λ x. x.branch) (cond here (Some r) (find (λ x. same_name x.branch.name name) rs))
    ≡ cond here (Some r.branch) (find (λ b. same_name b.name name) (map (λ x. x.branch) rs))) [
      | true ↦ refl
      | false ↦ found_among name rs
    ]

counted_as : (o : Option Rooted) → option_map_or (λ r. length r.branch.events) o 0 ≡ option_map_or (λ b. length b.events) (option_map (λ r. r.branch) o) 0
counted_as None = refl
counted_as (Some r) = refl

-- how many events it has
pub events-found : (t : Timeline) (name : List ℕ) (rs : List Rooted) → map (λ r. r.branch) rs ≡ t.branches
    → option_map_or (λ r. length r.branch.events) (find (λ r. same_name r.branch.name name) rs) 0 ≡ option_map_or (λ b. length b.events) (branch_of t name) 0
events-found t name rs are =
    counted_as (find (λ r. same_name r.branch.name name) rs)
    ∙ ap (λ (o : Option Branch). option_map_or (λ b. length b.events) o 0) (found_among name rs
    ∙ ap (λ (bs : List Branch). find (λ b. same_name b.name name) bs) are)

-- it is the one at place i, where it is none before
pub found-here : (p : Rooted → Bool) (rs : List Rooted) (i : ℕ) (r : Rooted) → r ≡ get_or rs i r → i < length rs → p r ≡ true → find p (drop i rs) ≡ Some r
found-here p [] i r is within here = absurd (omega (arith, within))
found-here p (x ∷ rs) zero r is within here = ap (λ t. cond t (Some x) (find p rs)) (ap p (sym is) ∙ here) ∙ ap Some (sym is)
found-here p (x ∷ rs) (suc i) r is within here = found-here p rs i r is (omega (arith, within)) here

further_on : (p : Rooted → Bool) (rs : List Rooted) (i : ℕ) (r : Rooted) → r ≡ get_or rs i r → i < length rs → p r ≡ false
    → find p (drop (suc i) rs) ≡ find p (drop i rs)
further_on p [] i r is within fails = absurd (omega (arith, within))
further_on p (x ∷ rs) zero r is within fails = sym (ap (λ t. cond t (Some x) (find p rs)) (ap p (sym is) ∙ fails))
further_on p (x ∷ rs) (suc i) r is within fails = further_on p rs i r is (omega (arith, within)) fails

-- ... or it is further on
pub found-later : (p : Rooted → Bool) (rs : List Rooted) (i : ℕ) (r : Rooted) → r ≡ get_or rs i r → i < length rs → p r ≡ false
    → find p (drop (i + 1) rs) ≡ find p (drop i rs)
found-later p rs i r is within fails =
    let next : i + 1 ≡ suc i = omega arith in
    ap (λ n. find p (drop n rs)) next ∙ further_on p rs i r is within fails

-- ... or there is none
pub found-never : (p : Rooted → Bool) (rs : List Rooted) (i : ℕ) → length rs ≤ i → find p (drop i rs) ≡ None
found-never p rs i all = ap (find p) (drop_of_length-le rs all)
