-- A branch is made or removed, found by the name of the one that it is made of, or by its own.
use Rattle.std.specs.Prelude.{◌≡◌, ℕ, Bool, true, false, nat_le, List, [], ◌∷◌, ◌++◌, length, Option, Some, None, is_some, refl}
use Rattle.std.specs.Map.{values_of, lookup, remove_entry}
use Rattle.std.proofs.Common.{sym, ◌∙◌, ap, subst}
use Rattle.indexmap.specs.IndexMap.{insert_entry}
use Rattle.pfl_language.specs.declared.command.Command.TheVariants as command
use Rattle.pfl_language.specs.declared.refused.Refused.{Refused}
use Rattle.pfl_language.specs.declared.refused.Refused.TheVariants as refused
use Rattle.pfl_language.specs.BranchWords.{same_name}
use Rattle.pfl_search.specs.world.desk.Nodes.{refused_by}
use Rattle.pfl_timeline.specs.Commands.{replied, reply_unless, with_branch, first_events, fork_refusal, fork_reply, drop_reply, command_step}
use Rattle.pfl_timeline.specs.Kept.{opening_of, timeline_of, by_name, AreKept, StandByName}
use Rattle.pfl_timeline.specs.Memory.{IsAccepted}
use Rattle.pfl_timeline.specs.Replies.{Replied, Forked, Removed, Refused as Refusing}
use Rattle.pfl_timeline.specs.Rooted.{Rooted}
use Rattle.pfl_timeline.specs.Timelines.{Branch, Timeline, IsTimeline}
use Rattle.pfl_timeline.proofs.Answering.{fork-asks, drop-asks}
use Rattle.pfl_timeline.proofs.ByName.{Spot, spot, values_are, stand_by, put_last}
use Rattle.pfl_timeline.proofs.Distinct.{no_some, others}
use Rattle.pfl_timeline.proofs.Keeping.{command_keeps, fork_known}
use Rattle.pfl_timeline.proofs.Places.{Entries, asks-at, begins-there, has_branch, longer, kept-longer, shorter, kept-shorter}

-- ---- a fork

-- a branch more, unless there is a reason against it
abbrev with_first : Timeline → ℕ → List ℕ → Branch → Option Refused → Replied
with_first t k name b why = reply_unless t why (replied (record t { branches = t.branches ++ first_events k name b ∷ [] }) Forked)

module _ (from : List ℕ) (es : Entries) (old : Rooted) (t : Timeline) (view : timeline_of (values_of es) ≡ t) (stand : StandByName es)
    (here : Some old ≡ lookup (same_name from) es) (k : ℕ) (name : List ℕ) where
  pub told-why : (why : Refused) → Some why ≡ fork_refusal t k name old.branch → with_branch t from (λ b. fork_reply t k name b) ≡ replied t (Refusing why)
  told-why why is = asks-at from es old t view stand here (λ b. fork_reply t k name b) ∙ ap (with_first t k name old.branch) (sym is)

  -- no reason is against it
  module _ (free : None ≡ fork_refusal t k name old.branch) where
    told-free : with_branch t from (λ b. fork_reply t k name b) ≡ replied (record t { branches = t.branches ++ first_events k name old.branch ∷ [] }) Forked
    told-free = asks-at from es old t view stand here (λ b. fork_reply t k name b) ∙ ap (with_first t k name old.branch) (sym free)

    pub accepted-free : IsAccepted (command_step t (command.Fork from k name))
    accepted-free = subst IsAccepted (sym (fork-asks t from k name ∙ told-free)) refl

    new_name : lookup (same_name name) (by_name (values_of es)) ≡ None
    new_name =
        let known = fork_known t k name old.branch (sym free) in
        no_some (lookup (same_name name) (by_name (values_of es))) (ap (λ fs. is_some (lookup (same_name name) fs)) (sym stand.named)
        ∙ sym (has_branch name es t view stand) ∙ known.0)

    module _ (n : Entries) (new : Rooted) (made : new ≡ record { opening = old.opening; branch = first_events k name old.branch })
        (last : n ≡ insert_entry same_name es name new) where
      longer_by : n ≡ by_name (values_of es ++ new ∷ [])
      longer_by =
          last
          ∙ ap (λ fs. insert_entry same_name fs name new) stand.named
          ∙ put_last name (values_of es) new (ap (λ (r : Rooted). r.branch.name) made) new_name

      values-n : values_of n ≡ values_of es ++ new ∷ []
      values-n = values_are n (values_of es ++ new ∷ []) longer_by

      begins : new.opening ≡ opening_of (values_of es)
      begins = ap (λ (r : Rooted). r.opening) made ∙ begins-there from es old t view stand here ∙ ap (λ (u : Timeline). u.opening) (sym view)

      with_new : timeline_of (values_of n) ≡ record t { branches = t.branches ++ first_events k name old.branch ∷ [] }
      with_new =
          ap timeline_of values-n
          ∙ longer (values_of es) new stand.kept begins
          ∙ ap (λ (u : Timeline). record u { branches = u.branches ++ new.branch ∷ [] }) view
          ∙ ap (λ (r : Rooted). record t { branches = t.branches ++ r.branch ∷ [] }) made

      pub told-forked : with_branch t from (λ b. fork_reply t k name b) ≡ replied (timeline_of (values_of n)) Forked
      told-forked = told-free ∙ ap (λ (u : Timeline). replied u Forked) (sym with_new)

      is_timeline : IsTimeline (timeline_of (values_of n))
      is_timeline =
          subst IsTimeline (ap (λ (r : Replied). r.timeline) (fork-asks t from k name ∙ told-forked))
          (command_keeps t (command.Fork from k name) (subst IsTimeline view stand.kept.timeline))

      pub kept-forked : StandByName n
      kept-forked =
          stand_by n (values_of es ++ new ∷ []) longer_by
          (kept-longer (values_of es) new stand.kept begins (subst (λ (rs : List Rooted). IsTimeline (timeline_of rs)) values-n is_timeline))

-- ---- a drop

-- a branch less, unless it is the last
abbrev without : Timeline → Branch → Bool → Replied
without t b last = reply_unless t (refused_by ((last, refused.LastBranch) ∷ [])) (replied (record t { branches = others b.name t.branches }) Removed)

module _ (name : List ℕ) (es : Entries) (old : Rooted) (t : Timeline) (view : timeline_of (values_of es) ≡ t) (stand : StandByName es)
    (here : Some old ≡ lookup (same_name name) es) where
  asked : with_branch t name (λ b. drop_reply t b) ≡ drop_reply t old.branch
  asked = asks-at name es old t view stand here (λ b. drop_reply t b)

  pub told-last : nat_le (length t.branches) 1 ≡ true → with_branch t name (λ b. drop_reply t b) ≡ replied t (Refusing refused.LastBranch)
  told-last last = asked ∙ ap (without t old.branch) last

  module _ (more : nat_le (length t.branches) 1 ≡ false) (n : Entries) (gone : n ≡ remove_entry (same_name name) es) where
    there : Spot name es old
    there = spot name es old stand here

    whole : values_of es ≡ there.front ++ old ∷ there.rest
    whole = values_are es (there.front ++ old ∷ there.rest) there.whole

    is_t : timeline_of (there.front ++ old ∷ there.rest) ≡ t
    is_t = ap timeline_of (sym whole) ∙ view

    kept_there : AreKept (there.front ++ old ∷ there.rest)
    kept_there = subst AreKept whole stand.kept

    more_there : nat_le (length (timeline_of (there.front ++ old ∷ there.rest)).branches) 1 ≡ false
    more_there = subst (λ (u : Timeline). nat_le (length u.branches) 1 ≡ false) (sym is_t) more

    values-less : values_of n ≡ there.front ++ there.rest
    values-less = values_are n (there.front ++ there.rest) (gone ∙ there.removed)

    without_it : timeline_of (values_of n) ≡ record t { branches = others old.branch.name t.branches }
    without_it =
        ap timeline_of values-less
        ∙ shorter there.front old there.rest kept_there more_there
        ∙ ap (λ (u : Timeline). record u { branches = others old.branch.name u.branches }) is_t

    pub told-dropped : with_branch t name (λ b. drop_reply t b) ≡ replied (timeline_of (values_of n)) Removed
    told-dropped = asked ∙ ap (without t old.branch) more ∙ ap (λ (u : Timeline). replied u Removed) (sym without_it)

    less_is_timeline : IsTimeline (timeline_of (values_of n))
    less_is_timeline =
        subst IsTimeline (ap (λ (r : Replied). r.timeline) (drop-asks t name ∙ told-dropped))
        (command_keeps t (command.Drop name) (subst IsTimeline view stand.kept.timeline))

    pub kept-dropped : StandByName n
    kept-dropped =
        stand_by n (there.front ++ there.rest) (gone ∙ there.removed)
        (kept-shorter there.front old there.rest kept_there more_there (subst (λ (rs : List Rooted). IsTimeline (timeline_of rs)) values-less less_is_timeline))
