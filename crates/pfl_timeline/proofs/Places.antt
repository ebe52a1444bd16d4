-- A branch that a map finds by its name, and the timeline with another one in its place, with one more and with one less.
use Rattle.std.specs.Prelude.{◌≡◌, ℕ, suc, ◌≤◌, false, nat_le, List, [], ◌∷◌, ◌++◌, length, map, Option, Some, None, is_some, IfSome, refl, if◌then◌else◌}
use Rattle.std.specs.List.{AllByRecursion, IsDistinct}
use Rattle.std.specs.Map.{values_of, lookup, set_value}
use Rattle.std.specs.Option.{option_map, option_map_or}
use Rattle.std.proofs.Common.{sym, ◌∙◌, ap, subst, arith, length-append}
use Rattle.std.proofs.lemmas.Bool.{leb-false}
use Rattle.std.proofs.lemmas.List.{length-map, map-append}
use Rattle.std.proofs.lemmas.Map.Entries.{length-values_of}
use Rattle.pfl_language.specs.declared.ask.Ask.{Ask}
use Rattle.pfl_language.specs.declared.command.Command.TheVariants as command
use Rattle.pfl_language.specs.declared.refused.Refused.TheVariants as refused
use Rattle.pfl_language.specs.BranchWords.{main_name, same_name}
use Rattle.pfl_search.specs.world.Worlds.{World, IsWorld}
use Rattle.pfl_timeline.specs.Answers.{answer}
use Rattle.pfl_timeline.specs.Commands.{replied, with_branch, with_changed, in_place, command_step}
use Rattle.pfl_timeline.specs.inner.Answering.{Gave}
use Rattle.pfl_timeline.specs.Kept.{opening_of, timeline_of, AreKept, StandByName}
use Rattle.pfl_timeline.specs.Replies.{Reply, Replied, Refused as Refusing}
use Rattle.pfl_timeline.specs.Rooted.{Rooted}
use Rattle.pfl_timeline.proofs.Answering.{asked-there, asked-none, keeps-name}
use Rattle.pfl_timeline.specs.Timelines.{Branch, Timeline, IsBranch, IsTimeline, branch_of}
use Rattle.pfl_timeline.proofs.ByName.{Spot, spot, branches_of, found_by, values_are, stand_by}
use Rattle.pfl_timeline.proofs.Distinct.{itself, differ, all_behind, others, one_goes}
use Rattle.pfl_timeline.proofs.NewTimelines.{new_timeline-is}

abbrev names_of : List Rooted → List (List ℕ)
names_of rs = map (λ b. b.name) (branches_of rs)

-- branches under their names, as a map keeps them
abbrev pub Entries : Type 0
Entries = List (List ℕ × Rooted)

-- ---- another branch in its place

all_with : {X : Type 0} (P : X → Type 0) (xs : List X) (x y : X) (ys : List X) → P y → AllByRecursion P (xs ++ x ∷ ys) → AllByRecursion P (xs ++ y ∷ ys)
all_with P [] x y ys is all = (is, all.1)
all_with P (z ∷ xs) x y ys is all = (all.0, all_with P xs x y ys is all.1)

all_at : {X : Type 0} (P : X → Type 0) (xs : List X) (x : X) (ys : List X) → AllByRecursion P (xs ++ x ∷ ys) → P x
all_at P [] x ys all = all.0
all_at P (z ∷ xs) x ys all = all_at P xs x ys all.1

module _ (r s : Rooted) (rest : List Rooted) where
  opening_with : (front : List Rooted) → s.opening ≡ r.opening → opening_of (front ++ s ∷ rest) ≡ opening_of (front ++ r ∷ rest)
  opening_with [] same = same
  opening_with (x ∷ front) same = refl

  names_with : (front : List Rooted) → s.branch.name ≡ r.branch.name → names_of (front ++ s ∷ rest) ≡ names_of (front ++ r ∷ rest)
  names_with [] same = ap (λ n. n ∷ names_of rest) same
  names_with (x ∷ front) same = ap (λ ns. x.branch.name ∷ ns) (names_with front same)

  length_with : (front : List Rooted) → length (branches_of (front ++ s ∷ rest)) ≡ length (branches_of (front ++ r ∷ rest))
  length_with [] = refl
  length_with (x ∷ front) = ap suc (length_with front)

  branches_with : (front : List Rooted) (P : Branch → Type 0) → P s.branch → AllByRecursion P (branches_of (front ++ r ∷ rest))
      → AllByRecursion P (branches_of (front ++ s ∷ rest))
  branches_with [] P is all = (is, all.1)
  branches_with (x ∷ front) P is all = (all.0, branches_with front P is all.1)

-- a branch in place of the one of its name
abbrev put : Branch → Branch → Branch
put b c = if same_name c.name b.name then b else c

-- others stay
stays : (b : Branch) (rs : List Rooted) → AllByRecursion (λ n. same_name b.name n ≡ false) (names_of rs) → map (put b) (branches_of rs) ≡ branches_of rs
stays b [] apart = refl
stays b (r ∷ rs) apart =
    ap (λ t. (if t then b else r.branch) ∷ map (put b) (branches_of rs)) (differ b.name r.branch.name apart.0)
    ∙ ap (λ bs. r.branch ∷ bs) (stays b rs apart.1)

name_at : (P : List ℕ → Type 0) (front : List Rooted) (r : Rooted) (rest : List Rooted) → AllByRecursion P (names_of (front ++ r ∷ rest)) → P r.branch.name
name_at P [] r rest all = all.0
name_at P (x ∷ front) r rest all = name_at P front r rest all.1

-- in a list of distinct names one branch is changed by its name
changed : (front : List Rooted) (r s : Rooted) (rest : List Rooted) → s.branch.name ≡ r.branch.name
    → IsDistinct same_name (names_of (front ++ r ∷ rest)) → map (put s.branch) (branches_of (front ++ r ∷ rest)) ≡ branches_of (front ++ s ∷ rest)
unfolding IsDistinct
changed [] r s rest same apart =
    ap (λ t. (if t then s.branch else r.branch) ∷ map (put s.branch) (branches_of rest)) (ap (same_name r.branch.name) same ∙ itself r.branch.name)
    ∙ ap (λ bs. s.branch ∷ bs) (stays s.branch rest (subst (λ m. AllByRecursion (λ n. same_name m n ≡ false) (names_of rest)) (sym same) apart.0))
changed (x ∷ front) r s rest same apart =
    ap (λ t. (if t then s.branch else x.branch) ∷ map (put s.branch) (branches_of (front ++ r ∷ rest))) (ap (same_name x.branch.name) same
    ∙ name_at (λ n. same_name x.branch.name n ≡ false) front r rest apart.0)
    ∙ ap (λ bs. x.branch ∷ bs) (changed front r s rest same apart.1)

module _ (front : List Rooted) (r s : Rooted) (rest : List Rooted) (opening : s.opening ≡ r.opening) (name : s.branch.name ≡ r.branch.name)
    (kept : AreKept (front ++ r ∷ rest)) where
  -- the timeline with the new branch in the place of the old one
  pub with_new : with_changed (timeline_of (front ++ r ∷ rest)) s.branch ≡ timeline_of (front ++ s ∷ rest)
  with_new =
      ap (λ bs. record { opening = opening_of (front ++ r ∷ rest); branches = bs }) (changed front r s rest name kept.timeline.names)
      ∙ ap (λ (o : World). record { opening = o; branches = branches_of (front ++ s ∷ rest) }) (sym (opening_with r s rest front opening))

  one_opening : opening_of (front ++ r ∷ rest) ≡ s.opening
  one_opening = sym (opening ∙ all_at (λ (x : Rooted). x.opening ≡ opening_of (front ++ r ∷ rest)) front r rest kept.one_opening)

  -- what is true of all branches stays true
  pub still_kept : IsBranch s.opening s.branch → AreKept (front ++ s ∷ rest)
  still_kept is =
      let o = opening_with r s rest front opening in
      let t = kept.timeline in
      record {
        one_opening = subst (λ (w : World). AllByRecursion (λ (x : Rooted). x.opening ≡ w) (front ++ s ∷ rest)) (sym o)
            (all_with (λ (x : Rooted). x.opening ≡ opening_of (front ++ r ∷ rest)) front r s rest (sym one_opening) kept.one_opening);
        timeline = record {
          opening = subst IsWorld (sym o) t.opening;
          some = omega (arith, t.some, length_with r s rest front);
          few = omega (arith, t.few, length_with r s rest front);
          names = subst (IsDistinct same_name) (sym (names_with r s rest front name)) t.names;
          branches = subst (λ (w : World). AllByRecursion (IsBranch w) (branches_of (front ++ s ∷ rest))) (sym o)
              (branches_with r s rest front (IsBranch (opening_of (front ++ r ∷ rest)))
              (subst (λ (w : World). IsBranch w s.branch) (sym one_opening) is) t.branches);
        };
      }

-- ---- what a map finds by a name

-- whether a branch has the name
pub has_branch : (name : List ℕ) (es : Entries) (t : Timeline) → timeline_of (values_of es) ≡ t → StandByName es
    → is_some (branch_of t name) ≡ is_some (lookup (same_name name) es)
has_branch name es t view stand =
    ap (λ (u : Timeline). is_some (branch_of u name)) (sym view)
    ∙ ap is_some (found_by name es (lookup (same_name name) es) stand refl)
    ∙ (elim (lookup (same_name name) es) as (λ (o : Option Rooted). is_some (option_map (λ (r : Rooted). r.branch) o) ≡ is_some o) [
      | None ↦ refl
      | Some r ↦ refl
    ])

-- how many branches there are
pub how_many : (es : Entries) (t : Timeline) → timeline_of (values_of es) ≡ t → length t.branches ≡ length es
how_many es t view = ap (λ (u : Timeline). length u.branches) (sym view) ∙ length-map (values_of es) (λ (r : Rooted). r.branch) ∙ length-values_of es

-- no branch has the name
pub none-at : (name : List ℕ) (es : Entries) (t : Timeline) → timeline_of (values_of es) ≡ t → StandByName es
    → None ≡ lookup (same_name name) es → branch_of t name ≡ None
none-at name es t view stand none = ap (λ (u : Timeline). branch_of u name) (sym view) ∙ found_by name es None stand none

-- what is done with it
pub told-none : (name : List ℕ) (es : Entries) (t : Timeline) → timeline_of (values_of es) ≡ t → StandByName es
    → None ≡ lookup (same_name name) es → (done : Branch → Replied) → with_branch t name done ≡ replied t (Refusing refused.NoBranch)
told-none name es t view stand none done =
    ap (λ (b : Option Branch). option_map_or done b (replied t (Refusing refused.NoBranch))) (none-at name es t view stand none)

-- what is asked of it, where nothing is written
pub asked-still : (name : List ℕ) (es n : Entries) (t : Timeline) → timeline_of (values_of es) ≡ t → StandByName es
    → None ≡ lookup (same_name name) es → n ≡ es → (q : Ask)
    → command_step t (command.On name q) ≡ replied (timeline_of (values_of n)) (Refusing refused.NoBranch)
asked-still name es n t view stand none same q =
    asked-none t name q (none-at name es t view stand none)
    ∙ ap (λ (u : Timeline). replied u (Refusing refused.NoBranch)) (sym (ap (λ (fs : Entries). timeline_of (values_of fs)) same ∙ view))

-- What is asked of a name that a branch has: that branch replies.
module _ (name : List ℕ) (es : Entries) (old : Rooted) (t : Timeline) (view : timeline_of (values_of es) ≡ t) (stand : StandByName es)
    (here : Some old ≡ lookup (same_name name) es) where
  at : Spot name es old
  at = spot name es old stand here

  whole : values_of es ≡ at.front ++ old ∷ at.rest
  whole = values_are es (at.front ++ old ∷ at.rest) at.whole

  kept_at : AreKept (at.front ++ old ∷ at.rest)
  kept_at = subst AreKept whole stand.kept

  is_t : t ≡ timeline_of (at.front ++ old ∷ at.rest)
  is_t = sym view ∙ ap timeline_of whole

  -- the timeline has it
  pub found : branch_of t name ≡ Some old.branch
  found = ap (λ (u : Timeline). branch_of u name) is_t ∙ at.found

  -- it begins where all begin
  pub begins-there : old.opening ≡ t.opening
  begins-there =
      sym (one_opening at.front old old at.rest refl refl kept_at) ∙ ap (λ (u : Timeline). u.opening) (sym is_t)

  -- it replies, whatever it does to the timeline
  pub asks-at : (done : Branch → Replied) → with_branch t name done ≡ done old.branch
  asks-at done = ap (λ (b : Option Branch). option_map_or done b (replied t (Refusing refused.NoBranch))) found

  -- what it answers is answered
  pub asked-at : (q : Ask) → command_step t (command.On name q) ≡ in_place t (answer old.opening old.branch q)
  asked-at q = asked-there t name old.branch q found ∙ ap (λ (o : World). in_place t (answer o old.branch q)) (sym begins-there)

  -- another one stands in its place
  module _ (n : Entries) (new : Rooted) (written : n ≡ set_value (same_name name) es new) where
    values-new : new.branch.name ≡ old.branch.name → values_of n ≡ at.front ++ new ∷ at.rest
    values-new called = values_are n (at.front ++ new ∷ at.rest) (written ∙ at.written new called)

    changed-at : new.opening ≡ old.opening → new.branch.name ≡ old.branch.name → with_changed t new.branch ≡ timeline_of (values_of n)
    changed-at opening called =
        ap (λ (u : Timeline). with_changed u new.branch) is_t
        ∙ with_new at.front old new at.rest opening called kept_at
        ∙ ap timeline_of (sym (values-new called))

    pub kept-at : new.opening ≡ old.opening → new.branch.name ≡ old.branch.name → IsBranch new.opening new.branch → StandByName n
    kept-at opening called is =
        stand_by n (at.front ++ new ∷ at.rest) (written ∙ at.written new called) (still_kept at.front old new at.rest opening called kept_at is)

    -- the branch that stood there already
    pub same_there : new ≡ old → timeline_of (values_of n) ≡ t
    same_there same =
        ap timeline_of (values-new (ap (λ (r : Rooted). r.branch.name) same)) ∙ ap (λ (r : Rooted). timeline_of (at.front ++ r ∷ at.rest)) same ∙ sym is_t

    -- the branch as it answered
    placed-at : (o : Option Branch) → IfSome o (λ c. c.name ≡ old.branch.name) → new ≡ record old { branch = option_map_or (λ b. b) o old.branch }
        → option_map_or (with_changed t) o t ≡ timeline_of (values_of n)
    placed-at None _ is = sym (same_there is)
    placed-at (Some c) named is =
        ap (λ (r : Rooted). with_changed t r.branch) (sym is)
        ∙ changed-at (ap (λ (r : Rooted). r.opening) is) (ap (λ (r : Rooted). r.branch.name) is ∙ named)

    -- what it gave is what the timeline replies, with it in its place
    pub told-at : (q : Ask) (reply : Reply) → Gave old (answer old.opening old.branch q) new reply
        → command_step t (command.On name q) ≡ replied (timeline_of (values_of n)) reply
    told-at q reply gave =
        let a = answer old.opening old.branch q in
        asked-at q
        ∙ ap (λ (u : Timeline). replied u a.reply) (placed-at a.changed (keeps-name old.opening old.branch q) gave.becomes)
        ∙ ap (replied (timeline_of (values_of n))) (sym gave.replies)

-- the name and the opening of a branch that gave an answer are what they were
answered_name : (r : Rooted) (o : Option Branch) → IfSome o (λ c. c.name ≡ r.branch.name) → (option_map_or (λ b. b) o r.branch).name ≡ r.branch.name
answered_name r None named = refl
answered_name r (Some c) named = named

pub gave_opening : (r s : Rooted) (q : Ask) (reply : Reply) → Gave r (answer r.opening r.branch q) s reply → s.opening ≡ r.opening
gave_opening r s q reply gave = ap (λ (x : Rooted). x.opening) gave.becomes

pub gave_name : (r s : Rooted) (q : Ask) (reply : Reply) → Gave r (answer r.opening r.branch q) s reply → s.branch.name ≡ r.branch.name
gave_name r s q reply gave =
    ap (λ (x : Rooted). x.branch.name) gave.becomes ∙ answered_name r (answer r.opening r.branch q).changed (keeps-name r.opening r.branch q)

-- ---- the first timeline

pub kept-first : (w : World) (r : Rooted) (name : List ℕ) (es : Entries) → IsWorld w → name ≡ main_name
    → r ≡ record { opening = w; branch = record { name = name; events = []; cursor = 0; former = None } }
    → es ≡ (name, r) ∷ [] → StandByName es
kept-first w r name es is called made whole =
    let first : r ≡ record { opening = w; branch = record { name = main_name; events = []; cursor = 0; former = None } } =
    made ∙ ap (λ n. record { opening = w; branch = record { name = n; events = []; cursor = 0; former = None } }) called in
    stand_by es (r ∷ []) (whole ∙ ap (λ n. (n, r) ∷ []) (sym (ap (λ (x : Rooted). x.branch.name) made)))
    (subst (λ (x : Rooted). AreKept (x ∷ [])) (sym first) (record { one_opening = (refl, tt); timeline = new_timeline-is w is }))

-- ---- a branch more

-- all begin from one opening, and stand for a timeline that is one
kept_all : (rs : List Rooted) (o : World) → AllByRecursion (λ r. r.opening ≡ o) rs → opening_of rs ≡ o → IsTimeline (timeline_of rs) → AreKept rs
kept_all rs o all opening is = record {
  one_opening = subst (λ (w : World). AllByRecursion (λ (r : Rooted). r.opening ≡ w) rs) (sym opening) all;
  timeline = is;
}

-- what some begin from
pub opening_is : (rs : List Rooted) (o : World) → 1 ≤ length rs → AllByRecursion (λ r. r.opening ≡ o) rs → opening_of rs ≡ o
opening_is [] o some all = absurd (omega (arith, some))
opening_is (r ∷ rs) o some all = all.0

module _ (rs : List Rooted) (new : Rooted) (kept : AreKept rs) (begins : new.opening ≡ opening_of rs) where
  all_begin : AllByRecursion (λ (r : Rooted). r.opening ≡ opening_of rs) (rs ++ new ∷ [])
  all_begin = all_behind (λ (r : Rooted). r.opening ≡ opening_of rs) rs new kept.one_opening begins

  longer_opening : opening_of (rs ++ new ∷ []) ≡ opening_of rs
  longer_opening = opening_is (rs ++ new ∷ []) (opening_of rs) (omega (arith, length-append rs (new ∷ []))) all_begin

  pub longer : timeline_of (rs ++ new ∷ []) ≡ record (timeline_of rs) { branches = (timeline_of rs).branches ++ new.branch ∷ [] }
  longer =
      ap (λ (o : World). record { opening = o; branches = branches_of (rs ++ new ∷ []) }) longer_opening
      ∙ ap (λ bs. record { opening = opening_of rs; branches = bs }) (map-append (λ (r : Rooted). r.branch) rs (new ∷ []))

  pub kept-longer : IsTimeline (timeline_of (rs ++ new ∷ [])) → AreKept (rs ++ new ∷ [])
  kept-longer is = kept_all (rs ++ new ∷ []) (opening_of rs) all_begin longer_opening is

-- ---- a branch less

all_without : {X : Type 0} (P : X → Type 0) (xs : List X) (x : X) (ys : List X) → AllByRecursion P (xs ++ x ∷ ys) → AllByRecursion P (xs ++ ys)
all_without P [] x ys all = all.1
all_without P (z ∷ xs) x ys all = (all.0, all_without P xs x ys all.1)

module _ (front : List Rooted) (old : Rooted) (rest : List Rooted) (kept : AreKept (front ++ old ∷ rest))
    (more : nat_le (length (branches_of (front ++ old ∷ rest))) 1 ≡ false) where
  others_begin : AllByRecursion (λ (r : Rooted). r.opening ≡ opening_of (front ++ old ∷ rest)) (front ++ rest)
  others_begin = all_without (λ (r : Rooted). r.opening ≡ opening_of (front ++ old ∷ rest)) front old rest kept.one_opening

  shorter_opening : opening_of (front ++ rest) ≡ opening_of (front ++ old ∷ rest)
  shorter_opening =
      opening_is (front ++ rest) (opening_of (front ++ old ∷ rest))
      (omega (
        arith,
        length-append front rest,
        length-append front (old ∷ rest),
        leb-false
            (length (branches_of (front ++ old ∷ rest))) 1 more,
        length-map (front ++ old ∷ rest) (λ (r : Rooted). r.branch),
      ))
      others_begin

  shorter_branches : branches_of (front ++ rest) ≡ others old.branch.name (branches_of (front ++ old ∷ rest))
  shorter_branches =
      map-append (λ (r : Rooted). r.branch) front rest
      ∙ sym (one_goes (branches_of front) old.branch (branches_of rest)
      (subst (λ bs. IsDistinct same_name (map (λ b. b.name) bs)) (map-append (λ (r : Rooted). r.branch) front (old ∷ rest)) kept.timeline.names))
      ∙ ap (others old.branch.name) (sym (map-append (λ (r : Rooted). r.branch) front (old ∷ rest)))

  pub shorter : timeline_of (front ++ rest)
      ≡ record (timeline_of (front ++ old ∷ rest)) { branches = others old.branch.name (timeline_of (front ++ old ∷ rest)).branches }
  shorter =
      ap (λ (o : World). record { opening = o; branches = branches_of (front ++ rest) }) shorter_opening
      ∙ ap (λ bs. record { opening = opening_of (front ++ old ∷ rest); branches = bs }) shorter_branches

  pub kept-shorter : IsTimeline (timeline_of (front ++ rest)) → AreKept (front ++ rest)
  kept-shorter is = kept_all (front ++ rest) (opening_of (front ++ old ∷ rest)) others_begin shorter_opening is
