-- What revisions show of a journal, and what it gives.
use Rattle.std.proofs.Common.{◌≡◌, ℕ, zero, suc, ◌+◌, ◌<◌, List, [], ◌∷◌, ◌++◌, length, take, drop, refl, sym, ap, subst, ◌∙◌, arith}
use Rattle.std.specs.Prelude.{map}
use Rattle.std.specs.List.{AllByRecursion}
use Rattle.std.proofs.lemmas.List.{append-nil, take-append-drop}
use Rattle.pfl_publish.specs.Revisions.{Log, words_at, StartsWith}
use Rattle.pfl_publish.proofs.ForCallers.{words_at-append, begun_length}
use Rattle.pfl_timeline.specs.Commands.{replayed}
use Rattle.pfl_timeline.specs.Laws.{ShowsItsRun}
use Rattle.pfl_timeline.specs.Summaries.{summary}
use Rattle.pfl_timeline.specs.Timelines.{Timeline, new_timeline}
use Rattle.pfl_timeline.proofs.ForCallers.{branches-show-runs}
use Rattle.pfl_session.specs.declared.entry.Entry.{Entry}
use Rattle.pfl_session.specs.declared.mark.Mark.{Mark}
use Rattle.pfl_session.specs.Journals.{after_entry, replay, following, revisions_of, calls_in, count_of}
use Rattle.pfl_session.specs.Laws.{RevisionsShowTimelines, SeenEntriesAreFirst, LastCallersHaveSeenAll, JournalsAreCommands, BranchesShowTheirRunsInJournals}
use Rattle.pfl_session.specs.Passes.{seen_in}
use Rattle.pfl_session.proofs.Replays.{calls-since, calls-history, count-own, count-since, length-history}

-- the front of two lists
front : {X : Type 0} (xs ys : List X) → take (length xs) (xs ++ ys) ≡ xs
front [] ys = refl
front {X = X} (x ∷ xs) ys = ap (λ (l : List X). x ∷ l) (front xs ys)

-- nothing stands after a list where both together are empty
none-right : {X : Type 0} (xs ys : List X) → [] ≡ xs ++ ys → ys ≡ []
none-right [] ys is = sym is
none-right (x ∷ xs) ys is = absurd cc

module _ {M : Type 0} where
  -- the words of the revision that stands this many after revision k
  words-following : (t : Timeline) (k n : ℕ) (js : List (Entry M)) → n < length js
      → words_at n (following t k js) ≡ summary (replay t (take (suc n) js)) (k + suc n)
  words-following t k n [] lt = absurd (omega (arith, lt))
  words-following t k zero (e ∷ js) lt = refl
  words-following t k (suc n) (e ∷ js) lt =
      let next : (k + 1) + suc n ≡ k + suc (suc n) = omega arith in
      words-following (after_entry t e) (k + 1) n js (omega (arith, lt)) ∙ ap (summary (replay (after_entry t e) (take (suc n) js))) next

  words-history : (t : Timeline) (n : ℕ) (js : List (Entry M)) → n < length (revisions_of t js)
      → words_at n (revisions_of t js) ≡ summary (replay t (take n js)) n
  words-history t zero js lt = refl
  words-history t (suc n) js lt =
      let number : 0 + suc n ≡ suc n = omega arith in
      words-following t 0 n js (omega (arith, lt, length-history t js)) ∙ ap (summary (replay t (take (suc n) js))) number

  -- what was seen has the words of what it begins
  words-seen : (list seen : Log (Mark M)) (n : ℕ) → StartsWith list seen → n < length seen → words_at n list ≡ words_at n seen
  words-seen list seen n begun lt =
      ap (words_at n) (sym (take-append-drop (length seen) list))
      ∙ (words_at-append n (take (length seen) list) (drop (length seen) list)
      (omega (arith, lt, ap (λ (l : Log (Mark M)). length l) begun)) ∙ ap (words_at n) begun)

  pub revisions-show : RevisionsShowTimelines M
  revisions-show opening js seen n begun lt =
      sym (words-seen (revisions_of opening js) seen n begun lt)
      ∙ words-history opening n js (omega (arith, lt, begun_length (revisions_of opening js) seen begun))

  pub seen-are-first : SeenEntriesAreFirst M
  seen-are-first opening js seen begun =
      ap (take (length (calls_in seen))) (sym (calls-history opening js) ∙ calls-since (revisions_of opening js) seen begun)
      ∙ front (calls_in seen) (calls_in (drop (length seen) (revisions_of opening js)))

  -- what follows the entries that hold all of a session's, where the last entry is of that session
  none-behind : (s : ℕ) (js : List (Entry M)) (e : Entry M) (xs ys : List (Entry M)) → e.session ≡ s → js ++ e ∷ [] ≡ xs ++ ys → count_of s ys ≡ 0 → ys ≡ []
  none-behind s js e [] ys own is none = absurd (omega (arith, count-own s js e own, ap (count_of s) is, none))
  none-behind s [] e (x ∷ xs) ys own is none = let rest : [] ≡ xs ++ ys = cc in none-right xs ys rest
  none-behind s (j ∷ js) e (x ∷ xs) ys own is none = let rest : js ++ e ∷ [] ≡ xs ++ ys = cc in none-behind s js e xs ys own rest none

  pub last-callers-saw-all : LastCallersHaveSeenAll M
  last-callers-saw-all opening js e p is own =
      let list = revisions_of opening (js ++ e ∷ []) in
      let later = calls_in (drop (length p.viewer.seen) list) in
      let parts : js ++ e ∷ [] ≡ seen_in p ++ later = sym (calls-history opening (js ++ e ∷ [])) ∙ calls-since list p.viewer.seen is.begun in
      let none : count_of p.session later ≡ 0 =
      omega (
        arith,
        count-since p.session list p.viewer.seen is.begun,
        ap (count_of p.session)
            (calls-history opening (js ++ e ∷ [])),
        is.all_own,
      ) in
      let all = none-behind p.session js e (seen_in p) later own parts none in
      sym (parts ∙ (ap (λ (l : List (Entry M)). seen_in p ++ l) all ∙ append-nil (seen_in p)))

  pub journals-are : JournalsAreCommands M
  unfolding replayed
  journals-are opening [] = refl
  journals-are opening (e ∷ js) = journals-are (after_entry opening e) js

  pub branches-show : BranchesShowTheirRunsInJournals M
  branches-show opening js is =
      subst (λ (t : Timeline). AllByRecursion (ShowsItsRun opening t) t.branches) (sym (journals-are (new_timeline opening) js))
      (branches-show-runs opening (map (λ e. e.command) js) is)
