-- Laws of journals and of what passes see of them, in their own words (this project's profile).
use Rattle.std.specs.Prelude.{◌≡◌, ◌<◌, ℕ, List, [], ◌∷◌, ◌++◌, length, map, take}
use Rattle.std.specs.List.{AllByRecursion}
use Rattle.pfl_publish.specs.Revisions.{Log, StartsWith, words_at}
use Rattle.pfl_timeline.specs.Commands.{replayed}
use Rattle.pfl_timeline.specs.Laws.{ShowsItsRun}
use Rattle.pfl_timeline.specs.Summaries.{summary}
use Rattle.pfl_timeline.specs.Timelines.{Timeline, new_timeline}
use Rattle.pfl_timeline.specs.world.Worlds.{World, IsWorld}
use Rattle.pfl_session.specs.declared.entry.Entry.{Entry}
use Rattle.pfl_session.specs.declared.mark.Mark.{Mark}
use Rattle.pfl_session.specs.Journals.{replay, revisions_of, calls_in}
use Rattle.pfl_session.specs.Labs.{HasSeenOwn}
use Rattle.pfl_session.specs.Passes.{Seen, seen_in}

-- each revision that was seen is the summary of what the first entries of the journal give, as many as its number
abbrev pub RevisionsShowTimelines : Type 0 → Type 0
RevisionsShowTimelines M =
    (opening : Timeline) (js : List (Entry M)) (seen : Log (Mark M)) (n : ℕ) → StartsWith (revisions_of opening js) seen → n < length seen
    → words_at n seen ≡ summary (replay opening (take n js)) n

-- the entries that were seen are the first ones of the journal
abbrev pub SeenEntriesAreFirst : Type 0 → Type 0
SeenEntriesAreFirst M =
    (opening : Timeline) (js : List (Entry M)) (seen : Log (Mark M)) → StartsWith (revisions_of opening js) seen
    → take (length (calls_in seen)) js ≡ calls_in seen

-- a pass whose session made the last entry has seen all of them
abbrev pub LastCallersHaveSeenAll : Type 0 → Type 0
LastCallersHaveSeenAll M =
    (opening : Timeline) (js : List (Entry M)) (e : Entry M) (p : Seen M) → HasSeenOwn opening (js ++ e ∷ []) p → e.session ≡ p.session
    → seen_in p ≡ js ++ e ∷ []

-- a journal's timeline is that of its commands, one after another, whoever asked them
abbrev pub JournalsAreCommands : Type 0 → Type 0
JournalsAreCommands M = (opening : Timeline) (js : List (Entry M)) → replay opening js ≡ replayed opening (map (λ e. e.command) js)

-- whatever the sessions asked, in whatever order, each branch shows the run of the events before its cursor
abbrev pub BranchesShowTheirRunsInJournals : Type 0 → Type 0
BranchesShowTheirRunsInJournals M =
    (opening : World) (js : List (Entry M)) → IsWorld opening
    → let t = replay (new_timeline opening) js in AllByRecursion (ShowsItsRun opening t) t.branches
