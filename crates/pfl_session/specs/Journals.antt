-- Journals: what their commands make of the opening, and the revisions that stand for their entries (this project's profile).
use Rattle.std.specs.Prelude.{◌≡◌, ◌≤◌, ℕ, suc, ◌+◌, List, [], ◌∷◌, ◌++◌, length, cond, nat_eq, ⊤}
use Rattle.std.specs.List.{fold, AllByRecursion}
use Rattle.atomic_table.specs.Seated.{TableId}
use Rattle.pfl_publish.specs.Count.{Count}
use Rattle.pfl_publish.specs.Revisions.{Log, published}
use Rattle.pfl_timeline.specs.Commands.{command_step}
use Rattle.pfl_timeline.specs.Replies.{reply_of}
use Rattle.pfl_timeline.specs.Summaries.{summary}
use Rattle.pfl_timeline.specs.Timelines.{Timeline}
use Rattle.pfl_session.specs.declared.entry.Entry.{Entry}
use Rattle.pfl_session.specs.declared.mark.Mark.{Mark}
use Rattle.pfl_session.specs.declared.mark.Mark.TheVariants.{Start, Call}

-- the timeline after the command of an entry
abbrev pub after_entry : {M : Type 0} → Timeline → Entry M → Timeline
after_entry t e = (command_step t e.command).timeline

-- the timeline after the commands of all entries
abbrev pub replay : {M : Type 0} → Timeline → List (Entry M) → Timeline
replay t js = fold after_entry t js

-- the entry's reply is the one that its command gives there
abbrev pub IsRight : {M : Type 0} → Timeline → Entry M → Type 0
IsRight t e = reply_of e.reply ≡ (command_step t e.command).reply

-- each reply is the one that its command gives where it stands
abbrev pub IsLegal : {M : Type 0} → Timeline → List (Entry M) → Type 0
IsLegal t [] = ⊤
IsLegal t (e ∷ js) = IsRight t e × IsLegal (after_entry t e) js

-- each entry is of a session from 1 to n
abbrev pub AreOfSessions : {M : Type 0} → ℕ → List (Entry M) → Type 0
AreOfSessions n js = AllByRecursion (λ e. (1 ≤ e.session) × (e.session ≤ n)) js

-- a journal of n sessions, which keeps to its limit
pub record IsJournal {M : Type 0} (opening : Timeline) (n limit : ℕ) (js : List (Entry M)) : Type 0 where
  pub legal : IsLegal opening js
  pub sessions : AreOfSessions n js
  pub short : length js ≤ limit

-- the revisions of these entries, after revision n with the timeline t
abbrev pub following : {M : Type 0} → Timeline → ℕ → List (Entry M) → Log (Mark M)
following t n [] = []
following t n (e ∷ js) = published (summary (after_entry t e) (n + 1)) (Call e) ∷ following (after_entry t e) (n + 1) js

-- the revisions of a journal: the summary of the opening, and that of each timeline after it, under the entry that led there
abbrev pub revisions_of : {M : Type 0} → Timeline → List (Entry M) → Log (Mark M)
revisions_of t js = published (summary t 0) (Start t) ∷ following t 0 js

-- the entry that a revision stands for; revision 0 stands for none
abbrev pub call_of : {M : Type 0} → Mark M → List (Entry M)
call_of (Start t) = []
call_of (Call e) = e ∷ []

-- the entries that revisions stand for
abbrev pub calls_in : {M : Type 0} → Log (Mark M) → List (Entry M)
calls_in [] = []
calls_in (x ∷ xs) = call_of x.named ++ calls_in xs

-- how many entries are of this session
abbrev pub count_of : {M : Type 0} → ℕ → List (Entry M) → ℕ
count_of session [] = 0
count_of session (e ∷ js) = cond (nat_eq e.session session) 1 0 + count_of session js

-- the count of each session's entries, from this session on
abbrev pub counts_of : {M : Type 0} → ℕ → List TableId → List (Entry M) → List Count
counts_of session [] js = []
counts_of session (t ∷ ts) js = record { table = t; count = count_of session js } ∷ counts_of (suc session) ts js
