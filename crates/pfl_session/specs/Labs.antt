-- A lab that is opened, and one that is closed (this project's profile).
use Rattle.std.specs.Prelude.{◌≡◌, ℕ, suc, nat_lt, ◌||◌, List, [], ◌∷◌, refl, Option, Some, None, if◌then◌else◌, ⊤}
use Rattle.std.specs.Coded.{Coded, Coded-set, code_by, coded×, coded_ℕ, coded_list}
use Rattle.atomic_table.specs.Seated.{TableId, table_id_coded}
use Rattle.pfl_publish.specs.Revisions.{Log, StartsWith}
use Rattle.pfl_timeline.specs.Codes.{coded_timeline}
use Rattle.pfl_timeline.specs.Timelines.{Timeline}
use Rattle.pfl_session.specs.declared.entry.Entry.{Entry}
use Rattle.pfl_session.specs.declared.fault.LabFault.{LabFault}
use Rattle.pfl_session.specs.declared.fault.LabFault.TheVariants as fault
use Rattle.pfl_session.specs.declared.mark.Mark.{Mark}
use Rattle.pfl_session.specs.Journals.{replay, IsJournal, revisions_of, count_of}
use Rattle.pfl_session.specs.Passes.{Seen, seen_in, HasSeenItsCalls}

-- equations of tables are facts
pub table_prop : (a b : TableId) → IsProp (a ≡ b)
table_prop = Coded-set table_id_coded

pub tables_prop : (a b : List TableId) → IsProp (a ≡ b)
tables_prop = Coded-set (coded_list table_id_coded)

-- equations of texts are facts
pub text_prop : (a b : List ℕ) → IsProp (a ≡ b)
text_prop = Coded-set (coded_list coded_ℕ)

-- a lab that has no name yet: its publisher, the count of each session, its opening, the lines that set that up, and the most entries of its journal
pub record Setup : Type 0 where
  pub publisher : TableId
  pub tallies : List TableId
  pub opening : Timeline
  pub setup : List ℕ
  pub limit : ℕ

-- as its five fields
abbrev pub coded_setup : Coded Setup
coded_setup =
    code_by (TableId × (List TableId × (Timeline × (List ℕ × ℕ))))
    (coded× table_id_coded (coded× (coded_list table_id_coded) (coded× coded_timeline (coded× (coded_list coded_ℕ) coded_ℕ))))
    (λ s. (s.publisher, (s.tallies, (s.opening, (s.setup, s.limit)))))
    (λ p. record { publisher = p.0; tallies = p.1.0; opening = p.1.1.0; setup = p.1.1.1.0; limit = p.1.1.1.1 }) (λ _. refl)

-- why there is no such lab, unless memory is wanting
abbrev pub lab_fault : ℕ → ℕ → Option LabFault
lab_fault sessions journal =
    if nat_lt sessions 1 || nat_lt 8 sessions then Some fault.Sessions else
    if nat_lt journal 1 || nat_lt 1000000 journal then Some fault.Journal else None

-- a fault that is reported: the one of the numbers; where they have none, want of memory
abbrev pub IsLabFault : Option LabFault → LabFault → Type 0
IsLabFault (Some first) f = f ≡ first
IsLabFault None f = f ≡ fault.NoMemory

-- a pass of this session that has seen the opening alone, and has called and loaded nothing
pub record IsNewPass {M : Type 0} (publisher : TableId) (seen : Log (Mark M)) (session : ℕ) (tally : TableId) (p : Seen M) : Type 0 where
  pub session_is : p.session ≡ session
  pub tally_is : p.half.table ≡ tally
  pub publisher_is : p.viewer.table ≡ publisher
  pub seen_is : p.viewer.seen ≡ seen
  pub called : p.half.count ≡ 0
  pub loaded : p.viewer.loads ≡ []

-- a new pass for each session, from this one on
abbrev pub AreNewPasses : {M : Type 0} → TableId → Log (Mark M) → ℕ → List TableId → List (Seen M) → Type 0
AreNewPasses publisher seen session [] [] = ⊤
AreNewPasses publisher seen session [] (p ∷ ps) = ⊥
AreNewPasses publisher seen session (t ∷ ts) [] = ⊥
AreNewPasses publisher seen session (t ∷ ts) (p ∷ ps) = IsNewPass publisher seen session t p × AreNewPasses publisher seen (suc session) ts ps

-- the pass has seen a beginning of the journal, in which every entry of its session stands, and it has called as many
pub record HasSeenOwn {M : Type 0} (opening : Timeline) (js : List (Entry M)) (p : Seen M) : Type 0 where
  pub begun : StartsWith (revisions_of opening js) p.viewer.seen
  pub all_own : count_of p.session (seen_in p) ≡ count_of p.session js
  pub called : HasSeenItsCalls p

-- the journal is one of n sessions and keeps to its limit, and its replay gives the timeline
pub record IsClosed {M : Type 0} (opening : Timeline) (n limit : ℕ) (timeline : Timeline) (js : List (Entry M)) : Type 0 where
  pub journal : IsJournal opening n limit js
  pub timeline_is : timeline ≡ replay opening js
