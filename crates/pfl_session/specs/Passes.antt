-- What contracts see of a pass, and what a call adds to it (this project's profile).
use Rattle.std.specs.Prelude.{◌≡◌, ◌<◌, ℕ, ◌-◌, false, List, [], ◌∷◌, ◌++◌, length, slice_get, Option, Some, None}
use Rattle.atomic_table.specs.Seated.{TableId}
use Rattle.pfl_language.specs.declared.command.Command.{Command}
use Rattle.pfl_publish.specs.Count.{Count}
use Rattle.pfl_publish.specs.Revisions.{StartsWith}
use Rattle.pfl_publish.specs.Seats.{Viewer, LoadsOn}
use Rattle.pfl_timeline.specs.Replies.{Reply, reply_of}
use Rattle.pfl_timeline.specs.Timelines.{Timeline}
use Rattle.pfl_session.specs.declared.entry.Entry.{Entry}
use Rattle.pfl_session.specs.declared.mark.Mark.{Mark}
use Rattle.pfl_session.specs.declared.fault.AskFault.{AskFault}
use Rattle.pfl_session.specs.declared.fault.AskFault.TheVariants as fault
use Rattle.pfl_session.specs.Journals.{IsJournal, revisions_of, calls_in, count_of}

-- the name of no table
abbrev pub no_table : TableId
no_table = record { words = 0; slots = 0; views_name = 0; atom = 0; block = 0; offset = 0; slot_names = [] }

-- a session's number, its half of its count, and what its viewer has seen
pub record Seen (M : Type 0) : Type 0 where
  pub session : ℕ
  pub half : Count
  pub viewer : Viewer (Mark M)

abbrev pub half_in : Option Count → Count
half_in (Some h) = h
half_in None = record { table = no_table; count = 0 }

abbrev pub viewer_in : {M : Type 0} → Option (Viewer (Mark M)) → Viewer (Mark M)
viewer_in (Some v) = v
viewer_in None = record { table = no_table; seen = []; trying = false; held = []; loads = [] }

-- the pass of these parts, both of which are there between calls
abbrev pub seen_of : {M : Type 0} → ℕ → Option Count → Option (Viewer (Mark M)) → Seen M
seen_of session half viewer = record { session = session; half = half_in half; viewer = viewer_in viewer }

-- the history that it has seen: the entries of the revisions up to its floor
abbrev pub seen_in : {M : Type 0} → Seen M → List (Entry M)
seen_in p = calls_in p.viewer.seen

-- the pass is of the lab with this publisher, and its count is its session's
pub record IsPassOf {M : Type 0} (publisher : TableId) (tallies : List TableId) (p : Seen M) : Type 0 where
  pub publisher_is : p.viewer.table ≡ publisher
  pub tally_is : slice_get tallies (p.session - 1) ≡ Some p.half.table

-- the pass is the same one, has seen all that it had seen before, and its loads go on
pub record GoesOn {M : Type 0} (old new : Seen M) : Type 0 where
  pub session : new.session ≡ old.session
  pub tally : new.half.table ≡ old.half.table
  pub publisher : new.viewer.table ≡ old.viewer.table
  pub seen : StartsWith new.viewer.seen old.viewer.seen
  pub loads : LoadsOn old.viewer new.viewer

-- the pass has seen as many entries of its session as it has called
abbrev pub HasSeenItsCalls : {M : Type 0} → Seen M → Type 0
HasSeenItsCalls p = p.half.count ≡ count_of p.session (seen_in p)

-- what it has seen is a journal of n sessions that keeps to its limit, whose replies are those that its commands give from the opening;
-- each revision is the summary of what the entries up to it give
pub record HasSeenJournal {M : Type 0} (opening : Timeline) (n limit : ℕ) (p : Seen M) : Type 0 where
  pub journal : IsJournal opening n limit (seen_in p)
  pub revisions : p.viewer.seen ≡ revisions_of opening (seen_in p)

-- what it has seen since then is of other sessions
pub record AddsOthers {M : Type 0} (old new : Seen M) : Type 0 where
  pub others : List (Entry M)
  pub seen : seen_in new ≡ seen_in old ++ others
  pub none_own : count_of old.session others ≡ 0

-- what it has seen since then is of other sessions, and then the call of its own with this command and this reply
pub record AddsCall {M : Type 0} (old new : Seen M) (command : Command) (reply : Reply) : Type 0 where
  pub others : List (Entry M)
  pub entry : Entry M
  pub seen : seen_in new ≡ (seen_in old ++ others) ++ entry ∷ []
  pub none_own : count_of old.session others ≡ 0
  pub session : entry.session ≡ old.session
  pub command_is : entry.command ≡ command
  pub reply_is : reply_of entry.reply ≡ reply

-- the condition under which the fault is reported: the journal that the pass has seen is full, or it has room
abbrev pub IsAskFault : {M : Type 0} → ℕ → Seen M → AskFault → Type 0
IsAskFault limit p fault.JournalFull = length (seen_in p) ≡ limit
IsAskFault limit p fault.NoMemory = length (seen_in p) < limit
