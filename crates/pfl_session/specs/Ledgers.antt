-- What lies under the lock (this project's profile).
use Rattle.std.specs.Prelude.{◌≡◌, ◌≤◌, ℕ, ◌+◌, List, [], ◌∷◌, ◌++◌, length}
use Rattle.pfl_language.specs.declared.command.Command.{Command}
use Rattle.pfl_publish.specs.Count.{Count}
use Rattle.pfl_timeline.specs.Replies.{Reply, reply_of}
use Rattle.pfl_timeline.specs.Timelines.{Timeline}
use Rattle.pfl_session.specs.declared.entry.Entry.{Entry}
use Rattle.pfl_session.specs.Totals.{HasFewEvents}
use Rattle.pfl_session.specs.Journals.{replay, IsJournal, revisions_of, count_of}
use Rattle.pfl_session.specs.Passes.{Seen, seen_in, GoesOn}

-- the journal is one of n sessions and keeps to its limit, and its replay gives the timeline, whose branches have no more events than they can have come to
pub record IsLedger {M : Type 0} (opening : Timeline) (n limit : ℕ) (timeline : Timeline) (js : List (Entry M)) (bound : ℕ) : Type 0 where
  pub journal : IsJournal opening n limit js
  pub timeline_is : timeline ≡ replay opening js
  pub few : HasFewEvents (length js + 4294967295) timeline
  pub bound_is : bound ≡ limit
  pub small : limit ≤ 1000000

-- a half that has counted one more
abbrev pub one_more_counted : Count → Count
one_more_counted h = record { table = h.table; count = h.count + 1 }

-- the pass has seen the journal on its way from old to met, and has counted each entry of its session there
pub record HasMet {M : Type 0} (opening : Timeline) (n limit : ℕ) (js : List (Entry M)) (old met : Seen M) : Type 0 where
  pub goes_on : GoesOn old met
  pub half : met.half ≡ old.half
  pub journal : IsJournal opening n limit js
  pub seen : met.viewer.seen ≡ revisions_of opening js
  pub below : old.half.count ≤ count_of old.session (seen_in old)
  pub all : old.half.count ≡ count_of old.session js

-- one entry more: the pass's session asked the command, and had this reply; the pass has seen the journal up to it
pub record IsEntered {M : Type 0} (opening : Timeline) (n limit : ℕ) (old new : List (Entry M)) (before after : Seen M) (command : Command)
    (reply : Reply) : Type 0 where
  pub entry : Entry M
  pub session : entry.session ≡ before.session
  pub command_is : entry.command ≡ command
  pub reply_is : reply_of entry.reply ≡ reply
  pub longer : new ≡ old ++ entry ∷ []
  pub journal : IsJournal opening n limit new
  pub seen : after.viewer.seen ≡ revisions_of opening new
