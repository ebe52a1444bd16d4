-- What a timeline replies (this project's profile).
use Rattle.std.specs.Prelude.{ℕ, List, Result}
use Rattle.std.specs.Arc.{arc_value}
use Rattle.pfl_base.specs.declared.refusal.Refusal.{Refusal as EventRefusal}
use Rattle.pfl_language.specs.declared.event.Event.{Event}
use Rattle.pfl_language.specs.declared.outcome.Outcome.{Outcome}
use Rattle.pfl_language.specs.declared.refused.Refused.{Refused as Refusal}
use Rattle.pfl_search.specs.world.Worlds.{World}
use Rattle.pfl_reasons.specs.Explaining.{Explained as Reason, explained_of}
use Rattle.pfl_reasons.specs.Frames.{Trace}
use Rattle.pfl_timeline.specs.declared.reply.Explanation.{Explanation as GivenExplanation}
use Rattle.pfl_timeline.specs.declared.reply.FrameTrace.{FrameTrace}
use Rattle.pfl_timeline.specs.declared.reply.Reply.{Reply as GivenReply}
use Rattle.pfl_timeline.specs.declared.reply.Reply.TheVariants as given
use Rattle.pfl_timeline.specs.Timelines.{Timeline}

-- a reply
pub data Reply : Type 0 where
  Stepped : Outcome → ℕ → Reply
  At : ℕ → Reply
  Forked : Reply
  Removed : Reply
  Shown : List ℕ → ℕ → ℕ → World → Reply
  Names : List (List ℕ) → Reply
  Excised : List ℕ → Reply
  Restored : ℕ → Reply
  Logged : List ℕ → List Event → ℕ → Reply
  Explained : List ℕ → ℕ → Event → Result Outcome EventRefusal → Reason → Reply
  Traced : List ℕ → ℕ → Trace → Reply
  Refused : Refusal → Reply

-- what an explanation of the code says
abbrev pub explanation_of : {M : Type 0} → GivenExplanation M → Reply
explanation_of e = Explained e.name e.place e.event e.came (explained_of e.why)

-- what a frame's trace of the code says
abbrev pub trace_of : {M : Type 0} → FrameTrace M → Reply
trace_of t = Traced t.name t.ticket (record { first = t.first; frame = t.frame; later = t.later.items })

-- what a reply of the code says
abbrev pub reply_of : {M : Type 0} → GivenReply M → Reply
reply_of (given.Stepped outcome dropped) = Stepped outcome dropped
reply_of (given.At cursor) = At cursor
reply_of given.Forked = Forked
reply_of given.Removed = Removed
reply_of (given.Shown name events cursor world) = Shown name events cursor (arc_value world)
reply_of (given.Names names) = Names names.items
reply_of (given.Excised places) = Excised places.items
reply_of (given.Restored cursor) = Restored cursor
reply_of (given.Logged name events cursor) = Logged name events.items cursor
reply_of (given.Explained boxed) = explanation_of boxed.value
reply_of (given.Traced boxed) = trace_of boxed.value
reply_of (given.Refused why) = Refused why

-- the timeline after a command, and its reply
pub record Replied : Type 0 where
  pub timeline : Timeline
  pub reply : Reply
