-- Answers that are written in part.
use Rattle.std.specs.Prelude.{◌≡◌, ℕ, Bool, true, false, List, length, take, Option, Result, OnOk, OnErr, IfErr}
use Rattle.std.specs.Io.KnownBytes.{Appends}
use Rattle.pfl_timeline.specs.Searches.{Finding, Found}
use Rattle.pfl_timeline.specs.Timelines.{Branch, Timeline}
use Rattle.pfl_timeline.specs.world.Worlds.{World}
use Rattle.pfl_script.specs.Shows.{show_text}
use Rattle.pfl_script.specs.declared.fault.EngineFault.{EngineFault}
use Rattle.pfl_script.specs.declared.fault.EngineFault.TheVariants.{NoMemory}
use Rattle.pfl_script.specs.Readers.{IsWriteFault}
use Rattle.pfl_script.specs.Replies.{reply_text}
use Rattle.pfl_timeline.specs.Replies.{Reply}
use Rattle.pfl_script.specs.Answers.{Answer}

-- the answer stands, and its text was written in part
abbrev pub Breaks : Answer → Timeline → Option (List ℕ) → Option (List ℕ) → Type 0
Breaks answer u w v = (u ≡ answer.timeline) × ((n : ℕ) × Appends w v (take n answer.text))

-- the answer to a search is a run
abbrev pub is_run : Finding → Bool
is_run (Found name run tried) = true
is_run _ = false

-- the lines that show a branch with its world
abbrev pub branch_text : Branch → World → List ℕ
branch_text b world = show_text b.name (length b.events) b.cursor world

-- The text of the reply was written, or a part of it, and why no more; without memory nothing was. W is the type of what is written to:
-- `written` are its bytes, and `failed` says whether it failed.
pub record WritesReply {W T : Type 0} (written : W → Option (List ℕ)) (failed : W → Bool) (reply : Reply) (old new : W)
    (result : Result T EngineFault) : Type 0 where
  pub whole : OnOk result (Appends (written old) (written new) (reply_text reply))
  pub stays : OnOk result (failed new ≡ failed old)
  pub untouched : IfErr result (λ e. e ≡ NoMemory → new ≡ old)
  pub part : OnErr result ((n : ℕ) × Appends (written old) (written new) (take n (reply_text reply)))
  pub fault : IfErr result (λ e. IsWriteFault e (failed new))
