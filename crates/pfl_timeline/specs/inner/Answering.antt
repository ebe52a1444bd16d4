-- What a branch becomes and replies.
use Rattle.std.specs.Prelude.{◌≡◌, Option}
use Rattle.std.specs.Option.{option_map_or}
use Rattle.pfl_timeline.specs.Answers.{Answer}
use Rattle.pfl_timeline.specs.Replies.{Reply}
use Rattle.pfl_timeline.specs.Rooted.{Rooted}
use Rattle.pfl_timeline.specs.Timelines.{Branch}

-- the branch after the answer
abbrev pub answered : Rooted → Answer → Rooted
answered r a = record r { branch = option_map_or (λ b. b) a.changed r.branch }

-- the branch gave this answer: it became this, and replied this
pub record Gave (old : Rooted) (a : Answer) (new : Rooted) (reply : Reply) : Type 0 where
  pub becomes : new ≡ answered old a
  pub replies : reply ≡ a.reply
