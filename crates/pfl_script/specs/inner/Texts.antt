-- Texts of replies, and how much of a text was written.
use Rattle.std.specs.Prelude.{◌≡◌, ℕ, List, ◌++◌, Option}
use Rattle.std.specs.Io.KnownBytes.{Appends}
use Rattle.pfl_timeline.specs.Replies as reply
use Rattle.pfl_script.specs.declared.reply_text.ReplyText.{ReplyText}
use Rattle.pfl_script.specs.declared.reply_text.ReplyText.TheVariants.{Short, Long, Excised}
use Rattle.pfl_script.specs.Replies.{reply_text}

-- the bytes of a text
abbrev pub bytes_of : {M : Type 0} → ReplyText M → List ℕ
bytes_of (Short line) = line.bytes
bytes_of (Long text) = text.items
bytes_of (Excised places) = reply_text (reply.Excised places.now)

-- of the text all was written but this last piece
pub record WritesAllBut (w v : Option (List ℕ)) (text piece : List ℕ) : Type 0 where
  pub first : List ℕ
  pub written : Appends w v first
  pub all : text ≡ first ++ piece
