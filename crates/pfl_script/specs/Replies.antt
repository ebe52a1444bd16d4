-- The text of replies (this project's profile).
use Rattle.std.specs.Prelude.{ℕ, List, ◌∷◌, ◌++◌, codes}
use Rattle.std.specs.List.{flat_map}
use Rattle.std.specs.Fmt.{decimal}
use Rattle.pfl_timeline.specs.Replies.{Reply, Stepped, At, Forked, Removed, Shown, Names, Excised, Restored, Logged, Explained, Traced, Refused}
use Rattle.pfl_script.specs.Texts.{outcome_text, refused_text}
use Rattle.pfl_script.specs.Frames.{traced_text}
use Rattle.pfl_script.specs.Logs.{log_text}
use Rattle.pfl_script.specs.Reasons.{explained_text}
use Rattle.pfl_script.specs.Shows.{show_text}

-- a name, after a space
abbrev pub named : List ℕ → List ℕ
named name = 32 ∷ name

-- a place, after a space
abbrev pub placed : ℕ → List ℕ
placed place = 32 ∷ decimal place

-- the lines of a reply
abbrev pub reply_text : Reply → List ℕ
reply_text (Stepped outcome dropped) = codes "step " ++ outcome_text outcome ++ codes " dropped " ++ decimal dropped ++ codes "\n"
reply_text (At cursor) = codes "at " ++ decimal cursor ++ codes "\n"
reply_text Forked = codes "forked\n"
reply_text Removed = codes "removed\n"
reply_text (Shown name events cursor world) = show_text name events cursor world
reply_text (Names names) = codes "names" ++ flat_map named names ++ codes "\n"
reply_text (Excised places) = codes "excised" ++ flat_map placed places ++ codes "\n"
reply_text (Restored cursor) = codes "restored " ++ decimal cursor ++ codes "\n"
reply_text (Logged name events cursor) = log_text name events cursor
reply_text (Explained name place event came why) = explained_text name place event came why
reply_text (Traced name ticket trace) = traced_text name ticket trace
reply_text (Refused why) = codes "refused " ++ refused_text why ++ codes "\n"
