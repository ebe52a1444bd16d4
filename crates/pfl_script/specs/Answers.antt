-- What lines do to a timeline, and the text of their replies.
use Rattle.std.specs.Prelude.{◌≡◌, ◌≤◌, ℕ, ◌+◌, Bool, true, false, not, ◌&&◌, is_err, List, [], ◌∷◌, ◌++◌, length, take, if◌then◌else◌, Option, Some}
use Rattle.std.specs.Prelude.{None, is_some, IsTrue, ⊤, Result, Ok, Err}
use Rattle.std.specs.Io.KnownBytes.{Appends}
use Rattle.pfl_lines.specs.declared.fault.LineFault.{LineFault}
use Rattle.pfl_lines.specs.declared.search.ScriptLine.{ScriptLine}
use Rattle.pfl_lines.specs.declared.search.ScriptLine.TheVariants as said
use Rattle.pfl_lines.specs.declared.search.SearchLine.{SearchLine}
use Rattle.pfl_lines.specs.Search.{parsed_script}
use Rattle.pfl_timeline.specs.Memory.{MayWantMemory}
use Rattle.pfl_timeline.specs.Timelines.{Timeline, branch_of}
use Rattle.pfl_reader.specs.Lines.{lines_of}
use Rattle.pfl_reader.specs.Saids.{kept_said}
use Rattle.pfl_reader.specs.Scans.{Kept, head_of, has_word, TakesLines}
use Rattle.pfl_script.specs.declared.fault.EngineFault.{EngineFault}
use Rattle.pfl_script.specs.declared.fault.EngineFault.TheVariants as engine
use Rattle.pfl_timeline.specs.Commands.{command_step}
use Rattle.pfl_timeline.specs.Searches.{Sought, finding, sought}
use Rattle.pfl_script.specs.Texts.{bad_text}
use Rattle.pfl_script.specs.Replies.{reply_text}
use Rattle.pfl_script.specs.Searches.{finding_text}

-- what a line writes, and the timeline after it
pub record Answer : Type 0 where
  pub text : List ℕ
  pub timeline : Timeline

-- what a line searches for
abbrev pub sought_by : SearchLine → Sought
sought_by s = sought s.goal s.depth s.choices.items s.most

-- the answer to what a line says: a command gives its reply, and a search what it finds
abbrev pub answer_to : Result ScriptLine LineFault → Timeline → Answer
answer_to (Err fault) t = record { text = bad_text fault; timeline = t }
answer_to (Ok (said.Command command)) t =
    let replied = command_step t command in
    record { text = reply_text replied.reply; timeline = replied.timeline }
answer_to (Ok (said.Search s)) t = record { text = finding_text (finding t s.branch (sought_by s)); timeline = t }

-- the answer to a line: none to a line without a word and to a comment
unfoldable pub line_answer : List ℕ → Timeline → Answer
line_answer line t = if has_word (head_of line) then answer_to (parsed_script line) t else record { text = []; timeline = t }

-- the line is faulty
unfoldable pub is_bad : List ℕ → Bool
is_bad line = has_word (head_of line) && is_err (parsed_script line)

-- the line is a command or a search
unfoldable pub is_command : List ℕ → Bool
is_command line = has_word (head_of line) && not (is_err (parsed_script line))

-- what is written for lines
abbrev pub text : List (List ℕ) → Timeline → List ℕ
text [] t = []
text (line ∷ lines) t = (line_answer line t).text ++ text lines (line_answer line t).timeline

-- the timeline after lines
abbrev pub timeline_after : List (List ℕ) → Timeline → Timeline
timeline_after [] t = t
timeline_after (line ∷ lines) t = timeline_after lines (line_answer line t).timeline

-- one for a faulty line
abbrev pub one_if : Bool → ℕ
one_if true = 1
one_if false = 0

-- how many lines are faulty
abbrev pub bad_lines : List (List ℕ) → ℕ
bad_lines [] = 0
bad_lines (line ∷ lines) = one_if (is_bad line) + bad_lines lines

-- the answer to a line of which this is kept
unfoldable pub kept_answer : Kept → Timeline → Answer
kept_answer k t = if has_word k.head then answer_to (kept_said k) t else record { text = []; timeline = t }

-- the line of which this is kept is faulty
unfoldable pub kept_bad : Kept → Bool
kept_bad k = has_word k.head && is_err (kept_said k)

-- the line of which this is kept is a command or a search
unfoldable pub kept_command : Kept → Bool
kept_command k = has_word k.head && not (is_err (kept_said k))

-- what a line says may want memory: a command that makes something and that nothing refuses, or a search from a branch that is there
abbrev pub MayWant : Result ScriptLine LineFault → Timeline → Type 0
MayWant (Err fault) t = ⊥
MayWant (Ok (said.Command command)) t = MayWantMemory t command
MayWant (Ok (said.Search s)) t = IsTrue (is_some (branch_of t s.branch))

-- the lines of known bytes are these
abbrev pub AreLines : Option (List ℕ) → List (List ℕ) → Type 0
AreLines None lines = ⊤
AreLines (Some xs) lines = lines ≡ lines_of xs

-- these are the first lines of known bytes
abbrev pub AreFirst : Option (List ℕ) → List (List ℕ) → Type 0
AreFirst None lines = ⊤
AreFirst (Some xs) lines = (rest : List (List ℕ)) × (lines_of xs ≡ lines ++ rest)

-- of known bytes none is left
abbrev pub Drains : Option (List ℕ) → Option (List ℕ) → Type 0
Drains None new = ⊤
Drains (Some xs) None = ⊥
Drains (Some xs) (Some ys) = ys ≡ []

-- All lines were read: the timeline is the one that they give, their whole text was written, and they were counted.
pub record RunsWhole (old new : Option (List ℕ)) (t u : Timeline) (w v : Option (List ℕ)) (n bad : ℕ) : Type 0 where
  pub lines : List (List ℕ)
  pub all : AreLines old lines
  pub end : Drains old new
  pub timeline : u ≡ timeline_after lines t
  pub written : Appends w v (text lines t)
  pub counted : n ≡ length lines
  pub faulty : bad ≡ bad_lines lines

-- First lines were read: the timeline is the one that they give, and their text was written but for a part of the last one's.
pub record RunsPart (old : Option (List ℕ)) (t u : Timeline) (w v : Option (List ℕ)) : Type 0 where
  pub lines : List (List ℕ)
  pub last : List (List ℕ)
  pub few : length last ≤ 1
  pub first : AreFirst old (lines ++ last)
  pub timeline : u ≡ timeline_after (lines ++ last) t
  pub part : ℕ
  pub written : Appends w v (text lines t ++ take part (text last (timeline_after lines t)))

-- First lines were read: the timeline is the one that they give, and their whole text was written.
pub record RunsLines (old : Option (List ℕ)) (t u : Timeline) (w v : Option (List ℕ)) : Type 0 where
  pub lines : List (List ℕ)
  pub first : AreFirst old lines
  pub timeline : u ≡ timeline_after lines t
  pub written : Appends w v (text lines t)

-- These lines were taken and no other: the timeline is the one that they give, and their text was written but for a part of the last one's.
pub record RunsBroken (old new : Option (List ℕ)) (t u : Timeline) (w v : Option (List ℕ)) : Type 0 where
  pub lines : List (List ℕ)
  pub last : List ℕ
  pub taken : TakesLines old new (lines ++ last ∷ [])
  pub timeline : u ≡ timeline_after (lines ++ last ∷ []) t
  pub part : ℕ
  pub written : Appends w v (text lines t ++ take part (line_answer last (timeline_after lines t)).text)

-- These lines were taken and no other, the last of them a command or a search that may want memory where the lines before it lead: the
-- timeline is the one that these give, and their whole text was written.
pub record RunsUnanswered (old new : Option (List ℕ)) (t u : Timeline) (w v : Option (List ℕ)) : Type 0 where
  pub lines : List (List ℕ)
  pub last : List ℕ
  pub taken : TakesLines old new (lines ++ last ∷ [])
  pub command : is_command last ≡ true
  pub wants : MayWant (parsed_script last) (timeline_after lines t)
  pub timeline : u ≡ timeline_after lines t
  pub written : Appends w v (text lines t)

-- what a run did before this fault
abbrev pub RunsUntil : EngineFault → Option (List ℕ) → Option (List ℕ) → Timeline → Timeline → Option (List ℕ) → Option (List ℕ) → Type 0
RunsUntil engine.Read old new t u w v = RunsLines old t u w v
RunsUntil engine.TooManyTurns old new t u w v = RunsLines old t u w v
RunsUntil engine.Write old new t u w v = RunsBroken old new t u w v
RunsUntil engine.NoMemory old new t u w v = RunsUnanswered old new t u w v
