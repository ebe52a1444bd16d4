-- What a check of lines reports, which executes none of them (this project's profile).
use Rattle.std.specs.Prelude.{◌≡◌, ℕ, ◌+◌, List, [], ◌∷◌, ◌++◌, length, take, codes, if◌then◌else◌, Option, ◌⊎◌, Result, Ok, Err}
use Rattle.std.specs.Fmt.{decimal}
use Rattle.std.specs.Io.KnownBytes.{Appends}
use Rattle.pfl_lines.specs.declared.search.ScriptLine.{ScriptLine}
use Rattle.pfl_lines.specs.declared.fault.LineFault.{LineFault}
use Rattle.pfl_lines.specs.Search.{parsed_script}
use Rattle.pfl_reader.specs.Saids.{kept_said}
use Rattle.pfl_reader.specs.Scans.{Kept, head_of, has_word, TakesLines}
use Rattle.pfl_script.specs.Texts.{bad_text}
use Rattle.pfl_script.specs.Answers.{is_command, one_if, bad_lines, AreLines, AreFirst, Drains}
use Rattle.pfl_script.specs.declared.fault.EngineFault.{EngineFault}
use Rattle.pfl_script.specs.declared.fault.EngineFault.TheVariants as engine

-- the line that reports line n as faulty
abbrev pub faulty_text : ℕ → LineFault → List ℕ
faulty_text n why = codes "line " ++ decimal n ++ codes " " ++ bad_text why

-- what is reported of line n, which says this: nothing of a command and of a search
abbrev pub said_text : ℕ → Result ScriptLine LineFault → List ℕ
said_text n (Ok said) = []
said_text n (Err why) = faulty_text n why

-- what is reported of line n: nothing where it has no word or is a comment
unfoldable pub line_report : ℕ → List ℕ → List ℕ
line_report n line = if has_word (head_of line) then said_text n (parsed_script line) else []

-- what is reported of line n of which this is kept
unfoldable pub kept_report : ℕ → Kept → List ℕ
kept_report n k = if has_word k.head then said_text n (kept_said k) else []

-- what is reported of lines that stand after line n
abbrev pub lines_report : ℕ → List (List ℕ) → List ℕ
lines_report n [] = []
lines_report n (line ∷ lines) = line_report (n + 1) line ++ lines_report (n + 1) lines

-- how many lines are commands or searches
abbrev pub good_lines : List (List ℕ) → ℕ
good_lines [] = 0
good_lines (line ∷ lines) = one_if (is_command line) + good_lines lines

-- the last line of a check: how many lines are commands
abbrev pub good_text : ℕ → List ℕ
good_text n = codes "good " ++ decimal n ++ codes "\n"

-- the text of a check of lines that stand after line n
abbrev pub check_text : ℕ → List (List ℕ) → List ℕ
check_text n lines = lines_report n lines ++ good_text (good_lines lines)

-- All lines after line n were read, their whole check was written, and they were counted.
pub record ChecksWhole (old new : Option (List ℕ)) (n : ℕ) (w v : Option (List ℕ)) (good bad : ℕ) : Type 0 where
  pub lines : List (List ℕ)
  pub all : AreLines old lines
  pub end : Drains old new
  pub written : Appends w v (check_text n lines)
  pub commands : good ≡ good_lines lines
  pub faulty : bad ≡ bad_lines lines

-- First lines after line n were read, and all that is reported of them was written.
pub record ChecksLines (old : Option (List ℕ)) (n : ℕ) (w v : Option (List ℕ)) : Type 0 where
  pub lines : List (List ℕ)
  pub first : AreFirst old lines
  pub written : Appends w v (lines_report n lines)

-- These lines after line n were taken and no other, and what is reported of them was written but for a part of the last one's.
pub record ChecksPart (old new : Option (List ℕ)) (n : ℕ) (w v : Option (List ℕ)) : Type 0 where
  pub lines : List (List ℕ)
  pub last : List ℕ
  pub taken : TakesLines old new (lines ++ last ∷ [])
  pub part : ℕ
  pub written : Appends w v (lines_report n lines ++ take part (line_report (n + length lines + 1) last))

-- All lines after line n were read, and their check was written but for a part of its last line.
pub record ChecksUncounted (old new : Option (List ℕ)) (n : ℕ) (w v : Option (List ℕ)) : Type 0 where
  pub lines : List (List ℕ)
  pub all : AreLines old lines
  pub end : Drains old new
  pub part : ℕ
  pub written : Appends w v (lines_report n lines ++ take part (good_text (good_lines lines)))

-- what a check did before this fault; it takes no memory
abbrev pub ChecksUntil : EngineFault → Option (List ℕ) → Option (List ℕ) → ℕ → Option (List ℕ) → Option (List ℕ) → Type 0
ChecksUntil engine.Read old new n w v = ChecksLines old n w v
ChecksUntil engine.TooManyTurns old new n w v = ChecksLines old n w v
ChecksUntil engine.Write old new n w v = ChecksPart old new n w v ⊎ ChecksUncounted old new n w v
ChecksUntil engine.NoMemory old new n w v = ⊥
