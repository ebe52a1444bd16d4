-- How searches are written, and what lines of scripts say (this project's profile).
use Rattle.std.specs.Prelude.{◌≡◌, ℕ, ◌+◌, Bool, false, ◌==◌, List, [], ◌∷◌, codes, bytes_eq, if◌then◌else◌, Result, Ok, Err}
use Rattle.std.specs.Option.{option_map_or}
use Rattle.pfl_base.specs.Numbers.{greatest}
use Rattle.pfl_language.specs.declared.choice.Choice.{Choice}
use Rattle.pfl_language.specs.declared.choice.Move.{Move}
use Rattle.pfl_language.specs.declared.choice.Move.TheVariants.{Given, AnyFrame}
use Rattle.pfl_language.specs.declared.command.Command.{Command}
use Rattle.pfl_language.specs.declared.event.Event.{Event}
use Rattle.pfl_language.specs.declared.event.Event.TheVariants as events
use Rattle.pfl_language.specs.declared.event.FrameEvent.TheVariants as frame
use Rattle.pfl_language.specs.declared.goal.Goal.{Goal}
use Rattle.pfl_language.specs.declared.goal.Question.{Question}
use Rattle.pfl_language.specs.declared.goal.Question.TheVariants.{Apart, Differ, Passed, Unpassed, Dropped, Admitted, Split}
use Rattle.pfl_language.specs.declared.goal.Scope.{Scope}
use Rattle.pfl_language.specs.declared.goal.Scope.TheVariants.{Everywhere, Landed, Quiet, Settled}
use Rattle.pfl_lines.specs.declared.fault.LineFault.{LineFault}
use Rattle.pfl_lines.specs.declared.fault.LineFault.TheVariants.{Unknown, Missing, Extra}
use Rattle.pfl_lines.specs.declared.search.ScriptLine.{ScriptLine}
use Rattle.pfl_lines.specs.declared.search.ScriptLine.TheVariants as script
use Rattle.pfl_lines.specs.declared.search.SearchLine.{SearchLine}
use Rattle.pfl_lines.specs.EventWords.{bare_frame_event}
use Rattle.pfl_lines.specs.Words.{words, with_first}
use Rattle.pfl_lines.specs.Readings.{◌>>=◌, Reading, word_at}
use Rattle.pfl_lines.specs.Parts.{number_at, branch_at}
use Rattle.pfl_lines.specs.Commands.{event_at, whole_event, finished, command_of, checked}

-- what stands before, between and after the semicolons of a text
abbrev pub parts_of : List ℕ → List (List ℕ)
parts_of [] = [] ∷ []
parts_of (b ∷ bytes) = if b == 59 then [] ∷ parts_of bytes else with_first b (parts_of bytes)

-- an event, whose packet is judged as soon as its words are read
unfoldable pub judged_at : List (List ℕ) → Reading Event
judged_at ws = do
  draft ← event_at ws
  event ← whole_event draft.0
  Ok (event, draft.1)

-- ---- goals

-- EVENT
unfoldable pub passed_at : List (List ℕ) → Reading Question
passed_at ws = do
  event ← judged_at ws
  Ok (Passed event.0, event.1)

-- EVENT
unfoldable pub unpassed_at : List (List ℕ) → Reading Question
unpassed_at ws = do
  event ← judged_at ws
  Ok (Unpassed event.0, event.1)

-- EVENT
unfoldable pub dropped_at : List (List ℕ) → Reading Question
dropped_at ws = do
  event ← judged_at ws
  Ok (Dropped event.0, event.1)

-- EVENT
unfoldable pub admitted_at : List (List ℕ) → Reading Question
admitted_at ws = do
  event ← judged_at ws
  Ok (Admitted event.0, event.1)

-- a node's own event, which the other node might have had instead; any other event is Unknown
abbrev pub split_by : Event → Result Question LineFault
split_by (events.At node event) = Ok (Split node event)
split_by _ = Err Unknown

-- EVENT
unfoldable pub split_at : List (List ℕ) → Reading Question
split_at ws = do
  event ← judged_at ws
  question ← split_by event.0
  Ok (question, event.1)

-- what belongs to a question's word
abbrev pub question_by : List ℕ → List (List ℕ) → Reading Question
question_by word ws =
    if bytes_eq word (codes "apart") then Ok (Apart, ws) else
    if bytes_eq word (codes "differ") then Ok (Differ, ws) else
    if bytes_eq word (codes "passed") then passed_at ws else
    if bytes_eq word (codes "unpassed") then unpassed_at ws else
    if bytes_eq word (codes "dropped") then dropped_at ws else
    if bytes_eq word (codes "admitted") then admitted_at ws else
    if bytes_eq word (codes "split") then split_at ws else Err Unknown

-- a question's word and what belongs to it
unfoldable pub question_at : List (List ℕ) → Reading Question
question_at ws = do
  word ← word_at ws
  question_by word.0 word.1

-- the scope that the words begin with: every pair, where they begin with none
abbrev pub scope_at : List (List ℕ) → Scope × List (List ℕ)
scope_at [] = (Everywhere, [])
scope_at (word ∷ ws) =
    if bytes_eq word (codes "landed") then (Landed, ws) else
    if bytes_eq word (codes "quiet") then (Quiet, ws) else
    if bytes_eq word (codes "settled") then (Settled, ws) else (Everywhere, word ∷ ws)

-- [landed|quiet|settled] QUESTION
unfoldable pub goal_at : List (List ℕ) → Reading Goal
goal_at ws = do
  scope ← Ok (scope_at ws)
  question ← question_at scope.1
  Ok (record { question = question.0; scope = scope.0 }, question.1)

-- a goal, and no word after it
unfoldable pub goal_of : List (List ℕ) → Result Goal LineFault
goal_of ws = do
  read ← goal_at ws
  finished read

-- ---- choices

-- LEN
unfoldable pub any_cut_at : List (List ℕ) → Reading Move
any_cut_at ws = do
  len ← number_at greatest ws
  Ok (AnyFrame (frame.Cut len.0), len.1)

-- what belongs to the word of an event of any frame
abbrev pub any_frame_by : List ℕ → List (List ℕ) → Reading Move
any_frame_by word ws =
    if bytes_eq word (codes "cut") then any_cut_at ws else
    option_map_or (λ e. Ok (AnyFrame e, ws)) (bare_frame_event word) (Err Unknown)

-- the word of an event of any frame and what belongs to it
unfoldable pub any_frame_at : List (List ℕ) → Reading Move
any_frame_at ws = do
  word ← word_at ws
  any_frame_by word.0 word.1

-- EVENT
unfoldable pub given_at : List (List ℕ) → Reading Move
given_at ws = do
  event ← judged_at ws
  Ok (Given event.0, event.1)

-- `any` and what happens to any frame, or an event
unfoldable pub move_at : List (List ℕ) → Reading Move
move_at ws = do
  word ← word_at ws
  if bytes_eq word.0 (codes "any") then any_frame_at word.1 else given_at ws

-- a move, and no word after it
unfoldable pub move_of : List (List ℕ) → Result Move LineFault
move_of ws = do
  read ← move_at ws
  finished read

-- N MOVE, and no word after it: a choice of that phase
unfoldable pub choice_of : ℕ → List (List ℕ) → Result Choice LineFault
choice_of phase ws = do
  uses ← number_at greatest ws
  what ← move_of uses.1
  Ok (record { what = what; uses = uses.0; phase = phase })

-- the one word `then`
abbrev pub says_then : List (List ℕ) → Bool
says_then (word ∷ []) = bytes_eq word (codes "then")
says_then _ = false

-- what parts say after `taken` choices, in that phase: `then` begins the next phase, and any other part is a choice
unfoldable pub each_choice : ℕ → ℕ → List (List ℕ) → Result (List Choice) LineFault
each_choice taken phase [] = Ok []
each_choice taken phase (part ∷ parts) =
    if says_then (words part) then (if phase == 15 then Err Extra else each_choice taken (phase + 1) parts) else
    if taken == 16 then Err Extra else do
      choice ← choice_of phase (words part)
      others ← each_choice (taken + 1) phase parts
      Ok (choice ∷ others)

-- at most 16 choices, in at most 16 phases: one more of either is one too many, whatever it says
abbrev pub choices_of : List (List ℕ) → Result (List Choice) LineFault
choices_of parts = each_choice 0 0 parts

-- ---- lines

-- search BRANCH DEPTH RUNS GOAL, and in each further part a choice, or `then`
unfoldable pub search_of : List (List ℕ) → Result SearchLine LineFault
search_of [] = Err Missing
search_of (first ∷ parts) = do
  word ← word_at (words first)
  branch ← branch_at word.1
  depth ← number_at 64 branch.1
  most ← number_at greatest depth.1
  goal ← goal_of most.1
  choices ← choices_of parts
  Ok (record { branch = branch.0; depth = depth.0; most = most.0; goal = goal; choices = record { items = choices } })

-- what is searched for, as a line of a script
abbrev pub searched : List (List ℕ) → Result ScriptLine LineFault
searched parts = do
  search ← search_of parts
  Ok (script.Search search)

-- the command that words say, as a line of a script
abbrev pub commanded : List (List ℕ) → Result ScriptLine LineFault
commanded ws = do
  command ← command_of ws
  Ok (script.Command command)

-- what a text says as a line of a script: the first word decides
unfoldable pub script_of : List ℕ → Result ScriptLine LineFault
script_of text = do
  word ← word_at (words text)
  if bytes_eq word.0 (codes "search") then searched (parts_of text) else commanded (words text)

-- the first word is `search`
abbrev pub says_search : List (List ℕ) → Bool
says_search [] = false
says_search (word ∷ ws) = bytes_eq word (codes "search")

-- a line of a script says this command, or has this fault
abbrev pub SaysCommand : Result Command LineFault → Result ScriptLine LineFault → Type 0
SaysCommand (Ok command) said = said ≡ Ok (script.Command command)
SaysCommand (Err fault) said = said ≡ Err fault

-- what a line of a script says
unfoldable pub parsed_script : List ℕ → Result ScriptLine LineFault
parsed_script line = do
  text ← checked line
  script_of text
