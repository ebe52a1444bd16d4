-- The answer to one line, and how it fails.
use Rattle.std.specs.Prelude.{◌≡◌, ◌<◌, ℕ, Bool, true, false, List, [], length, take, if◌then◌else◌, Option, Some, None, Result, Ok, Err, ◌⊎◌}
use Rattle.std.specs.Io.KnownBytes.{Appends}
use Rattle.pfl_script.specs.lines.declared.fault.LineFault.{LineFault}
use Rattle.pfl_script.specs.lines.declared.session.SessionLine.{SessionLine}
use Rattle.pfl_script.specs.lines.declared.session.SessionLine.TheVariants.{Ask}
use Rattle.pfl_script.specs.reader.Saids.{kept_session}
use Rattle.pfl_script.specs.reader.Scans.{Kept, has_word}
use Rattle.pfl_script.specs.declared.fault.EngineFault.{EngineFault}
use Rattle.pfl_script.specs.declared.fault.EngineFault.TheVariants as engine
use Rattle.pfl_language.specs.declared.command.Command.{Command}
use Rattle.pfl_script.specs.Replies.{reply_text}
use Rattle.pfl_script.specs.timeline.declared.reply.Reply.{Reply}
use Rattle.pfl_script.specs.timeline.Replies.{reply_of}
use Rattle.pfl_script.specs.timeline.Sizes.{is_listing}
use Rattle.pfl_session.specs.declared.fault.AskFault.{AskFault}
use Rattle.pfl_session.specs.declared.fault.AskFault.TheVariants as ask
use Rattle.pfl_session.specs.Passes.{Seen, seen_in}
use Rattle.pfl_serve.specs.Sessions.{IsFollowed, IsFollowing, IsSent, IsUnanswered, Site}
use Rattle.pfl_serve.specs.Texts.{full_text}

-- what a line of which this is kept says to a session
unfoldable pub kept_said : Kept → Option (Result SessionLine LineFault)
kept_said k = if has_word k.head then Some (kept_session k) else None

-- it asks a command
abbrev pub is_command : Option (Result SessionLine LineFault) → Bool
is_command (Some (Ok (Ask command))) = true
is_command _ = false

-- the session's next line has come, or its end: bytes that were read wait, or the gate has heard
abbrev pub HasCome : (ℕ → Type 0) → ℕ → ℕ → Type 0
HasCome heard waiting session = (0 < waiting) ⊎ heard session

-- a text of this kind was written
abbrev pub Writes : (List ℕ → Type 0) → Option (List ℕ) → Option (List ℕ) → Type 0
Writes Is w v = (text : List ℕ) × Is text × Appends w v text

-- a text of this kind was written in part; or, for want of memory, one of the other kind was written
abbrev pub Breaks : (List ℕ → Type 0) → (List ℕ → Type 0) → EngineFault → Option (List ℕ) → Option (List ℕ) → Type 0
Breaks Is Lacks engine.Write w v = (text : List ℕ) × Is text × ((part : ℕ) × Appends w v (take part text))
Breaks Is Lacks engine.NoMemory w v = (text : List ℕ) × Lacks text × Appends w v text
Breaks Is Lacks engine.Read w v = ⊥
Breaks Is Lacks engine.TooManyTurns w v = ⊥

-- no text is written for want of memory
abbrev pub Nothing : List ℕ → Type 0
Nothing text = ⊥

-- the text of the answer to a command that was asked: none where memory was wanting
abbrev pub asked_text : {M : Type 0} → Result (Reply M) AskFault → List ℕ
asked_text (Ok reply) = reply_text (reply_of reply)
asked_text (Err ask.JournalFull) = full_text
asked_text (Err ask.NoMemory) = []

-- it has an answer
abbrev pub has_answer : {M : Type 0} → Result (Reply M) AskFault → Bool
has_answer (Ok reply) = true
has_answer (Err ask.JournalFull) = true
has_answer (Err ask.NoMemory) = false

-- memory was wanting for it, or may be for its reply
abbrev pub may_lack : {M : Type 0} → Result (Reply M) AskFault → Bool
may_lack (Ok reply) = is_listing (reply_of reply)
may_lack (Err ask.JournalFull) = false
may_lack (Err ask.NoMemory) = true

-- nothing was written, for want of memory for the command or its reply
abbrev pub Unanswered : {M : Type 0} → Site → Command → Seen M → Seen M → List ℕ → Type 0
Unanswered site command old new text = IsUnanswered site old new command × (text ≡ [])

-- entries after the first n were shown
abbrev pub IsSentOn : {M : Type 0} → Site → ℕ → Seen M → Seen M → List ℕ → Type 0
IsSentOn site n old new text = (m : ℕ) × IsSent site (length (seen_in old)) n m old new text

-- an answer to `follow` that may lack its last line
abbrev pub IsFollowingOn : {M : Type 0} → Site → Option ℕ → Seen M → Seen M → List ℕ → Type 0
IsFollowingOn site k old new text = IsFollowing site k old new text ⊎ IsFollowed site k old new text
