-- What the answers to a session say, in the words of the journal (this project's profile).
use Rattle.std.specs.Prelude.{◌≡◌, ◌≤◌, ℕ, ◌+◌, List, [], ◌∷◌, ◌++◌, length, cond, nat_eq, Option, Some, None, Result, Ok, Err, ◌⊎◌}
use Rattle.atomic_table.specs.Seated.{TableId}
use Rattle.pfl_language.specs.declared.command.Command.{Command}
use Rattle.pfl_script.specs.timeline.Replies.{Reply, reply_of}
use Rattle.pfl_session.specs.declared.entry.Entry.{Entry}
use Rattle.pfl_session.specs.Journals.{count_of, revisions_of}
use Rattle.pfl_session.specs.Labs.{IsNewPass, HasSeenOwn}
use Rattle.pfl_session.specs.Passes.{Seen, seen_in, HasSeenItsCalls}
use Rattle.pfl_script.specs.lines.declared.fault.LineFault.{LineFault}
use Rattle.pfl_script.specs.lines.declared.session.SessionLine.{SessionLine}
use Rattle.pfl_script.specs.lines.declared.session.SessionLine.TheVariants.{View, Setup, Follow, Ask}
use Rattle.pfl_script.specs.Replies.{reply_text}
use Rattle.pfl_script.specs.Texts.{bad_text}
use Rattle.pfl_serve.specs.Sessions.{said, sent_lines, AreSent, Serves, Site, Sending}
use Rattle.pfl_serve.specs.Texts.{first_sent, following_text, followed_text, full_text, overtaken_text, view_text}

-- a call: a command, and its reply
pub record Call : Type 0 where
  pub command : Command
  pub reply : Reply

-- the calls of a session among entries
abbrev pub calls_of : {M : Type 0} → ℕ → List (Entry M) → List Call
calls_of session [] = []
calls_of session (e ∷ js) =
    cond (nat_eq e.session session) (record { command = e.command; reply = reply_of e.reply } ∷ calls_of session js) (calls_of session js)

-- the text shows a revision, or that none was read
abbrev pub AnswersView : List ℕ → Type 0
AnswersView text = ((words : List ℕ) × (text ≡ view_text words)) ⊎ ((at : ℕ) × (now : ℕ) × (text ≡ overtaken_text at now))

-- the text shows entries of the journal, one after another: those after the first n, up to the one of number `start` at least
abbrev pub ShowsEntries : {M : Type 0} → ℕ → ℕ → List (Entry M) → List ℕ → Type 0
ShowsEntries {M} start n js text =
    (ts : List (Sending M)) × AreSent start n ts js × (start ≤ n + length ts) × (text ≡ (following_text n ++ sent_lines n ts) ++ followed_text (n + length ts))

-- the text replies to `follow`: there were `start` entries when it was asked
abbrev pub AnswersEntries : {M : Type 0} → Option ℕ → List (Entry M) → List ℕ → Type 0
AnswersEntries k js text = (start : ℕ) × (start ≤ length js) × ShowsEntries start (first_sent k start) js text

module _ {M : Type 0} (site : Site) (js : List (Entry M)) where
  -- the answer to what a line says to a session that makes these calls, and then the rest of them: a command has the reply of the next
  -- one, or the fault that the journal is full
  abbrev pub AnswersLine : Option (Result SessionLine LineFault) → List Call → List Call → List ℕ → Type 0
  AnswersLine None calls rest text = (calls ≡ rest) × (text ≡ [])
  AnswersLine (Some (Err fault)) calls rest text = (calls ≡ rest) × (text ≡ bad_text fault)
  AnswersLine (Some (Ok View)) calls rest text = (calls ≡ rest) × AnswersView text
  AnswersLine (Some (Ok Setup)) calls rest text = (calls ≡ rest) × (text ≡ site.setup)
  AnswersLine (Some (Ok (Follow k))) calls rest text = (calls ≡ rest) × AnswersEntries k js text
  AnswersLine (Some (Ok (Ask command))) calls rest text =
      ((reply : Reply) × (calls ≡ record { command = command; reply = reply } ∷ rest) × (text ≡ reply_text reply))
      ⊎ ((calls ≡ rest) × (text ≡ full_text))

  -- the answers to the lines of a session that makes these calls, and no others
  abbrev pub AnswersLines : List (List ℕ) → List Call → List ℕ → Type 0
  AnswersLines [] calls text = (calls ≡ []) × (text ≡ [])
  AnswersLines (line ∷ lines) calls text =
      (rest : List Call) × (first : List ℕ) × (others : List ℕ) × AnswersLine (said line) calls rest first × AnswersLines lines rest others
      × (text ≡ first ++ others)

-- What is sent to a session are the replies of its own entries, one after another, and each of its entries is reported; and where it
-- follows, entries of the journal, each under its number, without a gap: from any moment on, for no pass has called more than it has seen,
-- to one at which it has seen as many entries of its session as it has called, as it has whenever a command of it had its reply
abbrev pub SessionsSeeTheirCalls : Type 0 → Type 0
SessionsSeeTheirCalls M =
    (site : Site) (lines : List (List ℕ)) (old new : Seen M) (text : List ℕ) → Serves site lines old new text
    → old.half.count ≤ count_of old.session (seen_in old) → HasSeenItsCalls new
    → (calls : List Call) × (calls_of new.session (seen_in new) ≡ calls_of old.session (seen_in old) ++ calls)
    × AnswersLines site (seen_in new) lines calls text

-- What is sent to a session from the opening of its lab to the closing are its calls in the closed journal, each once, in order, and where
-- it follows, entries of that journal: its pass was new, and then it was served these lines, in one run or in several, and handed back
abbrev pub SessionsSeeAllTheirCalls : Type 0 → Type 0
SessionsSeeAllTheirCalls M =
    (site : Site) (session : ℕ) (publisher tally : TableId) (lines : List (List ℕ)) (old new : Seen M) (text : List ℕ) (js : List (Entry M))
    → IsNewPass publisher (revisions_of site.opening []) session tally old → Serves site lines old new text → HasSeenOwn site.opening js new
    → AnswersLines site js lines (calls_of session js) text

-- A run of a session and then another one are one run, of the lines of both
abbrev pub RunsAreOne : Type 0 → Type 0
RunsAreOne M =
    (site : Site) (lines more : List (List ℕ)) (old mid new : Seen M) (text rest : List ℕ)
    → Serves site lines old mid text → Serves site more mid new rest → Serves site (lines ++ more) old new (text ++ rest)
