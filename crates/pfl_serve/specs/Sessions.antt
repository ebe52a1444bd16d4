-- What serving a session does, line by line (this project's profile).
use Rattle.std.specs.Prelude.{◌≡◌, ◌≤◌, ◌<◌, ℕ, ◌+◌, Bool, true, false, is_err, List, [], ◌∷◌, ◌++◌, length, map, take, slice_get, slice_index}
use Rattle.std.specs.Prelude.{if◌then◌else◌, Option, Some, None, Result, Ok, Err, ⊤, ◌⊎◌}
use Rattle.std.specs.Io.KnownBytes.{Appends}
use Rattle.pfl_language.specs.declared.command.Command.{Command}
use Rattle.pfl_session.specs.publish.Seats.{IsRead, IsOvertaken, OvertakenBefore, MakesTries}
use Rattle.pfl_script.specs.timeline.Replies.{Reply}
use Rattle.pfl_script.specs.timeline.Sizes.{is_listing}
use Rattle.pfl_script.specs.timeline.Timelines.{Timeline}
use Rattle.pfl_session.specs.declared.entry.Entry.{Entry}
use Rattle.pfl_session.specs.Ledgers.{one_more_counted}
use Rattle.pfl_session.specs.Passes.{Seen, seen_in, GoesOn, HasSeenItsCalls, HasSeenJournal, AddsOthers, AddsCall}
use Rattle.pfl_script.specs.lines.declared.fault.LineFault.{LineFault}
use Rattle.pfl_script.specs.lines.declared.session.SessionLine.{SessionLine}
use Rattle.pfl_script.specs.lines.declared.session.SessionLine.TheVariants.{View, Setup, Follow, Ask}
use Rattle.pfl_script.specs.lines.Session.{parsed_session}
use Rattle.pfl_script.specs.Answers.{AreLines, AreFirst, Drains, one_if}
use Rattle.pfl_script.specs.Replies.{reply_text}
use Rattle.pfl_script.specs.reader.Scans.{head_of, has_word, TakesLines}
use Rattle.pfl_script.specs.Texts.{bad_text}
use Rattle.pfl_script.specs.declared.fault.EngineFault.{EngineFault}
use Rattle.pfl_script.specs.declared.fault.EngineFault.TheVariants as engine
use Rattle.pfl_serve.specs.Texts.{first_sent, following_text, followed_text, full_text, overtaken_text, sent_text, view_text}

-- what sessions are served over: the opening of their lab, how many there are, the most entries of its journal, and the lines that set the pair up
pub record Site : Type 0 where
  pub opening : Timeline
  pub sessions : ℕ
  pub limit : ℕ
  pub setup : List ℕ

-- what a line says to a session, or its fault; nothing, where it has no word or is a comment
unfoldable pub said : List ℕ → Option (Result SessionLine LineFault)
said line = if has_word (head_of line) then Some (parsed_session line) else None

-- it is a fault
abbrev pub is_fault : Option (Result SessionLine LineFault) → Bool
is_fault None = false
is_fault (Some r) = is_err r

-- it asks to follow the journal
abbrev pub asks_follow : Option (Result SessionLine LineFault) → Bool
asks_follow (Some (Ok (Follow k))) = true
asks_follow _ = false

-- there are lines, and the last one asks to follow the journal
abbrev pub ends_in_follow : List (List ℕ) → Bool
ends_in_follow [] = false
ends_in_follow (line ∷ []) = asks_follow (said line)
ends_in_follow (line ∷ next ∷ lines) = ends_in_follow (next ∷ lines)

-- how many lines are faulty
abbrev pub bad_lines : List (List ℕ) → ℕ
bad_lines [] = 0
bad_lines (line ∷ lines) = one_if (is_fault (said line)) + bad_lines lines

-- an entry that a session is shown, and how many entries there were then
pub record Sending (M : Type 0) : Type 0 where
  pub entry : Entry M
  pub now : ℕ

-- how many entries there were each time
abbrev pub nows : {M : Type 0} → List (Sending M) → List ℕ
nows ts = map (λ t. t.now) ts

-- the numbers are among the others, in their order, each at a place of its own
abbrev pub AreAmong : List ℕ → List ℕ → Type 0
AreAmong [] others = ⊤
AreAmong (n ∷ ns) [] = ⊥
AreAmong (n ∷ ns) (other ∷ others) = ((n ≡ other) × AreAmong ns others) ⊎ AreAmong (n ∷ ns) others

-- the lines of entries, which count on from this number
abbrev pub sent_lines : {M : Type 0} → ℕ → List (Sending M) → List ℕ
sent_lines n [] = []
sent_lines n (t ∷ ts) = sent_text (n + 1) t.now t.entry.session t.entry.command ++ sent_lines (n + 1) ts

-- they are the entries of the journal after its first n, one after another; when each was shown there were `now` entries, it among them, and `low` at least
abbrev pub AreSent : {M : Type 0} → ℕ → ℕ → List (Sending M) → List (Entry M) → Type 0
AreSent low n [] js = ⊤
AreSent low n (t ∷ ts) js = (slice_get js n ≡ Some t.entry) × (n < t.now) × (low ≤ t.now) × (t.now ≤ length js) × AreSent low (n + 1) ts js

module _ {M : Type 0} where
  -- a revision was read, in at most three tries, and the text shows its words
  pub record SendsRevision (old new : Seen M) (text : List ℕ) : Type 0 where
    pub number : ℕ
    pub words : List ℕ
    pub read : IsRead old.viewer new.viewer words number
    pub lost : ℕ
    pub now : ℕ
    pub tries : MakesTries old.viewer new.viewer lost (slice_index words 0) now
    pub few : lost ≤ 2
    pub sent : text ≡ view_text words

  -- three tries were overtaken, and the text says where the last one began, six revisions past the old floor at least, and where it ended
  pub record SendsOvertaken (old new : Seen M) (text : List ℕ) : Type 0 where
    pub at : ℕ
    pub now : ℕ
    pub overtaken : IsOvertaken old.viewer new.viewer at now
    pub before : OvertakenBefore 3 old.viewer at
    pub tries : MakesTries old.viewer new.viewer 2 at now
    pub sent : text ≡ overtaken_text at now

  -- the answer to `view`: a revision that is not older than what the pass had seen, if one was read
  pub record IsViewed (old new : Seen M) (text : List ℕ) : Type 0 where
    pub goes_on : GoesOn old new
    pub half : new.half ≡ old.half
    pub sent : SendsRevision old new text ⊎ SendsOvertaken old new text

  -- the pass has called once more, and has seen its call
  pub record IsCalled (old new : Seen M) (command : Command) (reply : Reply) : Type 0 where
    pub call : AddsCall old new command reply
    pub half : new.half ≡ one_more_counted old.half

  -- the pass has not called, and may have seen more calls of others
  pub record IsNotCalled (old new : Seen M) : Type 0 where
    pub others : AddsOthers old new
    pub half : new.half ≡ old.half

  -- the pass has asked, called or not: it goes on, what it has seen is a journal that keeps to its limit, and what it had seen has as
  -- many entries of its session as it had called
  pub record HasAsked (site : Site) (old new : Seen M) : Type 0 where
    pub goes_on : GoesOn old new
    pub journal : HasSeenJournal site.opening site.sessions site.limit new
    pub own : HasSeenItsCalls old

  -- the call's reply
  pub record SendsReply (old new : Seen M) (command : Command) (text : List ℕ) : Type 0 where
    pub reply : Reply
    pub called : IsCalled old new command reply
    pub sent : text ≡ reply_text reply

  -- no call: the pass has seen a full journal
  pub record SendsFull (site : Site) (old new : Seen M) (text : List ℕ) : Type 0 where
    pub not_called : IsNotCalled old new
    pub full : length (seen_in new) ≡ site.limit
    pub sent : text ≡ full_text

  -- the answer to a command
  pub record IsReplied (site : Site) (old new : Seen M) (command : Command) (text : List ℕ) : Type 0 where
    pub asked : HasAsked site old new
    pub sent : SendsReply old new command text ⊎ SendsFull site old new text

  -- no answer to a command, for want of memory: it was called and its reply takes memory, or the journal has room
  pub record IsUnanswered (site : Site) (old new : Seen M) (command : Command) : Type 0 where
    pub asked : HasAsked site old new
    pub done : ((reply : Reply) × IsCalled old new command reply × (is_listing reply ≡ true)) ⊎ (IsNotCalled old new × (length (seen_in new) < site.limit))

  -- the entries after the first n were shown, up to the one of number m, and meanwhile the pass saw calls of other sessions alone; each was
  -- shown with a number that the pass loaded then, a load of its own, in their order
  pub record IsSent (site : Site) (low n m : ℕ) (old new : Seen M) (text : List ℕ) : Type 0 where
    pub asked : HasAsked site old new
    pub not_called : IsNotCalled old new
    pub sendings : List (Sending M)
    pub are : AreSent low n sendings (seen_in new)
    pub number : m ≡ n + length sendings
    pub loads : List ℕ
    pub loaded : new.viewer.loads ≡ old.viewer.loads ++ loads
    pub among : AreAmong (nows sendings) loads
    pub sent : text ≡ sent_lines n sendings

  -- the session follows the journal, from the entry that it asked for on, where there is one, and else from the end: it has been shown
  -- the entries up to number m; the pass looked once it was asked, and there were `start` of them; each entry was shown with a number that
  -- the pass loaded later
  pub record Follows (site : Site) (k : Option ℕ) (start m : ℕ) (old new : Seen M) (text : List ℕ) : Type 0 where
    pub since : length (seen_in old) ≤ start
    pub within : start ≤ length (seen_in new)
    pub looked : (later : List ℕ) × (new.viewer.loads ≡ old.viewer.loads ++ start ∷ later)
    pub lines : List ℕ
    pub sends : IsSent site start (first_sent k start) m old new lines
    pub among : AreAmong (nows sends.sendings) looked.0
    pub sent : text ≡ following_text (first_sent k start) ++ lines

  -- the answer to `follow`: all entries that there were when the pass looked first were shown at least
  pub record IsFollowed (site : Site) (k : Option ℕ) (old new : Seen M) (text : List ℕ) : Type 0 where
    pub start : ℕ
    pub number : ℕ
    pub first : List ℕ
    pub follows : Follows site k start number old new first
    pub all : start ≤ number
    pub sent : text ≡ first ++ followed_text number

  -- an answer to `follow` without its last line
  pub record IsFollowing (site : Site) (k : Option ℕ) (old new : Seen M) (text : List ℕ) : Type 0 where
    pub start : ℕ
    pub number : ℕ
    pub follows : Follows site k start number old new text

  -- the answer to what a line says
  abbrev pub IsAnswer : Site → Option (Result SessionLine LineFault) → Seen M → Seen M → List ℕ → Type 0
  IsAnswer site None old new text = (new ≡ old) × (text ≡ [])
  IsAnswer site (Some (Err fault)) old new text = (new ≡ old) × (text ≡ bad_text fault)
  IsAnswer site (Some (Ok View)) old new text = IsViewed old new text
  IsAnswer site (Some (Ok Setup)) old new text = (new ≡ old) × (text ≡ site.setup)
  IsAnswer site (Some (Ok (Follow k))) old new text = IsFollowed site k old new text
  IsAnswer site (Some (Ok (Ask command))) old new text = IsReplied site old new command text

  -- an answer of which a first part is written: one to `follow` may lack its last line
  abbrev pub IsBegun : Site → Option (Result SessionLine LineFault) → Seen M → Seen M → List ℕ → Type 0
  IsBegun site (Some (Ok (Follow k))) old new text = IsFollowing site k old new text ⊎ IsFollowed site k old new text
  IsBegun site what old new text = IsAnswer site what old new text

  -- what was written where memory was wanting for the answer: nothing of a reply; of an answer to `follow` the lines before the one that wanted it
  abbrev pub Lacks : Site → Option (Result SessionLine LineFault) → Seen M → Seen M → List ℕ → Type 0
  Lacks site (Some (Ok (Ask command))) old new text = IsUnanswered site old new command × (text ≡ [])
  Lacks site (Some (Ok (Follow k))) old new text = IsFollowing site k old new text
  Lacks site what old new text = ⊥

  -- the answers to lines, one after another
  abbrev pub Serves : Site → List (List ℕ) → Seen M → Seen M → List ℕ → Type 0
  Serves site [] old new text = (new ≡ old) × (text ≡ [])
  Serves site (line ∷ lines) old new text =
      (mid : Seen M) × (first : List ℕ) × (rest : List ℕ) × IsAnswer site (said line) old mid first
      × Serves site lines mid new rest × (text ≡ first ++ rest)

  module _ (site : Site) where
    -- all lines had their replies, the whole text was written, and they were counted; where the last one asks to follow the journal, the
    -- session's end was heard
    pub record ServesWhole (Heard : Type 0) (left rest : Option (List ℕ)) (old new : Seen M) (w v : Option (List ℕ)) (count bad : ℕ) : Type 0 where
      pub lines : List (List ℕ)
      pub all : AreLines left lines
      pub end : Drains left rest
      pub text : List ℕ
      pub serves : Serves site lines old new text
      pub written : Appends w v text
      pub counted : count ≡ length lines
      pub faulty : bad ≡ bad_lines lines
      pub heard : ends_in_follow lines ≡ true → Heard

    -- first lines had their replies, and the whole text was written
    pub record ServesFirst (left : Option (List ℕ)) (old new : Seen M) (w v : Option (List ℕ)) : Type 0 where
      pub lines : List (List ℕ)
      pub first : AreFirst left lines
      pub text : List ℕ
      pub serves : Serves site lines old new text
      pub written : Appends w v text

    -- first lines had their replies, and their whole text was written, but of the last one's only a part
    pub record ServesPart (left rest : Option (List ℕ)) (old new : Seen M) (w v : Option (List ℕ)) : Type 0 where
      pub lines : List (List ℕ)
      pub last : List ℕ
      pub taken : TakesLines left rest (lines ++ last ∷ [])
      pub mid : Seen M
      pub text : List ℕ
      pub serves : Serves site lines old mid text
      pub answer : List ℕ
      pub answers : IsBegun site (said last) mid new answer
      pub part : ℕ
      pub written : Appends w v (text ++ take part answer)

    -- first lines had their replies and their whole text was written, but for the last one, whose answer wanted memory
    pub record ServesUnanswered (left rest : Option (List ℕ)) (old new : Seen M) (w v : Option (List ℕ)) : Type 0 where
      pub lines : List (List ℕ)
      pub last : List ℕ
      pub taken : TakesLines left rest (lines ++ last ∷ [])
      pub mid : Seen M
      pub text : List ℕ
      pub serves : Serves site lines old mid text
      pub answer : List ℕ
      pub lacks : Lacks site (said last) mid new answer
      pub written : Appends w v (text ++ answer)

    -- what was done before this fault
    abbrev pub ServesUntil : EngineFault → Option (List ℕ) → Option (List ℕ) → Seen M → Seen M → Option (List ℕ) → Option (List ℕ) → Type 0
    ServesUntil engine.Read left rest old new w v = ServesFirst left old new w v
    ServesUntil engine.TooManyTurns left rest old new w v = ServesFirst left old new w v
    ServesUntil engine.Write left rest old new w v = ServesPart left rest old new w v
    ServesUntil engine.NoMemory left rest old new w v = ServesUnanswered left rest old new w v
