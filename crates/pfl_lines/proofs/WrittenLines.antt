-- The lines of commands are read as those commands.
use Rattle.std.proofs.Common.{◌≡◌, ℕ, ◌<◌, ◌≤◌, Bool, true, false, ◌&&◌, ◌||◌, List, [], ◌∷◌, ◌++◌, length, refl, ◌∙◌, ap, sym, arith, append_assoc}
use Rattle.std.proofs.Common.{le-ltb, le-leb, leb-true, eqb-true}
use Rattle.std.specs.Prelude.{Option, Some, None, Ok, Err, nat_le, ◌==◌, bytes_eq, codes}
use Rattle.std.specs.Fmt.{decimal}
use Rattle.std.specs.List.{AllByRecursion, list_all, list_any, join_with_byte}
use Rattle.std.proofs.lemmas.List.{append-nil}
use Rattle.std.proofs.lemmas.Slice.Eq.{bytes_eq-Decides}
use Rattle.pfl_base.specs.Numbers.{greatest}
use Rattle.pfl_base.specs.declared.proto.Proto.{Proto}
use Rattle.pfl_base.specs.declared.proto.Proto.TheVariants.{Tcp, Udp, Icmp, Other}
use Rattle.pfl_language.specs.declared.event.Event.{Event}
use Rattle.pfl_language.specs.declared.node_event.NodeEvent.TheVariants as own
use Rattle.pfl_language.specs.declared.event.Event.TheVariants as events
use Rattle.pfl_language.specs.declared.event.FrameEvent.TheVariants as frame
use Rattle.pfl_language.specs.declared.ask.Ask.{Ask}
use Rattle.pfl_language.specs.declared.ask.Ask.TheVariants as ask
use Rattle.pfl_language.specs.declared.command.Command.{Command}
use Rattle.pfl_language.specs.declared.command.Command.TheVariants as commands
use Rattle.pfl_language.specs.BranchWords.{is_letter, is_name_byte}
use Rattle.pfl_lines.specs.AskWords.{AskRest, AnEvent, ANumber, Nothing, ask_rest, ask_word}
use Rattle.pfl_lines.specs.Commands.{begins_event, step_at, why_event_at, numbered_ask_at, ask_at, fork_at, drop_at, command_at, command_of}
use Rattle.pfl_lines.specs.Commands.{whole_step, whole_why, whole_on, parsed}
use Rattle.pfl_lines.specs.declared.fault.LineFault.TheVariants.{Number}
use Rattle.pfl_lines.specs.EventWords.{is_event_word, words_of_events}
use Rattle.pfl_lines.specs.Numbers.{number_of}
use Rattle.pfl_lines.specs.Laws.{CommandsReadBack, EventWordsAreNoNumbers, IsBranchWord, IsTypedCommand, IsTypedRest, NamesAreWords, StepsReadBack}
use Rattle.pfl_lines.specs.Laws.{WhysReadBack, is_mark, is_plain}
use Rattle.pfl_lines.specs.Parts.{branch_at}
use Rattle.pfl_lines.specs.Written.{command_text, event_words, event_text, on_branch, rest_text}
use Rattle.pfl_lines.proofs.WrittenNumbers.{and-first, and-second, and-both, all_weaker}
use Rattle.pfl_lines.proofs.WrittenWords.{ArePlain, room, words-joined, checked-joined}
use Rattle.pfl_lines.proofs.WrittenPackets.{plain-is, segment_bounds}
use Rattle.pfl_lines.proofs.WrittenEvents.{event-reads, whole-reads, event_bounds, event-plain, number, number_plain}

-- ---- words for branches

marks : (low high b : ℕ) → 33 ≤ low → high ≤ 126 → (nat_le low b && nat_le b high) ≡ true → is_mark b ≡ true
marks low high b above below is =
    let from : low ≤ b = leb-true low b (and-first _ _ is) in
    let to : b ≤ high = leb-true b high (and-second (nat_le low b) _ is) in
    and-both (nat_le 33 b) (nat_le b 126) (le-leb 33 b (omega arith)) (le-leb b 126 (omega arith))

one_of : (a b : Bool) (P : Type 0) → (a ≡ true → P) → (b ≡ true → P) → (a || b) ≡ true → P
one_of true b P first second e = first refl
one_of false b P first second e = second e

name_marks : (b : ℕ) → is_name_byte b ≡ true → is_mark b ≡ true
name_marks b is =
    one_of (is_letter b || (nat_le 48 b && nat_le b 57)) (b == 45) (is_mark b ≡ true)
    (one_of (is_letter b) (nat_le 48 b && nat_le b 57) (is_mark b ≡ true) (marks 97 122 b (omega arith) (omega arith))
    (marks 48 57 b (omega arith) (omega arith)))
    (λ e. ap is_mark (eqb-true b 45 e)) is

pub names_are_words : NamesAreWords
names_are_words [] is = cc
names_are_words (c ∷ cs) is =
    let front : (is_letter c && list_all is_name_byte cs) ≡ true = and-first _ _ is in
    let few : length cs ≤ 15 = leb-true (length cs) 15 (and-second (is_letter c && list_all is_name_byte cs) _ is) in
    and-both (nat_le 1 (length (c ∷ cs)) && nat_le (length (c ∷ cs)) 32) (list_all is_mark (c ∷ cs))
    (and-both (nat_le 1 (length (c ∷ cs))) (nat_le (length (c ∷ cs)) 32) (le-leb 1 (length (c ∷ cs)) (omega arith)) (le-leb (length (c ∷ cs)) 32 (omega arith)))
    (and-both _ _ (marks 97 122 c (omega arith) (omega arith) (and-first _ _ front))
    (all_weaker is_name_byte is_mark name_marks cs (and-second (is_letter c) _ front)))

branch-reads : (name : List ℕ) (ws : List (List ℕ)) → IsBranchWord name → branch_at (name ∷ ws) ≡ Ok (name, ws)
branch-reads name ws is = rw (le-ltb 32 (length name) (plain-is 32 name is).short) refl

-- ---- the line is its words

abbrev rest_words : AskRest → List (List ℕ)
rest_words (AnEvent e) = event_words e
rest_words (ANumber n) = decimal n ∷ []
rest_words Nothing = []

abbrev command_words : Command → List (List ℕ)
command_words (commands.On name q) = ask_word q ∷ name ∷ rest_words (ask_rest q)
command_words (commands.Fork from place name) = codes "fork" ∷ from ∷ decimal place ∷ name ∷ []
command_words (commands.Drop name) = codes "drop" ∷ name ∷ []
command_words commands.Names = codes "names" ∷ []

join-next : (w : List ℕ) (ws : List (List ℕ)) → 0 < length ws → join_with_byte 32 (w ∷ ws) ≡ w ++ 32 ∷ join_with_byte 32 ws
join-next w [] some = absurd (omega arith)
join-next w (v ∷ ws) some = refl

some_words : (e : Event) → 0 < length (event_words e)
some_words (events.Flush node) = omega arith
some_words e = omega arith

-- two words, one after the other
two-joined : (w text : List ℕ) → (w ++ codes " ") ++ text ≡ w ++ 32 ∷ text
two-joined w text = append_assoc w (codes " ") text

-- a word and two texts, one after the other
three-joined : (w name text : List ℕ) → on_branch w name ++ codes " " ++ text ≡ w ++ 32 ∷ (name ++ 32 ∷ text)
three-joined w name text = two-joined ((w ++ codes " ") ++ name) text ∙ append_assoc (w ++ codes " ") name (32 ∷ text) ∙ two-joined w (name ++ 32 ∷ text)

rest-joined : (w name : List ℕ) (rest : AskRest) → on_branch w name ++ rest_text rest ≡ join_with_byte 32 (w ∷ name ∷ rest_words rest)
unfolding event_text
rest-joined w name (AnEvent e) =
    sym (append_assoc (on_branch w name) (codes " ") (join_with_byte 32 (event_words e)))
    ∙ three-joined w name (join_with_byte 32 (event_words e))
    ∙ ap (λ line. w ++ 32 ∷ line) (sym (join-next name (event_words e) (some_words e)))
rest-joined w name (ANumber n) = sym (append_assoc (on_branch w name) (codes " ") (decimal n)) ∙ three-joined w name (decimal n)
rest-joined w name Nothing = append-nil (on_branch w name) ∙ two-joined w name

fork-joined : (from place name : List ℕ) → (((from ++ codes " ") ++ place) ++ codes " ") ++ name ≡ from ++ 32 ∷ (place ++ 32 ∷ name)
fork-joined from place name =
    two-joined ((from ++ codes " ") ++ place) name
    ∙ append_assoc (from ++ codes " ") place (32 ∷ name)
    ∙ two-joined from (place ++ 32 ∷ name)

command-joined : (c : Command) → command_text c ≡ join_with_byte 32 (command_words c)
command-joined (commands.On name q) = rest-joined (ask_word q) name (ask_rest q)
command-joined (commands.Fork from place name) = ap (λ rest. codes "fork " ++ rest) (fork-joined from (decimal place) name)
command-joined (commands.Drop name) = refl
command-joined commands.Names = refl

-- ---- the words are plain, and the line has room for them

abbrev rest_bounds : AskRest → List ℕ
rest_bounds (AnEvent e) = event_bounds e
rest_bounds (ANumber n) = 10 ∷ []
rest_bounds Nothing = []

abbrev command_bounds : Command → List ℕ
command_bounds (commands.On name q) = 7 ∷ 32 ∷ rest_bounds (ask_rest q)
command_bounds (commands.Fork from place name) = 4 ∷ 32 ∷ 10 ∷ 32 ∷ []
command_bounds (commands.Drop name) = 4 ∷ 32 ∷ []
command_bounds commands.Names = 5 ∷ []

segment_room : (proto : Proto) (scale : Option ℕ) → room (segment_bounds proto scale) ≤ 44
segment_room Tcp None = omega arith
segment_room Tcp (Some s) = omega arith
segment_room Udp scale = omega arith
segment_room Icmp scale = omega arith
segment_room (Other n) scale = omega arith

event_room : (e : Event) → room (event_bounds e) ≤ 400
event_room (events.At node (own.Packet dir p)) = let h : room (segment_bounds p.proto p.scale) ≤ 44 = segment_room p.proto p.scale in omega arith
event_room (events.Of ticket (frame.Cut len)) = omega arith
event_room e = omega arith

rest_room : (rest : AskRest) → room (rest_bounds rest) ≤ 400
rest_room (AnEvent e) = event_room e
rest_room (ANumber n) = omega arith
rest_room Nothing = omega arith

command_room : (c : Command) → room (command_bounds c) ≤ 512
command_room (commands.On name q) = omega (arith, rest_room (ask_rest q))
command_room (commands.Fork from place name) = omega arith
command_room (commands.Drop name) = omega arith
command_room commands.Names = omega arith

word-plain : (q : Ask) → is_plain 7 (ask_word q) ≡ true
word-plain (ask.Step e) = refl
word-plain q = refl

rest-plain : (rest : AskRest) → IsTypedRest rest → ArePlain (rest_bounds rest) (rest_words rest)
rest-plain (AnEvent e) is = event-plain e is
rest-plain (ANumber n) is = (number_plain n is, tt)
rest-plain Nothing is = tt

command-plain : (c : Command) → IsTypedCommand c → ArePlain (command_bounds c) (command_words c)
command-plain (commands.On name q) is = (plain-is 7 (ask_word q) (word-plain q), (plain-is 32 name is.0, rest-plain (ask_rest q) is.1))
command-plain (commands.Fork from place name) is =
    (plain-is 4 (codes "fork") refl, (plain-is 32 from is.0, (number_plain place is.1, (plain-is 32 name is.2, tt))))
command-plain (commands.Drop name) is = (plain-is 4 (codes "drop") refl, (plain-is 32 name is, tt))
command-plain commands.Names is = (plain-is 5 (codes "names") refl, tt)

-- ---- the words of events

begins : (e : Event) → begins_event (event_words e) ≡ true
begins (events.At node (own.Packet dir p)) = refl
begins (events.Of ticket (frame.Cut len)) = refl
begins e = refl

-- a word that is one of these, none of which is a number
no_number : (word : List ℕ) (ws : List (List ℕ)) → AllByRecursion (λ w. number_of greatest w ≡ Err Number) ws → list_any (bytes_eq word) ws ≡ true
    → number_of greatest word ≡ Err Number
no_number word [] none is = cc
no_number word (w ∷ ws) none is =
    elim (bytes_eq word w) as (λ t. bytes_eq word w ≡ t → (t || list_any (bytes_eq word) ws) ≡ true → number_of greatest word ≡ Err Number) [
      | true ↦ λ here _. rw ((bytes_eq-Decides word w).0 here) none.0
      | false ↦ λ _ later. no_number word ws none.1 later
    ] refl is

pub event_words_are_no_numbers : EventWordsAreNoNumbers
unfolding number_of
event_words_are_no_numbers word is =
    no_number word words_of_events (refl, (refl, (refl, (refl, (refl, (refl, (refl, (refl, (refl, (refl, (refl, (refl, (refl, (refl, tt)))))))))))))) is

-- a number is no event's word
no_event_word : (word : List ℕ) (n : ℕ) (t : Bool) → is_event_word word ≡ t → number_of greatest word ≡ Ok n → t ≡ false
no_event_word word n true is reads = let none : number_of greatest word ≡ Err Number = event_words_are_no_numbers word is in cc
no_event_word word n false is reads = refl

-- ---- the commands

ask-reads : (q : Ask) (name : List ℕ) → IsBranchWord name → IsTypedRest (ask_rest q)
    → command_of (ask_word q ∷ name ∷ rest_words (ask_rest q)) ≡ Ok (commands.On name q)
unfolding command_of command_at ask_at step_at why_event_at numbered_ask_at whole_step whole_why whole_on
ask-reads (ask.Step e) name named is = rw (branch-reads name (event_words e) named, event-reads e is, whole-reads e is) refl
ask-reads (ask.WhyStep e) name named is = rw (branch-reads name (event_words e) named, begins e, event-reads e is, whole-reads e is) refl
ask-reads (ask.Why k) name named is =
    let reads : number_of greatest (decimal k) ≡ Ok k = number k is in
    rw (branch-reads name (decimal k ∷ []) named, no_event_word (decimal k) k (is_event_word (decimal k)) refl reads, reads) refl
ask-reads (ask.Back n) name named is = rw (branch-reads name (decimal n ∷ []) named, number n is) refl
ask-reads (ask.Forward n) name named is = rw (branch-reads name (decimal n ∷ []) named, number n is) refl
ask-reads (ask.Past k) name named is = rw (branch-reads name (decimal k ∷ []) named, number k is) refl
ask-reads (ask.Frame ticket) name named is = rw (branch-reads name (decimal ticket ∷ []) named, number ticket is) refl
ask-reads (ask.Excise k) name named is = rw (branch-reads name (decimal k ∷ []) named, number k is) refl
ask-reads q name named is = rw (branch-reads name [] named) refl

command-reads : (c : Command) → IsTypedCommand c → command_of (command_words c) ≡ Ok c
unfolding command_of command_at fork_at drop_at
command-reads (commands.On name q) is = ask-reads q name is.0 is.1
command-reads (commands.Fork from place name) is = rw (branch-reads from (decimal place ∷ name ∷ []) is.0, number place is.1, branch-reads name [] is.2) refl
command-reads (commands.Drop name) is = rw (branch-reads name [] is) refl
command-reads commands.Names is = refl

-- a line of plain words for which it has room says what the words say
line-reads : (bounds : List ℕ) (ws : List (List ℕ)) (c : Command) → ArePlain bounds ws → room bounds ≤ 512 → command_of ws ≡ Ok c
    → parsed (join_with_byte 32 ws) ≡ Ok c
unfolding parsed
line-reads bounds ws c plain fits reads = rw (checked-joined bounds ws plain fits, words-joined bounds ws plain) reads

pub commands_read : CommandsReadBack
commands_read c is = ap parsed (command-joined c) ∙ line-reads (command_bounds c) (command_words c) c (command-plain c is) (command_room c) (command-reads c is)

pub steps-read : StepsReadBack
steps-read name e named is =
    ap (λ text. parsed (codes "step " ++ text)) (append_assoc name (codes " ") (event_text e))
    ∙ commands_read (commands.On name (ask.Step e)) (names_are_words name named, is)

pub whys-read : WhysReadBack
whys-read name e named is =
    ap (λ text. parsed (codes "why " ++ text)) (append_assoc name (codes " ") (event_text e))
    ∙ commands_read (commands.On name (ask.WhyStep e)) (names_are_words name named, is)
