-- The words of what is asked of a branch (this project's profile).
use Rattle.std.specs.Prelude.{ℕ, Bool, ◌||◌, List, [], ◌∷◌, find, bytes_eq, codes, Option, is_some}
use Rattle.pfl_language.specs.declared.ask.Ask.{Ask}
use Rattle.pfl_language.specs.declared.ask.Ask.TheVariants as ask
use Rattle.pfl_language.specs.declared.event.Event.{Event}

-- the word of what is asked
abbrev pub ask_word : Ask → List ℕ
ask_word (ask.Step e) = codes "step"
ask_word (ask.Back n) = codes "back"
ask_word (ask.Forward n) = codes "forward"
ask_word ask.Show = codes "show"
ask_word (ask.Past k) = codes "past"
ask_word (ask.Why k) = codes "why"
ask_word (ask.WhyStep e) = codes "why"
ask_word (ask.Frame ticket) = codes "frame"
ask_word (ask.Excise k) = codes "excise"
ask_word ask.Restore = codes "restore"
ask_word ask.Log = codes "log"

-- what is asked by a line that says nothing but the word and the branch
abbrev pub bare_asks : List Ask
bare_asks = ask.Show ∷ ask.Restore ∷ ask.Log ∷ []

-- the one of them with the word, if there is one
abbrev pub bare_ask : List ℕ → Option Ask
bare_ask word = find (λ q. bytes_eq (ask_word q) word) bare_asks

-- what is asked by a line that says this number after the word and the branch
abbrev pub numbered_asks : ℕ → List Ask
numbered_asks n = ask.Back n ∷ ask.Forward n ∷ ask.Past n ∷ ask.Why n ∷ ask.Frame n ∷ ask.Excise n ∷ []

-- the one of them with the word, if there is one
abbrev pub numbered_ask : List ℕ → ℕ → Option Ask
numbered_ask word n = find (λ q. bytes_eq (ask_word q) word) (numbered_asks n)

-- the word asks something of a branch
abbrev pub is_ask_word : List ℕ → Bool
is_ask_word word = bytes_eq word (codes "step") || is_some (bare_ask word) || is_some (numbered_ask word 0)

-- what a line says after the word and the branch
pub data AskRest : Type 0 where
  AnEvent : Event → AskRest
  ANumber : ℕ → AskRest
  Nothing : AskRest

-- what it says of each question
abbrev pub ask_rest : Ask → AskRest
ask_rest (ask.Step e) = AnEvent e
ask_rest (ask.WhyStep e) = AnEvent e
ask_rest (ask.Back n) = ANumber n
ask_rest (ask.Forward n) = ANumber n
ask_rest (ask.Past k) = ANumber k
ask_rest (ask.Why k) = ANumber k
ask_rest (ask.Frame ticket) = ANumber ticket
ask_rest (ask.Excise k) = ANumber k
ask_rest _ = Nothing
