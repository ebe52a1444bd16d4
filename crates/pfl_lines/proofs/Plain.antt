-- A line that does not begin with `search` says a command, or has its fault.
use Rattle.std.specs.Prelude.{◌≡◌, ℕ, Bool, true, false, nat_lt, List, [], ◌∷◌, length, codes, bytes_eq, if◌then◌else◌, Result, Ok, Err, refl}
use Rattle.std.specs.List.{list_all}
use Rattle.std.proofs.Common.{◌∙◌, ap, sym}
use Rattle.pfl_language.specs.declared.command.Command.{Command}
use Rattle.pfl_lines.specs.Commands.{command_at, command_of, is_text, parsed}
use Rattle.pfl_lines.specs.Readings.{◌>>=◌, word_at}
use Rattle.pfl_lines.specs.Search.{SaysCommand, commanded, parsed_script, parts_of, says_search, script_of, searched}
use Rattle.pfl_lines.specs.Words.{words}
use Rattle.pfl_lines.specs.declared.fault.LineFault.{LineFault}
use Rattle.pfl_lines.specs.declared.fault.LineFault.TheVariants.{Long, NotAscii}
use Rattle.pfl_lines.specs.declared.search.ScriptLine.{ScriptLine}
use Rattle.pfl_lines.specs.declared.search.ScriptLine.TheVariants as script

-- the command, as a line of a script
abbrev as_script : Result Command LineFault → Result ScriptLine LineFault
as_script said = said >>= (λ command. Ok (script.Command command))

-- the first word decides
decided : (ws parts : List (List ℕ)) → says_search ws ≡ false
    → (word_at ws >>= (λ word. if bytes_eq word.0 (codes "search") then searched parts else commanded ws)) ≡ as_script (command_of ws)
unfolding command_of command_at
decided [] parts plain = refl
decided (word ∷ ws) parts plain = ap (λ (t : Bool). if t then searched parts else commanded (word ∷ ws)) plain

script_plain : (text : List ℕ) → says_search (words text) ≡ false → script_of text ≡ as_script (command_of (words text))
unfolding script_of
script_plain text plain = decided (words text) (parts_of text) plain

-- of a line that is too long, or is no text, both have the same fault
plain_script : (line : List ℕ) → says_search (words line) ≡ false → parsed_script line ≡ as_script (parsed line)
unfolding parsed_script parsed
plain_script line plain =
    let at : Result (List ℕ) LineFault → Type 0 = λ text. (text >>= script_of) ≡ as_script (text >>= (λ t. command_of (words t))) in
    elim (nat_lt 512 (length line)) as (λ t. at (if t then Err Long else (if list_all is_text line then Ok line else Err NotAscii))) [
      | true ↦ refl
      | false ↦ elim (list_all is_text line) as (λ t. at (if t then Ok line else Err NotAscii)) [
        | true ↦ script_plain line plain
        | false ↦ refl
      ]
    ]

pub says_plain : (line : List ℕ) (r : Result Command LineFault) → says_search (words line) ≡ false → r ≡ parsed line → SaysCommand r (parsed_script line)
says_plain line (Ok command) plain is = plain_script line plain ∙ ap as_script (sym is)
says_plain line (Err fault) plain is = plain_script line plain ∙ ap as_script (sym is)
