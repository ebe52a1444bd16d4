-- What the program's words ask for (this project's profile).
use Rattle.std.specs.Prelude.{◌≡◌, ℕ, true, List, Option, Some, option_and_then, option_map, codes, IsSomeAnd}
use Rattle.std.specs.Str.Parse.{digits_value, without_leading_plus}
use Rattle.clap.specs.Simple.{App, on_top, new_app, new_rule, new_shape, with_rule, with_subcommand, subcommand_of}
use Rattle.clap.specs.Kinds.{Kinds, IsAmong}
use Rattle.clap.specs.Values.{IsUnsignedIn, kind_of}
use Rattle.clap.specs.Walk.{Row, Rule, first_of}
use Rattle.clap.specs.declared.builder.value_parser.ValueParser.TheVariants as parser
use Rattle.clap.specs.declared.error.kind.ErrorKind.{ErrorKind}
use Rattle.clap.specs.declared.error.kind.ErrorKind.TheVariants.{DisplayHelp, DisplayVersion}
use Rattle.pfl_run.specs.declared.mode.Mode.{Mode}
use Rattle.pfl_run.specs.declared.mode.Mode.TheVariants.{Run, Check, Serve}
use Rattle.pfl_run.specs.declared.mode.WordsFault.{WordsFault}
use Rattle.pfl_run.specs.declared.mode.WordsFault.TheVariants as fault

-- an option that is wanted, whose value is a number from 1 to `most`
abbrev pub number_rule : List ℕ → ℕ → Rule
number_rule option most = record (new_rule option) {
  long = Some option;
  value_names = 1;
  parser = Some (parser.Unsigned 1 most);
  required = true;
}

-- the subcommand `serve`, with its two options
abbrev pub serve_app : App
serve_app = with_rule (with_rule (new_app (codes "serve")) (number_rule (codes "port") 65535)) (number_rule (codes "sessions") 8)

-- the program's command line: one of its subcommands is wanted, or help, or the version
abbrev pub lab_app : App
lab_app =
    with_subcommand
    (with_subcommand
    (with_subcommand (on_top (λ s. record s { disable_help_subcommand = true; subcommand_required = true; has_version = true }) (new_app (codes "pfl_lab")))
    (new_shape (codes "run")))
    (new_shape (codes "check")))
    serve_app.top

-- the word of a mode
abbrev pub mode_word : Mode → List ℕ
mode_word Run = codes "run"
mode_word Check = codes "check"
mode_word (Serve port sessions) = codes "serve"

-- the subcommand that words name
abbrev pub subcommand_name : List (List ℕ) → Option (List ℕ)
subcommand_name words = option_map (λ p. p.0) (subcommand_of lab_app words)

-- the text that a subcommand was given for an option
abbrev pub option_text : List ℕ → Option (List ℕ × List Row) → Option (List ℕ)
option_text option met = option_and_then (λ p. first_of option p.1) met

-- the text is there, and writes this number, which is one from 1 to `most`
abbrev pub WritesNumber : ℕ → Option (List ℕ) → ℕ → Type 0
WritesNumber most text n = IsSomeAnd text (λ t. IsUnsignedIn 1 most t × (n ≡ digits_value 10 (without_leading_plus t)))

-- the numbers of a mode are those that the subcommand's options write
abbrev pub HasNumbers : Option (List ℕ × List Row) → Mode → Type 0
HasNumbers met (Serve port sessions) =
    WritesNumber 65535 (option_text (codes "port") met) port × WritesNumber 8 (option_text (codes "sessions") met) sessions
HasNumbers met _ = Unit {0}

-- why words ask for no mode: a fault, or a call for help, of one of these kinds; or want of memory
abbrev pub IsWordsFault : Kinds → WordsFault → Type 0
IsWordsFault kinds (fault.Words e) = IsAmong (kind_of e) kinds
IsWordsFault kinds fault.NoMemory = Unit {0}

-- the exit status for an error of this kind: a call for help or for the version is no fault
abbrev pub kind_status : ErrorKind → ℕ
kind_status DisplayHelp = 0
kind_status DisplayVersion = 0
kind_status _ = 2

-- the exit status where words ask for no mode
abbrev pub words_status : WordsFault → ℕ
words_status (fault.Words e) = kind_status (kind_of e)
words_status fault.NoMemory = 3
