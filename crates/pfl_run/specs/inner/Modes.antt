-- Which mode a subcommand asks for.
use Rattle.std.specs.Prelude.{◌≡◌, ◌⊎◌, ℕ, List, Option, Some, option_map, codes, IsSomeAnd}
use Rattle.clap.specs.Matches.{first_value}
use Rattle.clap.specs.Values.{IsUnsignedIn}
use Rattle.clap.specs.Walk.{Row}
use Rattle.clap.specs.declared.parser.matches.Found.{Found}
use Rattle.pfl_run.specs.declared.mode.Mode.{Mode}
use Rattle.pfl_run.specs.declared.mode.Mode.TheVariants.{Serve}
use Rattle.pfl_run.specs.Modes.{mode_word, option_text, HasNumbers, WritesNumber}

-- the text is there, and writes a number from 1 to `most`
abbrev pub HasNumber : ℕ → Option (List ℕ) → Type 0
HasNumber most text = IsSomeAnd text (IsUnsignedIn 1 most)

-- both options of `serve` have numbers in their ranges
abbrev pub HasBoth : Option (List ℕ × List Row) → Type 0
HasBoth met = HasNumber 65535 (option_text (codes "port") met) × HasNumber 8 (option_text (codes "sessions") met)

-- the subcommand is one of the program's, and where it is `serve` it has its numbers
abbrev pub IsMet : Option (List ℕ × List Row) → Type 0
IsMet met =
    ((option_map (λ p. p.0) met ≡ Some (codes "run")) ⊎ (option_map (λ p. p.0) met ≡ Some (codes "check")))
    ⊎ ((option_map (λ p. p.0) met ≡ Some (codes "serve")) × HasBoth met)

-- this is the mode of the subcommand, with the numbers of its options
abbrev pub IsModeOf : Option (List ℕ × List Row) → Mode → Type 0
IsModeOf met mode = (option_map (λ p. p.0) met ≡ Some (mode_word mode)) × HasNumbers met mode

-- this is the mode `serve` with the numbers of these options
abbrev pub IsServeOf : Found → Mode → Type 0
IsServeOf found (Serve port sessions) =
    WritesNumber 65535 (first_value found (codes "port")) port × WritesNumber 8 (first_value found (codes "sessions")) sessions
IsServeOf found _ = ⊥
