-- What the parse met of a subcommand: its name, its numbers, and the mode that they give.
use Rattle.std.proofs.Common.{◌≡◌, ℕ, List, [], Option, Some, None, refl, sym, ◌∙◌, subst, codes}
use Rattle.std.specs.Prelude.{option_map, Box}
use Rattle.std.specs.Box.{box_value}
use Rattle.clap.proofs.WalkLemmas.{first_value-rows}
use Rattle.clap.specs.Faults.{fault_of}
use Rattle.clap.specs.Walk.{Row, Text, first_of, rows_of}
use Rattle.clap.specs.Simple.{HasMatchesOf, subcommand_rows, subcommand_rows_of}
use Rattle.clap.specs.Matches.{first_value, found_of, subcommand_name_of}
use Rattle.clap.specs.declared.parser.matches.ArgMatches.{ArgMatches}
use Rattle.clap.specs.declared.parser.matches.ArgMatches.TheViews.{out-ArgMatches, out-SubCommand}
use Rattle.clap.specs.declared.parser.matches.SubCommand.{SubCommand}
use Rattle.pfl_run.specs.declared.mode.Mode.{Mode}
use Rattle.pfl_run.specs.declared.mode.Mode.TheVariants.{Run, Check, Serve}
use Rattle.pfl_run.specs.Modes.{lab_app, option_text, WritesNumber}
use Rattle.pfl_run.specs.inner.Modes.{HasBoth, HasNumber, IsMet, IsModeOf, IsServeOf}
use Rattle.pfl_run.proofs.Numbers.{both_had, words_meet}

-- the text of an option is that of the rows of the subcommand that was met
text_met : (option : Text) (met : Option (Text × List Row)) (rows : List Row) → option_map (λ p. p.1) met ≡ Some rows →
    option_text option met ≡ first_of option rows
text_met option None rows h = cc
text_met option (Some p) rows h = cc

-- and so as the subcommand's own matches have it
own_text : (option : Text) (m inner : ArgMatches) → option_map (λ p. p.1) (subcommand_rows_of m) ≡ Some (rows_of (found_of inner)) →
    first_value (found_of inner) option ≡ option_text option (subcommand_rows_of m)
own_text option m inner rows =
    first_value-rows (found_of inner) option ∙ sym (text_met option (subcommand_rows_of m) (rows_of (found_of inner)) rows)

-- a number that the subcommand's own matches have
pub number_had : (most : ℕ) (option : Text) (m inner : ArgMatches) →
    option_map (λ p. p.1) (subcommand_rows_of m) ≡ Some (rows_of (found_of inner)) →
    HasNumber most (option_text option (subcommand_rows_of m)) → HasNumber most (first_value (found_of inner) option)
number_had most option m inner rows h = subst (λ (t : Option Text). HasNumber most t) (sym (own_text option m inner rows)) h

-- and that they write
number_written : (most : ℕ) (option : Text) (m inner : ArgMatches) (n : ℕ) →
    option_map (λ p. p.1) (subcommand_rows_of m) ≡ Some (rows_of (found_of inner)) →
    WritesNumber most (first_value (found_of inner) option) n → WritesNumber most (option_text option (subcommand_rows_of m)) n
number_written most option m inner n rows h = subst (λ (t : Option Text). WritesNumber most t n) (own_text option m inner rows) h

-- the name of a subcommand that was met stands before its matches
rows_name : {Z : Type 0} (o : Option (Box SubCommand Z)) →
    option_map (λ p. p.0) (subcommand_rows o) ≡ option_map (λ b. (out-SubCommand (box_value b)).name.now) o
rows_name None = refl
rows_name (Some b) = refl

-- the name of what was met
pub name_met : (m : ArgMatches) → option_map (λ p. p.0) (subcommand_rows_of m) ≡ subcommand_name_of m
name_met m = rows_name (out-ArgMatches m).subcommand

-- the mode `serve`, by the subcommand's own matches
pub serve_mode : (m inner : ArgMatches) (mode : Mode) → subcommand_name_of m ≡ Some (codes "serve") →
    option_map (λ p. p.1) (subcommand_rows_of m) ≡ Some (rows_of (found_of inner)) → IsServeOf (found_of inner) mode → IsModeOf (subcommand_rows_of m) mode
serve_mode m inner Run name rows h = absurd h
serve_mode m inner Check name rows h = absurd h
serve_mode m inner (Serve port sessions) name rows h = (
  name_met m ∙ name,
  (number_written 65535 (codes "port") m inner port rows h.0, number_written 8 (codes "sessions") m inner sessions rows h.1),
)

-- where `serve` was met, it has its numbers
pub serve_had : (m : ArgMatches) → IsMet (subcommand_rows_of m) → subcommand_name_of m ≡ Some (codes "serve") → HasBoth (subcommand_rows_of m)
serve_had m h name = both_had (subcommand_rows_of m) h (name_met m ∙ name)

-- what was met is what the words name
pub words_met : (words : List Text) (m : ArgMatches) → fault_of lab_app words ≡ [] → HasMatchesOf lab_app words m → IsMet (subcommand_rows_of m)
words_met words m none h = subst (λ (met : Option (Text × List Row)). IsMet met) (sym (h refl).1) (words_meet words none)
