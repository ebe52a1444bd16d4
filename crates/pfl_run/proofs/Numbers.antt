-- Words without a fault name one of the program's subcommands, and give each option of `serve` a number in its range.
use Rattle.std.proofs.Common.{◌≡◌, ℕ, ◌<◌, Bool, true, false, List, [], ◌∷◌, length, Option, Some, None, refl, sym, ◌∙◌, ap, subst, arith, cond}
use Rattle.std.proofs.Common.{codes, inl, inr, slice_index}
use Rattle.std.specs.Prelude.{not, ◌&&◌, ◌||◌, ◌⊎◌, is_some, find, option_map, option_and_then, slice_get, unwrap_or}
use Rattle.std.specs.Option.{option_map_or}
use Rattle.std.specs.List.{list_any}
use Rattle.std.specs.Str.{bytes_eq}
use Rattle.clap.proofs.ValueTestLemmas.{accepts-Accepts}
use Rattle.clap.specs.ValueTests.{accepts}
use Rattle.clap.specs.Kinds.{Kinds, check_kinds, or_else, values_kinds}
use Rattle.clap.specs.Faults.{check_fault, defaults_fault, entered_fault, fault_of, level_fault, settle_fault, walk_fault}
use Rattle.clap.specs.Takes.{is_given}
use Rattle.clap.specs.Walk.{Held, Names, Row, Text, first_of, finished, nothing_held, rows_after, settled, walk, walk_from}
use Rattle.clap.specs.Simple.{Shape, argument_words, built, entered, names_of, rows_at, subcommand_of}
use Rattle.clap.specs.declared.builder.value_parser.ValueParser.TheVariants as parser
use Rattle.clap.specs.declared.error.kind.ErrorKind.{ErrorKind}
use Rattle.clap.specs.declared.error.kind.ErrorKind.TheVariants.{MissingRequiredArgument, ValueValidation}
use Rattle.pfl_run.specs.Modes.{lab_app}
use Rattle.pfl_run.specs.inner.Modes.{HasBoth, HasNumber, IsMet}
use Rattle.pfl_run.proofs.Passing.{or_else_first, or_else_second, Each, Meets, level_kept, row_given}

-- there are values, and each writes a number from 1 to `most`
abbrev AreNumbers : ℕ → List Text → Type 0
AreNumbers most values = (0 < length values) × (values_kinds false (parser.Unsigned 1 most) values ≡ [])

-- the values of an option of `serve` are good
abbrev Good : Text → List Text → Type 0
Good id values = (id ≡ codes "port" → AreNumbers 65535 values) × (id ≡ codes "sessions" → AreNumbers 8 values)

-- the third of the subcommands, as it is built: `serve`
abbrev third : List Shape → Shape
third (a ∷ b ∷ c ∷ rest) = c
third _ = lab_app.top

abbrev serve : Shape
serve = third (built lab_app).subs

is_accepted : (b : Bool) (k : ErrorKind) → cond b [] (k ∷ []) ≡ [] → b ≡ true
is_accepted true k h = refl
is_accepted false k h = cc

first_number : (most : ℕ) (values : List Text) → AreNumbers most values → HasNumber most (slice_get values 0)
first_number most [] h = absurd (omega (arith, h.0))
first_number most (v ∷ vs) h =
    let accepted : accepts false (parser.Unsigned 1 most) v ≡ true = is_accepted _ ValueValidation (or_else_first _ _ h.1) in
    accepts-Accepts false (parser.Unsigned 1 most) v accepted

-- texts that begin with different bytes
heads_differ : (s t : Text) (m n : ℕ) → slice_index s 0 ≡ m → slice_index t 0 ≡ n → m < n ⊎ n < m → s ≡ t → ⊥
heads_differ s t m n one two differ same =
    let equal : m ≡ n = sym one ∙ (ap (λ (u : Text). slice_index u 0) same ∙ two) in
    elim differ [
      | inl less ↦ omega (arith, equal, less)
      | inr more ↦ omega (arith, equal, more)
    ]

port_first : codes "port" ≡ codes "sessions" → ⊥
port_first = heads_differ (codes "port") (codes "sessions") 112 115 refl refl (inl (omega arith))

help_port : codes "help" ≡ codes "port" → ⊥
help_port = heads_differ (codes "help") (codes "port") 104 112 refl refl (inl (omega arith))

help_sessions : codes "help" ≡ codes "sessions" → ⊥
help_sessions = heads_differ (codes "help") (codes "sessions") 104 115 refl refl (inl (omega arith))

-- the arguments of `serve` are as `Passing` wants them
serve_meets : Each (Meets Good) serve.rules
serve_meets = (
  ((inl (refl, refl), refl), λ vs some ok. (λ same. (some, ok), λ same. absurd (port_first same))),
  (
    ((inl (refl, refl), refl), λ vs some ok. (λ same. absurd (port_first (sym same)), λ same. (some, ok))),
    (((inr refl, refl), λ vs some ok. (λ same. absurd (help_port same), λ same. absurd (help_sessions same))), tt),
  ),
)

both_given : (p s : Bool) → cond ((true && not p) || ((true && not s) || (false || false))) (MissingRequiredArgument ∷ []) [] ≡ [] → (p ≡ true) × (s ≡ true)
both_given true true h = (refl, refl)
both_given true false h = cc
both_given false true h = cc
both_given false false h = cc

-- a level of words without a fault passes its last test
level_checked : (s : Shape) (names : Names) (h : Held) (words : List Text) (met : Bool) (below : Kinds) →
    level_fault s names h words met below ≡ [] → check_fault s (finished s.rules (walk s.rules names h words).held) met ≡ []
level_checked s names h words met below e =
    let end = (walk s.rules names h words).held in
    let d = defaults_fault (settled s.rules end).rows s.rules in
    let c = settle_fault s.rules s.args_override_self end in
    let k = check_fault s (finished s.rules end) met in
    or_else_second d k (or_else_second c (or_else d k) (or_else_second below (or_else c (or_else d k))
    (or_else_second (walk_fault s names (walk_from h) words) (or_else below (or_else c (or_else d k))) e)))

-- both options were given
given : (words : List Text) → level_fault serve [] nothing_held words false [] ≡ [] →
    (is_given (codes "port") (rows_after serve.rules [] words) ≡ true) × (is_given (codes "sessions") (rows_after serve.rules [] words) ≡ true)
given words e = both_given _ _ (level_checked serve [] nothing_held words false [] e)

-- the text of a row
text_of : (id : Text) (rows : List Row) (r : Row) (most : ℕ) → find (λ r. bytes_eq r.id id) rows ≡ Some r → AreNumbers most r.values
    → HasNumber most (first_of id rows)
text_of id rows r most found numbers =
    subst (λ (o : Option Row). HasNumber most (option_and_then (λ r. slice_get r.values 0) o)) (sym found) (first_number most r.values numbers)

-- the numbers of `serve` at words without a fault
level_numbers : (words : List Text) → level_fault serve [] nothing_held words false [] ≡ [] →
    HasNumber 65535 (first_of (codes "port") (rows_after serve.rules [] words)) × HasNumber 8 (first_of (codes "sessions") (rows_after serve.rules [] words))
level_numbers words e =
    let rows = rows_after serve.rules [] words in
    let kept = level_kept Good serve words refl serve_meets e in
    let both = given words e in
    let port = row_given Good (codes "port") rows kept both.0 in
    let sessions = row_given Good (codes "sessions") rows kept both.1 in
    (text_of (codes "port") rows port.0 65535 port.1 (port.2.0 refl), text_of (codes "sessions") rows sessions.0 8 sessions.1 (sessions.2.1 refl))

-- the subcommands of the program, as they are built
abbrev first : List Shape → Shape
first (a ∷ rest) = a
first _ = lab_app.top

abbrev second : List Shape → Shape
second (a ∷ b ∷ rest) = b
second _ = lab_app.top

abbrev run : Shape
run = first (built lab_app).subs

abbrev check : Shape
check = second (built lab_app).subs

-- what is found among them
abbrev met_at : Bool → Bool → Bool → List Text → Option (Text × List Row)
met_at b c d words = option_map (λ s. rows_at s words) (cond b (Some run) (cond c (Some check) (cond d (Some serve) None)))

-- a subcommand that is met without a fault is one of the three, and `serve` has its numbers
chosen : (b c d : Bool) (words : List Text) →
    option_map_or (λ s. level_fault s [] nothing_held words false []) (cond b (Some run) (cond c (Some check) (cond d (Some serve) None))) [] ≡ [] →
    is_some (met_at b c d words) ≡ true → IsMet (met_at b c d words)
chosen true c d words e some = inl (inl refl)
chosen false true d words e some = inl (inr refl)
chosen false false true words e some = inr (refl, level_numbers words e)
chosen false false false words e some = cc

stopped : (stop : Option (Text × List Text)) → entered_fault (built lab_app) stop ≡ [] →
    is_some (entered (built lab_app) stop) ≡ true → IsMet (entered (built lab_app) stop)
stopped None e some = cc
stopped (Some p) e some = chosen _ _ _ p.1 e some

-- a command that wants a subcommand has met one
met_subcommand : (met wants_help wants_argument : Bool) → check_kinds (not met && wants_help) (not met && true) wants_argument ≡ [] → met ≡ true
met_subcommand true x z h = refl
met_subcommand false true z h = cc
met_subcommand false false z h = cc

-- and so at the words of the whole command line
pub words_meet : (words : List Text) → fault_of lab_app words ≡ [] → IsMet (subcommand_of lab_app words)
words_meet words h =
    let top = (built lab_app).top in
    let names = names_of (built lab_app) in
    let after = argument_words lab_app words in
    let end = walk top.rules names nothing_held after in
    let met = is_some (entered (built lab_app) end.stopped) in
    let below : entered_fault (built lab_app) end.stopped ≡ [] = or_else_first _ _ (or_else_second _ _ h) in
    let checked = level_checked top names nothing_held after met (entered_fault (built lab_app) end.stopped) h in
    stopped end.stopped below (met_subcommand met false
    (not (top.subcommand_negates_reqs && met) && list_any (λ a. a.required && not (is_given a.id (finished top.rules end.held))) top.rules) checked)

-- names that begin with different bytes
names_differ : (s t : Text) → (s ≡ t → ⊥) → Some s ≡ Some t → ⊥
names_differ s t differ same = differ (ap (λ (o : Option Text). unwrap_or o []) same)

not_run : codes "run" ≡ codes "serve" → ⊥
not_run = heads_differ (codes "run") (codes "serve") 114 115 refl refl (inl (omega arith))

not_check : codes "check" ≡ codes "serve" → ⊥
not_check = heads_differ (codes "check") (codes "serve") 99 115 refl refl (inl (omega arith))

-- where `serve` was met, it has its numbers
pub both_had : (met : Option (Text × List Row)) → IsMet met → option_map (λ p. p.0) met ≡ Some (codes "serve") → HasBoth met
both_had met h name = elim h [
  | inl other ↦ elim other [
    | inl is_run ↦ absurd (names_differ (codes "run") (codes "serve") not_run (sym is_run ∙ name))
    | inr is_check ↦ absurd (names_differ (codes "check") (codes "serve") not_check (sym is_check ∙ name))
  ]
  | inr is_serve ↦ is_serve.1
]
