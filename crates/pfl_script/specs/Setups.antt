-- How lines set up a pair (this project's profile).
use Rattle.std.specs.Prelude.{◌≡◌, ℕ, ◌+◌, ◌<◌, ◌≤◌, Bool, true, false, not, List, [], ◌∷◌, ◌++◌, length, set, take, if◌then◌else◌, Option, Some, None, ◌⊎◌}
use Rattle.std.specs.Prelude.{Result, Ok, Err}
use Rattle.std.specs.List.{flat_map, fold, list_all}
use Rattle.std.specs.Option.{option_or}
use Rattle.pfl_base.specs.declared.node_id.NodeId.{NodeId}
use Rattle.pfl_base.specs.declared.node_id.NodeId.TheVariants.{A, B}
use Rattle.pfl_base.specs.declared.class.Class.{Class}
use Rattle.pfl_base.specs.Classes.{class_number}
use Rattle.pfl_rules.specs.declared.rule.Rule.{Rule}
use Rattle.pfl_rules.specs.declared.fault.RuleFault.{RuleFault}
use Rattle.pfl_rules.specs.Rules.{Rules, no_timeouts, rule_set, rule_fault, timed}
use Rattle.pfl_language.specs.declared.limits.Limits.{Limits}
use Rattle.pfl_language.specs.Limits.{default_limits, with_kernel, with_limit}
use Rattle.pfl_lines.specs.declared.fault.LineFault.{LineFault}
use Rattle.pfl_lines.specs.declared.setup.SetupLine.{SetupLine}
use Rattle.pfl_lines.specs.declared.setup.SetupLine.TheVariants as setup
use Rattle.pfl_lines.specs.Setup.{parsed_setup}
use Rattle.pfl_script.specs.declared.setup_fault.SetupFault.{SetupFault}
use Rattle.pfl_script.specs.declared.setup_fault.SetupFault.TheVariants as fault
use Rattle.pfl_script.specs.declared.setup_text.SetupText.{SetupText}
use Rattle.pfl_script.specs.declared.setup_text.SetupText.TheVariants as setup_text
use Rattle.pfl_reader.specs.Saids.{kept_setup}
use Rattle.pfl_reader.specs.Scans.{Kept, head_of, has_word, TakesLines}
use Rattle.pfl_reader.specs.Readers.{Source}
use Rattle.pfl_script.specs.Readers.{counted_on}
use Rattle.pfl_script.specs.Answers.{AreLines, AreFirst}

-- what lines have set: limits, timeouts in the order of the classes' numbers, and the rules of either node
pub record Draft : Type 0 where
  pub limits : Limits
  pub timeouts : List (Option ℕ)
  pub a : List Rule
  pub b : List Rule

-- nothing is set
abbrev pub nothing_set : Draft
nothing_set = record { limits = default_limits; timeouts = no_timeouts; a = []; b = [] }

-- one rule more of a node
abbrev pub with_rule : Draft → NodeId → Rule → Draft
with_rule d A rule = record d { a = d.a ++ rule ∷ [] }
with_rule d B rule = record d { b = d.b ++ rule ∷ [] }

-- the seconds of a class
abbrev pub with_timeout : Draft → Class → ℕ → Draft
with_timeout d class seconds = record d { timeouts = set d.timeouts (class_number class) (Some seconds) }

-- what a setup line sets
abbrev pub set_by : Draft → SetupLine → Draft
set_by d (setup.Set limit n) = record d { limits = with_limit d.limits limit n }
set_by d (setup.Timeout class seconds) = with_timeout d class seconds
set_by d (setup.Rule node rule) = with_rule d node rule
set_by d (setup.Kernel kernel) = record d { limits = with_kernel d.limits kernel }
set_by d setup.Open = d

-- the setup line ends the setup
abbrev pub is_open : SetupLine → Bool
is_open setup.Open = true
is_open _ = false

-- the setup line gives a node one rule more
abbrev pub is_rule : SetupLine → Bool
is_rule (setup.Rule node rule) = true
is_rule _ = false

-- what a line says, if it has a word and is no comment
unfoldable pub said : List ℕ → Option (Result SetupLine LineFault)
said line = if has_word (head_of line) then Some (parsed_setup line) else None

-- what a line of which this is kept says
unfoldable pub kept_words : Kept → Option (Result SetupLine LineFault)
kept_words k = if has_word k.head then Some (kept_setup k) else None

-- what is set once this is said
abbrev pub set_by_said : Draft → Option (Result SetupLine LineFault) → Draft
set_by_said d None = d
set_by_said d (Some (Err fault)) = d
set_by_said d (Some (Ok line)) = set_by d line

-- the setup goes on: nothing is said, or what sets something
abbrev pub goes_on : Option (Result SetupLine LineFault) → Bool
goes_on None = true
goes_on (Some (Err fault)) = false
goes_on (Some (Ok line)) = not (is_open line)

-- a rule is said
abbrev pub says_rule : Option (Result SetupLine LineFault) → Bool
says_rule (Some (Ok line)) = is_rule line
says_rule _ = false

-- what lines set, one after another: of each limit and each timeout the last value, and each node's rules in their order
unfoldable pub drafted : List (List ℕ) → Draft
drafted lines = fold (λ d line. set_by_said d (said line)) nothing_set lines

-- none of the lines ends the setup, and none is faulty
unfoldable pub all_go_on : List (List ℕ) → Bool
all_go_on lines = list_all (λ line. goes_on (said line)) lines

-- the lines up to `open`, which is number n, were taken, and they set this
pub record Opens (old new : Option (List ℕ)) (n : ℕ) (d : Draft) : Type 0 where
  pub before : List (List ℕ)
  pub last : List ℕ
  pub taken : TakesLines old new (before ++ last ∷ [])
  pub going : all_go_on before ≡ true
  pub opened : said last ≡ Some (Ok setup.Open)
  pub draft : d ≡ drafted before
  pub number : n ≡ length before + 1

-- line n is the first that goes on with no setup, by this fault
pub record IsFaultyAt (old : Option (List ℕ)) (n : ℕ) (why : LineFault) : Type 0 where
  pub before : List (List ℕ)
  pub last : List ℕ
  pub first : AreFirst old (before ++ last ∷ [])
  pub going : all_go_on before ≡ true
  pub faulty : said last ≡ Some (Err why)
  pub number : n ≡ length before + 1

-- none of all n lines ends the setup
pub record IsUnopened (old : Option (List ℕ)) (n : ℕ) : Type 0 where
  pub lines : List (List ℕ)
  pub all : AreLines old lines
  pub going : all_go_on lines ≡ true
  pub number : n ≡ length lines

-- the first fault of the rules: those of node a come first
abbrev pub first_rule_fault : Draft → Option RuleFault
first_rule_fault d = option_or (rule_fault d.a) (rule_fault d.b)

-- limits and rule sets are those that lines set, and both sets have the timeouts
pub record Finishes (d : Draft) (limits : Limits) (a b : Rules) : Type 0 where
  pub set : limits ≡ d.limits
  pub rules_a : a ≡ timed d.timeouts (rule_set d.a)
  pub rules_b : b ≡ timed d.timeouts (rule_set d.b)
  pub faultless : first_rule_fault d ≡ None

-- a setup was read up to its line `open`
pub record ReadsSetup (old new : Option (List ℕ)) (limits : Limits) (a b : Rules) : Type 0 where
  pub draft : Draft
  pub number : ℕ
  pub opens : Opens old new number draft
  pub finishes : Finishes draft limits a b

-- a setup was read up to its line `open`, which is number n
pub record ReadsSetupTo (old new : Option (List ℕ)) (n : ℕ) (limits : Limits) (a b : Rules) : Type 0 where
  pub draft : Draft
  pub opens : Opens old new n draft
  pub finishes : Finishes draft limits a b

-- a line as a setup's text has it: its first 512 bytes, with a line feed after them
abbrev pub kept_line : List ℕ → List ℕ
kept_line line = take 512 line ++ 10 ∷ []

-- the text of the lines that were taken, up to `open`
pub record IsSetupText (old new : Option (List ℕ)) (text : List ℕ) : Type 0 where
  pub before : List (List ℕ)
  pub last : List ℕ
  pub taken : TakesLines old new (before ++ last ∷ [])
  pub opened : said last ≡ Some (Ok setup.Open)
  pub whole : text ≡ flat_map kept_line (before ++ last ∷ [])

-- the greatest length of the lines before `open`, as a setup's text has them, with which the text is kept: 16 MiB
abbrev pub longest_text : ℕ
longest_text = 16777216

-- the text of the lines that were taken, up to `open`, of which those before it are not too long
pub record KeepsText (old new : Option (List ℕ)) (text : List ℕ) : Type 0 where
  pub lines : IsSetupText old new text
  pub short : length (flat_map kept_line lines.before) ≤ longest_text

-- of the lines that were taken, up to `open`, those before it are too long for the text to be kept
pub record IsTooLong (old new : Option (List ℕ)) : Type 0 where
  pub before : List (List ℕ)
  pub last : List ℕ
  pub taken : TakesLines old new (before ++ last ∷ [])
  pub opened : said last ≡ Some (Ok setup.Open)
  pub long : longest_text < length (flat_map kept_line before)

-- what is kept of the text of the lines that were taken, up to `open`; where there was no memory for it, this says nothing
abbrev pub IsKeptText : {M : Type 0} → Option (List ℕ) → Option (List ℕ) → SetupText M → Type 0
IsKeptText old new (setup_text.Kept bytes) = KeepsText old new bytes.items
IsKeptText old new setup_text.TooLong = IsTooLong old new
IsKeptText old new setup_text.NoMemory = Unit {0}

-- rules were set that are no rule sets
pub record HasRuleFault (old new : Option (List ℕ)) (n : ℕ) (why : RuleFault) : Type 0 where
  pub draft : Draft
  pub opens : Opens old new n draft
  pub first : first_rule_fault draft ≡ Some why

-- there was no memory for the rule of line n, and no line before it ends the setup
pub record WantsRule (old new : Option (List ℕ)) (n : ℕ) : Type 0 where
  pub before : List (List ℕ)
  pub last : List ℕ
  pub taken : TakesLines old new (before ++ last ∷ [])
  pub going : all_go_on before ≡ true
  pub rule : says_rule (said last) ≡ true
  pub number : n ≡ length before + 1

-- there was no memory for the rule sets of a setup whose line `open` is number n; node a's rules have no fault
pub record WantsRuleSets (old new : Option (List ℕ)) (n : ℕ) : Type 0 where
  pub draft : Draft
  pub opens : Opens old new n draft
  pub faultless : rule_fault draft.a ≡ None

-- there was no memory at line n
abbrev pub WantsMemory : Option (List ℕ) → Option (List ℕ) → ℕ → Type 0
WantsMemory old new n = WantsRule old new n ⊎ WantsRuleSets old new n

-- why no setup was read
abbrev pub IsSetupFault : SetupFault → Option (List ℕ) → Source → Type 0
IsSetupFault (fault.Line n why) old new = IsFaultyAt old n why
IsSetupFault (fault.Rule n why) old new = HasRuleFault old new.left n why
IsSetupFault (fault.NoOpen n) old new = IsUnopened old n
IsSetupFault fault.Read old new = new.failed ≡ true
IsSetupFault fault.TooManyTurns old new = new.turns ≡ 16777216
IsSetupFault fault.NoMemory old new = (n : ℕ) × WantsMemory old new.left n

-- none of first lines, which are n, ends the setup
pub record GoOn (old : Option (List ℕ)) (n : ℕ) : Type 0 where
  pub lines : List (List ℕ)
  pub first : AreFirst old lines
  pub going : all_go_on lines ≡ true
  pub number : n ≡ length lines

-- this many lines were read before this fault, that of the fault among them
abbrev pub StopsAt : SetupFault → Option (List ℕ) → Option (List ℕ) → ℕ → Type 0
StopsAt (fault.Line m why) old new n = n ≡ m
StopsAt (fault.Rule m why) old new n = n ≡ m
StopsAt (fault.NoOpen m) old new n = n ≡ m
StopsAt fault.Read old new n = GoOn old n
StopsAt fault.TooManyTurns old new n = GoOn old n
StopsAt fault.NoMemory old new n = WantsMemory old new n

-- the lines that were read before this fault were counted
abbrev pub CountsLines : SetupFault → Source → Source → Type 0
CountsLines e old new = (n : ℕ) × StopsAt e old.left new.left n × (new.lines ≡ counted_on old.lines n)
