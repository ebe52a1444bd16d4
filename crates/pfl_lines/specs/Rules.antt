-- How rules are written: parts in one order, each at most once (this project's profile, after pf.conf(5)).
use Rattle.std.specs.Prelude.{ℕ, Bool, true, false, List, [], ◌∷◌, codes, bytes_eq, if◌then◌else◌, Option, Some, None, Result, Ok, Err}
use Rattle.std.specs.List.{list_any}
use Rattle.pfl_base.specs.declared.class.Class.{Class}
use Rattle.pfl_base.specs.Classes.{classes}
use Rattle.pfl_base.specs.Numbers.{greatest}
use Rattle.pfl_base.specs.Texts.{class_text}
use Rattle.pfl_base.specs.Words.{class_at_word}
use Rattle.pfl_rules.specs.declared.action.Action.{Action}
use Rattle.pfl_rules.specs.declared.net.NetFields.{NetFields}
use Rattle.pfl_rules.specs.declared.pool.Pool.{Pool}
use Rattle.pfl_rules.specs.declared.ports.PortsFields.{PortsFields}
use Rattle.pfl_rules.specs.declared.rule.Rule.{Rule}
use Rattle.pfl_rules.specs.declared.rule_dir.RuleDir.{RuleDir}
use Rattle.pfl_rules.specs.Words.{action_at_word, direction_at_word}
use Rattle.pfl_lines.specs.declared.fault.LineFault.{LineFault}
use Rattle.pfl_lines.specs.declared.fault.LineFault.TheVariants.{Unknown, Number, Extra}
use Rattle.pfl_lines.specs.Readings.{◌>>=◌, Reading, one_word, choice_at}
use Rattle.pfl_lines.specs.Addresses.{net_at_word, pool_at_word, ports_at_word}
use Rattle.pfl_lines.specs.Parts.{number_at, proto_at}

-- ---- words

-- an action, `pass` or `block`
abbrev pub action_at : List (List ℕ) → Reading Action
action_at ws = choice_at action_at_word ws

-- the way of a rule's packets, `in`, `out` or `any`
abbrev pub rule_dir_at : List (List ℕ) → Reading RuleDir
rule_dir_at ws = choice_at direction_at_word ws

-- a net
abbrev pub net_at : List (List ℕ) → Reading NetFields
net_at ws = one_word net_at_word ws

-- a range of ports
abbrev pub ports_at : List (List ℕ) → Reading PortsFields
ports_at ws = one_word ports_at_word ws

-- what translation puts in the place of an end
abbrev pub pool_at : List (List ℕ) → Reading Pool
pool_at ws = one_word pool_at_word ws

-- the word `any`
abbrev pub any_of : List ℕ → Result Bool LineFault
any_of word = if bytes_eq word (codes "any") then Ok true else Err Number

-- the word `any`
abbrev pub any_at : List (List ℕ) → Reading Bool
any_at ws = one_word any_of ws

-- a class by its word
abbrev pub class_at : List (List ℕ) → Reading Class
class_at ws = choice_at class_at_word ws

-- ---- options

-- what follows an option's word, if the words begin with it
abbrev pub behind_word : List ℕ → List (List ℕ) → Option (List (List ℕ))
behind_word name [] = None
behind_word name (word ∷ ws) = if bytes_eq word name then Some ws else None

-- a value that is said
abbrev pub said : {X : Type 0} → Reading X → Reading (Option X)
said (Ok x) = Ok (Some x.0, x.1)
said (Err e) = Err e

-- a value, if the words go on after an option's word
abbrev pub if_behind : {X : Type 0} → (List (List ℕ) → Reading X) → List (List ℕ) → Option (List (List ℕ)) → Reading (Option X)
if_behind value ws None = Ok (None, ws)
if_behind value ws (Some rest) = said (value rest)

-- an option's value, if the words begin with its word
abbrev pub option_at : {X : Type 0} → List ℕ → (List (List ℕ) → Reading X) → List (List ℕ) → Reading (Option X)
option_at name value ws = if_behind value ws (behind_word name ws)

-- whether the words go on after an option's word
abbrev pub if_there : List (List ℕ) → Option (List (List ℕ)) → Bool × List (List ℕ)
if_there ws None = (false, ws)
if_there ws (Some rest) = (true, rest)

-- whether the words begin with an option's word, which has no value
abbrev pub flag_word_at : List ℕ → List (List ℕ) → Bool × List (List ℕ)
flag_word_at name ws = if_there ws (behind_word name ws)

-- `flags any`
abbrev pub any_flags_at : List (List ℕ) → Option (List (List ℕ)) → Reading Bool
any_flags_at ws None = Ok (false, ws)
any_flags_at ws (Some rest) = any_at rest

-- ---- timeouts

-- the words begin with `timeout` and this class
abbrev pub behind_class : Class → List (List ℕ) → Option (List (List ℕ))
behind_class class [] = None
behind_class class (word ∷ []) = None
behind_class class (word ∷ name ∷ ws) = if bytes_eq word (codes "timeout") then behind_word (class_text class) (name ∷ ws) else None

-- `timeout CLASS S`, if the words begin with it
unfoldable pub timeout_at : Class → List (List ℕ) → Reading (Option ℕ)
timeout_at class ws = if_behind (number_at greatest) ws (behind_class class ws)

-- the timeouts of these classes, in their order
unfoldable pub timeouts_at : List Class → List (List ℕ) → Reading (List (Option ℕ))
timeouts_at [] ws = Ok ([], ws)
timeouts_at (class ∷ rest) ws = do
  first ← timeout_at class ws
  others ← timeouts_at rest first.1
  Ok (first.0 ∷ others.0, others.1)

-- ---- rules

-- the words of options
abbrev pub option_names : List (List ℕ)
option_names =
    codes "quick" ∷ codes "proto" ∷ codes "from" ∷ codes "fport" ∷ codes "to" ∷ codes "tport" ∷ codes "flags"
    ∷ codes "no-sync" ∷ codes "max" ∷ codes "nat" ∷ codes "rdr" ∷ codes "timeout" ∷ []

-- what is wrong with a `timeout` out of its order: what is wrong with its class comes first
abbrev pub late_timeout : Reading Class → LineFault
late_timeout (Ok class) = Extra
late_timeout (Err fault) = fault

-- what is wrong with a word that is no next option: an option out of its order, or no option
abbrev pub misplaced : List ℕ → List (List ℕ) → LineFault
misplaced word ws =
    if bytes_eq word (codes "timeout") then late_timeout (class_at ws) else
    if list_any (bytes_eq word) option_names then Extra else Unknown

-- no word is left over
abbrev pub rule_ended : Rule → List (List ℕ) → Result Rule LineFault
rule_ended rule [] = Ok rule
rule_ended rule (word ∷ ws) = Err (misplaced word ws)

-- pass|block in|out|any [quick] [proto P] [from NET] [fport PORTS] [to NET] [tport PORTS] [flags any] [no-sync] [max N] [nat POOL] [rdr POOL]
-- [timeout CLASS S]...
unfoldable pub rule_of : List (List ℕ) → Result Rule LineFault
rule_of ws = do
  action ← action_at ws
  direction ← rule_dir_at action.1
  quick ← Ok (flag_word_at (codes "quick") direction.1)
  proto ← option_at (codes "proto") proto_at quick.1
  from ← option_at (codes "from") net_at proto.1
  from_port ← option_at (codes "fport") ports_at from.1
  to ← option_at (codes "to") net_at from_port.1
  to_port ← option_at (codes "tport") ports_at to.1
  any_flags ← any_flags_at to_port.1 (behind_word (codes "flags") to_port.1)
  no_sync ← Ok (flag_word_at (codes "no-sync") any_flags.1)
  max ← option_at (codes "max") (number_at greatest) no_sync.1
  nat ← option_at (codes "nat") pool_at max.1
  rdr ← option_at (codes "rdr") pool_at nat.1
  timeouts ← timeouts_at classes rdr.1
  rule_ended (record {
    action = action.0;
    direction = direction.0;
    quick = quick.0;
    proto = proto.0;
    from = from.0;
    from_port = from_port.0;
    to = to.0;
    to_port = to_port.0;
    any_flags = any_flags.0;
    no_sync = no_sync.0;
    max = max.0;
    nat = nat.0;
    rdr = rdr.0;
    timeouts = timeouts.0;
  }) timeouts.1
