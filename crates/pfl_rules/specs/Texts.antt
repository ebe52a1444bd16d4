-- The canonical text of rules (this project's profile, after pf.conf(5)).
use Rattle.std.specs.Prelude.{ℕ, Option, Some, None, List, [], ◌∷◌, ◌++◌, ◌==◌, if◌then◌else◌, codes}
use Rattle.std.specs.List.{join_with_byte, flat_map, zip}
use Rattle.std.specs.Fmt.{decimal}
use Rattle.pfl_base.specs.declared.class.Class.{Class}
use Rattle.pfl_base.specs.Classes.{classes}
use Rattle.pfl_base.specs.Texts.{address_text, host_text, proto_text, class_text}
use Rattle.pfl_rules.specs.declared.action.Action.{Action}
use Rattle.pfl_rules.specs.declared.action.Action.TheVariants.{Pass, Block}
use Rattle.pfl_rules.specs.declared.rule_dir.RuleDir.{RuleDir}
use Rattle.pfl_rules.specs.declared.rule_dir.RuleDir.TheVariants.{In, Out, Any}
use Rattle.pfl_rules.specs.declared.net.Net.{Net}
use Rattle.pfl_rules.specs.declared.pool.Pool.{Pool}
use Rattle.pfl_rules.specs.declared.ports.Ports.{Ports}
use Rattle.pfl_rules.specs.declared.rule.Rule.{Rule}

-- an address and a number of bits
abbrev pub net_text : Net → List ℕ
net_text n = address_text n.addr ++ codes "/" ++ decimal n.len

-- a port, or the first and the last of several
abbrev pub ports_text : Ports → List ℕ
ports_text p = if p.first == p.last then decimal p.first else decimal p.first ++ codes ":" ++ decimal p.last

-- an address with its ports
abbrev pub pool_text : Pool → List ℕ
pool_text pool = host_text pool.addr ++ codes ":" ++ ports_text pool.ports

-- the word of an action
abbrev pub action_text : Action → List ℕ
action_text Pass = codes "pass"
action_text Block = codes "block"

-- the word of a direction
abbrev pub direction_text : RuleDir → List ℕ
direction_text In = codes "in"
direction_text Out = codes "out"
direction_text Any = codes "any"

-- the words of an option that is said
abbrev pub option_words : {X : Type 0} → List ℕ → (X → List ℕ) → Option X → List (List ℕ)
option_words word text None = []
option_words word text (Some x) = word ∷ text x ∷ []

-- the words of a timeout that is said
abbrev pub timeout_words : Class × Option ℕ → List (List ℕ)
timeout_words (class, None) = []
timeout_words (class, Some seconds) = codes "timeout" ∷ class_text class ∷ decimal seconds ∷ []

-- the words of a rule, in the order of its parts
abbrev pub rule_words : Rule → List (List ℕ)
rule_words r =
    action_text r.action ∷ direction_text r.direction ∷ []
    ++ (if r.quick then codes "quick" ∷ [] else [])
    ++ option_words (codes "proto") proto_text r.proto
    ++ option_words (codes "from") net_text r.from
    ++ option_words (codes "fport") ports_text r.from_port
    ++ option_words (codes "to") net_text r.to
    ++ option_words (codes "tport") ports_text r.to_port
    ++ (if r.any_flags then codes "flags" ∷ codes "any" ∷ [] else [])
    ++ (if r.no_sync then codes "no-sync" ∷ [] else [])
    ++ option_words (codes "max") decimal r.max
    ++ option_words (codes "nat") pool_text r.nat
    ++ option_words (codes "rdr") pool_text r.rdr
    ++ flat_map timeout_words (zip classes r.timeouts)

-- the words joined by one space
abbrev pub rule_line : Rule → List ℕ
rule_line r = join_with_byte 32 (rule_words r)

-- the rule in a line of its own
abbrev pub rule_text : Rule → List ℕ
rule_text r = rule_line r ++ 10 ∷ []

-- the text whose MD5 is the checksum: each rule in a line of its own
unfoldable pub canonical_text : List Rule → List ℕ
canonical_text rules = flat_map rule_text rules
