-- The parts of a rule's text that are said only if they are set, each word after a space (this project's profile).
use Rattle.std.specs.Prelude.{ℕ, Option, Some, None, List, [], ◌++◌, codes}
use Rattle.std.specs.List.{flat_map, zip}
use Rattle.std.specs.Fmt.{decimal}
use Rattle.pfl_base.specs.declared.class.Class.{Class}
use Rattle.pfl_base.specs.Classes.{classes}
use Rattle.pfl_base.specs.Texts.{class_text, proto_text}
use Rattle.pfl_rules.specs.declared.parts.Value.{Value}
use Rattle.pfl_rules.specs.declared.parts.Value.TheVariants.{Proto, Net, Ports, Number, Pool}
use Rattle.pfl_rules.specs.Texts.{net_text, pool_text, ports_text}

-- the value of an option
abbrev pub value_text : Value → List ℕ
value_text (Proto proto) = proto_text proto
value_text (Net net) = net_text net
value_text (Ports ports) = ports_text ports
value_text (Number number) = decimal number
value_text (Pool pool) = pool_text pool

-- the word of an option and its value
abbrev pub said_text : List ℕ → Option Value → List ℕ
said_text word None = []
said_text word (Some value) = codes " " ++ word ++ codes " " ++ value_text value

-- a timeout
abbrev pub timeout_text : Class → Option ℕ → List ℕ
timeout_text class None = []
timeout_text class (Some seconds) = codes " timeout " ++ class_text class ++ codes " " ++ decimal seconds

-- the timeouts, by their class
abbrev pub timeouts_text : List (Option ℕ) → List ℕ
timeouts_text timeouts = flat_map (λ t. timeout_text t.0 t.1) (zip classes timeouts)
