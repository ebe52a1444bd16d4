-- How a pair is set up, line by line (this project's profile).
use Rattle.std.specs.Prelude.{ℕ, List, [], ◌∷◌, codes, bytes_eq, if◌then◌else◌, Result, Ok, Err}
use Rattle.std.specs.Option.{ok_or, option_map_or}
use Rattle.pfl_base.specs.declared.kernel.Kernel.{Kernel}
use Rattle.pfl_base.specs.Kernels.{every_rule, kernel_at_word, profile, rules_of_either, with_kernel_rule}
use Rattle.pfl_base.specs.Numbers.{greatest}
use Rattle.pfl_language.specs.declared.limits.Limit.{Limit}
use Rattle.pfl_language.specs.Limits.{limit_at_word, greatest_said}
use Rattle.pfl_lines.specs.declared.fault.LineFault.{LineFault}
use Rattle.pfl_lines.specs.declared.fault.LineFault.TheVariants.{Unknown}
use Rattle.pfl_lines.specs.declared.setup.SetupLine.{SetupLine}
use Rattle.pfl_lines.specs.declared.setup.SetupLine.TheVariants as setup
use Rattle.pfl_lines.specs.Words.{words}
use Rattle.pfl_lines.specs.Readings.{◌>>=◌, Reading, word_at, one_word}
use Rattle.pfl_lines.specs.Parts.{number_at, node_at}
use Rattle.pfl_lines.specs.Commands.{checked, finished}
use Rattle.pfl_lines.specs.Rules.{behind_word, class_at, rule_of}

-- a limit by its word
abbrev pub limit_at : List (List ℕ) → Reading Limit
limit_at ws = one_word (λ word. ok_or (limit_at_word word) Unknown) ws

-- LIMIT N
unfoldable pub limit_line_of : List (List ℕ) → Result SetupLine LineFault
limit_line_of ws = do
  limit ← limit_at ws
  n ← number_at (greatest_said limit.0) limit.1
  finished (setup.Set limit.0 n.0, n.1)

-- CLASS SECONDS
unfoldable pub timeout_line_of : List (List ℕ) → Result SetupLine LineFault
timeout_line_of ws = do
  class ← class_at ws
  seconds ← number_at greatest class.1
  finished (setup.Timeout class.0 seconds.0, seconds.1)

-- LIMIT N, or timeout CLASS SECONDS (pf.conf(5), `set timeout`)
abbrev pub set_of : List (List ℕ) → Result SetupLine LineFault
set_of ws = option_map_or timeout_line_of (behind_word (codes "timeout") ws) (limit_line_of ws)

-- NODE RULE
unfoldable pub rule_line_of : List (List ℕ) → Result SetupLine LineFault
rule_line_of ws = do
  node ← node_at ws
  rule ← rule_of node.1
  Ok (setup.Rule node.0 rule)

-- the rules of the kernel that a word stands for: one, or `all`
abbrev pub kernel_rules_of : List ℕ → Result Kernel LineFault
kernel_rules_of word =
    if bytes_eq word (codes "all") then Ok every_rule else
    option_map_or (λ rule. Ok (with_kernel_rule profile rule)) (kernel_at_word word) (Err Unknown)

-- these rules, and those of further words
abbrev pub kernel_with : Kernel → List (List ℕ) → Result Kernel LineFault
kernel_with kernel [] = Ok kernel
kernel_with kernel (word ∷ ws) = do
  more ← kernel_rules_of word
  kernel_with (rules_of_either kernel more) ws

-- WORD..
unfoldable pub kernel_line_of : List (List ℕ) → Result SetupLine LineFault
kernel_line_of ws = do
  first ← one_word kernel_rules_of ws
  kernel ← kernel_with first.0 first.1
  Ok (setup.Kernel kernel)

-- what belongs to a setup line's word
abbrev pub setup_by : List ℕ → List (List ℕ) → Result SetupLine LineFault
setup_by word ws =
    if bytes_eq word (codes "set") then set_of ws else
    if bytes_eq word (codes "rule") then rule_line_of ws else
    if bytes_eq word (codes "kernel") then kernel_line_of ws else
    if bytes_eq word (codes "open") then finished (setup.Open, ws) else Err Unknown

-- what words say
unfoldable pub setup_of : List (List ℕ) → Result SetupLine LineFault
setup_of ws = do
  word ← word_at ws
  setup_by word.0 word.1

-- what a line says
unfoldable pub parsed_setup : List ℕ → Result SetupLine LineFault
parsed_setup line = do
  text ← checked line
  setup_of (words text)
