-- How many rows have each rule.
use Rattle.std.specs.Prelude.{ℕ, ◌≡◌, ◌==◌, Bool, false, List, map, get_or, Option, if◌then◌else◌}
use Rattle.std.specs.List.{count_by}
use Rattle.std.specs.Option.{option_map_or}
use Rattle.pfl_containers.specs.Lists.{Link}
use Rattle.pfl_table.specs.declared.row.Row.{Row}

-- the row has the rule
abbrev pub has_rule : ℕ → Row → Bool
has_rule rule r = option_map_or (λ n. n == rule) r.state.rule false

-- what a row of this rule, or of none, counts for a rule
abbrev pub once : ℕ → Option ℕ → ℕ
once rule of = if option_map_or (λ n. n == rule) of false then 1 else 0

-- how many of the rows have the rule
abbrev pub tally : ℕ → List (Link Row) → ℕ
tally rule links = count_by (has_rule rule) (map (λ l. l.value) links)

-- by the numbers of rules, how many of the rows have each; a rule after the end of the list has none
abbrev pub AreCounts : List (Link Row) → List ℕ → Type 0
AreCounts links counts = (rule : ℕ) → get_or counts rule 0 ≡ tally rule links
