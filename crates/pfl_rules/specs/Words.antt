-- Words of rules as lines are read: the value with a word is the one that prints as it (this project's profile).
use Rattle.std.specs.Prelude.{ℕ, List, [], ◌∷◌, find, bytes_eq, Option}
use Rattle.pfl_rules.specs.declared.action.Action.{Action}
use Rattle.pfl_rules.specs.declared.action.Action.TheVariants.{Pass, Block}
use Rattle.pfl_rules.specs.declared.rule_dir.RuleDir.{RuleDir}
use Rattle.pfl_rules.specs.declared.rule_dir.RuleDir.TheVariants.{In, Out, Any}
use Rattle.pfl_rules.specs.Texts.{action_text, direction_text}

-- the action with the word, if there is one
abbrev pub action_at_word : List ℕ → Option Action
action_at_word word = find (λ action. bytes_eq (action_text action) word) (Pass ∷ Block ∷ [])

-- the direction with the word, if there is one
abbrev pub direction_at_word : List ℕ → Option RuleDir
direction_at_word word = find (λ direction. bytes_eq (direction_text direction) word) (In ∷ Out ∷ Any ∷ [])
