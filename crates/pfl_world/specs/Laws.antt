-- Laws of the pair, in their own words (this project's profile).
use Rattle.std.specs.Prelude.{◌≤◌, ℕ}
use Rattle.pfl_base.specs.Numbers.{greatest}
use Rattle.pfl_rules.specs.Rules.{Rules, AreRules}
use Rattle.pfl_language.specs.declared.limits.Limits.{Limits}
use Rattle.pfl_language.specs.Limits.{AreLimits}
use Rattle.pfl_world.specs.Worlds.{IsWorld, new_world, new_world_at}

-- the pair before any event is a world, if its limits and rules are
abbrev pub NewWorldsAreWorlds : Type 0
NewWorldsAreWorlds = (l : Limits) (a b : Rules) → AreLimits l → AreRules a → AreRules b → IsWorld (new_world l a b)

-- and so from any first number that can be counted on from
abbrev pub LateWorldsAreWorlds : Type 0
LateWorldsAreWorlds = (l : Limits) (a b : Rules) (start : ℕ) → AreLimits l → AreRules a → AreRules b → start ≤ greatest → IsWorld (new_world_at l a b start)
