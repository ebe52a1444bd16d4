-- Which rule decides about a packet, in the words of pf.conf(5).
use Rattle.std.specs.Prelude.{◌≡◌, ◌<◌, ◌⊎◌, ◌&&◌, ℕ, true, false, List, slice_get, Some}
use Rattle.pfl_base.specs.declared.direction.Dir.{Dir}
use Rattle.pfl_base.specs.declared.packet.Packet.{Packet}
use Rattle.pfl_rules.specs.declared.rule.Rule.{Rule}
use Rattle.pfl_rules.specs.Matching.{matches}

-- no rule matches the packet
abbrev pub NoneMatches : List Rule → Packet → Dir → Type 0
NoneMatches rules p dir = (i : ℕ) (q : Rule) → slice_get rules i ≡ Some q → matches q p dir ≡ false

-- the rule of this number decides: it matches, no rule before it that matches is quick, and it is quick, or no rule after it matches
pub record Decides (rules : List Rule) (p : Packet) (dir : Dir) (number : ℕ) (r : Rule) : Type 0 where
  pub there : slice_get rules number ≡ Some r
  pub matching : matches r p dir ≡ true
  pub before : (i : ℕ) (q : Rule) → i < number → slice_get rules i ≡ Some q → (q.quick && matches q p dir) ≡ false
  pub last : (r.quick ≡ true) ⊎ ((i : ℕ) (q : Rule) → number < i → slice_get rules i ≡ Some q → matches q p dir ≡ false)
