-- The pair before any event is a world.
use Rattle.std.specs.Prelude.{◌≤◌, ℕ, refl}
use Rattle.std.specs.Ordering.{nat_cmp}
use Rattle.std.proofs.Common.{◌∙◌, sym, subst, arith}
use Rattle.pfl_base.specs.Numbers.{greatest}
use Rattle.pfl_edits.proofs.ForCallers.{get-empty, len-empty, some_is_none}
use Rattle.pfl_node.proofs.ForCallers.desk.{new_node-is}
use Rattle.pfl_link.specs.Links.{InFlight, IsLink, empty_link}
use Rattle.pfl_world.specs.Laws.{NewWorldsAreWorlds, LateWorldsAreWorlds}

none_in_flight : (limit mtu next : ℕ) → next ≤ greatest → IsLink (empty_link limit mtu next)
none_in_flight limit mtu next low = record {
  few = subst (λ (k : ℕ). k ≤ limit) (sym (len-empty nat_cmp InFlight)) (omega arith);
  below = λ ticket f is. absurd (some_is_none f (sym is ∙ get-empty nat_cmp ticket));
  short = λ ticket f is. absurd (some_is_none f (sym is ∙ get-empty nat_cmp ticket));
  countable = low;
}

pub late_world-is : LateWorldsAreWorlds
late_world-is l a b start limits rules_a rules_b low = record {
  a = new_node-is l a 1 start 0 limits rules_a low (omega arith);
  b = new_node-is l b 2 start 0 limits rules_b low (omega arith);
  link = none_in_flight l.frames l.mtu start low;
  parts = record { nodes = refl; link = refl; mtu = refl; countable = low };
}

pub new_world-is : NewWorldsAreWorlds
new_world-is l a b limits rules_a rules_b = record {
  a = new_node-is l a 1 1 0 limits rules_a (omega arith) (omega arith);
  b = new_node-is l b 2 1 0 limits rules_b (omega arith) (omega arith);
  link = none_in_flight l.frames l.mtu 1 (omega arith);
  parts = record { nodes = refl; link = refl; mtu = refl; countable = omega arith };
}
