-- A node that begins anew.
use Rattle.std.specs.Prelude.{◌≡◌, ◌≤◌, ℕ, ◌+◌, false, nat_lt, refl}
use Rattle.std.proofs.Common.{◌∙◌, ap, arith}
use Rattle.std.proofs.lemmas.Bool.Decides.{nat_tests}
use Rattle.pfl_base.specs.Names.{name_cmp}
use Rattle.pfl_bulk.specs.Bulk.{no_name, first_asked}
use Rattle.pfl_edits.specs.Maps as maps
use Rattle.pfl_edits.proofs.ForCallers.{len-empty}
use Rattle.pfl_receive.specs.queue.declared.Mark.{Mark}
use Rattle.pfl_rules.specs.Rules.{Rules}
use Rattle.pfl_language.specs.declared.limits.Limits.{Limits}
use Rattle.pfl_receive.specs.desk.Changes.{ask}
use Rattle.pfl_receive.specs.desk.Nodes.{Node, new_node, is_overfull, is_overcounted}
use Rattle.pfl_node.specs.Events.{restarted}

-- one entry is not too much
one_fits : (limit entries : ℕ) → 1 ≤ limit → entries ≡ 0 → nat_lt limit (entries + 1 + 0 + 0) ≡ false
one_fits limit entries least none = grind (arith, nat_tests)

-- so a node that has seen nothing can ask
pub fresh-asks : (l : Limits) (r : Rules) (boot clock : ℕ) → 1 ≤ l.queue → is_overfull (ask (record (new_node l r boot 1 0) { clock = clock }) no_name) ≡ false
fresh-asks l r boot clock least = one_fits l.queue (maps.len (maps.empty {X = Mark} {R = name_cmp})) least (len-empty name_cmp Mark)

pub asks-as : (n : Node) (l : Limits) (r : Rules) (boot clock : ℕ) → n ≡ new_node l r boot 1 0 → 1 ≤ l.queue
    → is_overfull (ask (record n { clock = clock }) no_name) ≡ false
asks-as n l r boot clock is least = ap (λ (m : Node). is_overfull (ask (record m { clock = clock }) no_name)) is ∙ fresh-asks l r boot clock least

-- what it is then
pub anew-is : (n k m : Node) (l : Limits) (r : Rules) (boot clock : ℕ) → k ≡ new_node l r boot 1 0 → l ≡ n.limits → r ≡ n.rules → clock ≡ n.clock
    → m ≡ record (ask (record k { clock = clock }) no_name) { client = first_asked clock } → m ≡ restarted n boot
unfolding restarted
anew-is n k m l r boot clock fresh limits rules clocks is =
    is
    ∙ ap (λ (h : Node). record (ask (record h { clock = clock }) no_name) { client = first_asked clock }) fresh
    ∙ (λ i. record (ask (new_node (limits i) (rules i) boot 1 (clocks i)) no_name) { client = first_asked (clocks i) })

-- it has counted nothing
pub anew-counts : (n : Node) (boot : ℕ) → is_overcounted (restarted n boot) ≡ false
unfolding restarted
anew-counts n boot = refl

pub anew-limits : (n : Node) (boot : ℕ) → (restarted n boot).limits ≡ n.limits
unfolding restarted
anew-limits n boot = refl
