use Rattle.std.proofs.Common.{◌≡◌, IsTrue, ◌∙◌, ap, sym, rules}
use Rattle.pfl_queue.specs.inner.Marked.{mark_name}
use Rattle.pfl_queue.proofs.marked.fn.slot_of.find.Goals as goal

pub returns : goal.returns
returns g c =
    let is_it : (IsTrue c.eq.result → c.at.result.now.name ≡ c.captures.name) × (c.at.result.now.name ≡ c.captures.name → IsTrue c.eq.result) = search rules in
    λ at.
    let its : c.at.result.now.name ≡ at.value.name = ap mark_name (c.at.ensures.value at) in
    (λ same. sym its ∙ is_it.0 same, λ name. is_it.1 (its ∙ name))
