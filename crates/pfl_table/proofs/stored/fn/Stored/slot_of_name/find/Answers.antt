use Rattle.std.proofs.Common.{◌≡◌, IsTrue, ◌∙◌, ap, sym, rules}
use Rattle.pfl_table.specs.inner.Filed.{name_of}
use Rattle.pfl_table.proofs.stored.fn.Stored.slot_of_name.find.Goals as goal

pub returns : goal.returns
returns g c =
    let is_it : (IsTrue c.eq.result → c.name.result ≡ c.captures.name) × (c.name.result ≡ c.captures.name → IsTrue c.eq.result) = search rules in
    λ at.
    let its : c.name.result ≡ name_of at.value = c.name.ensures ∙ ap name_of (c.at.ensures.value at) in
    (λ same. sym its ∙ is_it.0 same, λ name. is_it.1 (its ∙ name))
