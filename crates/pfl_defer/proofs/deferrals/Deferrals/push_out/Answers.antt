use Rattle.std.proofs.Common.{◌<◌, length, refl, sym, ◌∙◌, subst, arith}
use Rattle.std.proofs.lemmas.Option.{slice_get_read}
use Rattle.pfl_defer.specs.Deferring.{Deferrals}
use Rattle.pfl_defer.proofs.Changing.{taken_out, full}
use Rattle.pfl_defer.proofs.deferrals.Deferrals.push_out.Goals as goal

pub invariant_of-self : goal.invariant_of-self
invariant_of-self g c =
    let some = subst (λ (m : Deferrals). 0 < m.limit) (sym c.self.view_is) c.requires.some in
    let within : 0 < length c.self.inside.list.items = omega (arith, some, c.len.ensures, c.self.inside.list.ok.0) in
    let out = taken_out _ c.self.invariant.1 0 c.remove-held.result
    (slice_get_read c.self.inside.list.items _ 0 _ refl within c.remove-held.ensures.value) _ c.remove-held.ensures.items in
    (rw c.remove-held.ensures.capacity c.self.invariant.0, out.kept)

pub returns-clause-deferrals : goal.returns-clause-deferrals
returns-clause-deferrals g c =
    let some = subst (λ (m : Deferrals). 0 < m.limit) (sym c.self.view_is) c.requires.some in
    let within : 0 < length c.self.inside.list.items = omega (arith, some, c.len.ensures, c.self.inside.list.ok.0) in
    let at = slice_get_read c.self.inside.list.items _ 0 _ refl within c.remove-held.ensures.value in
    let out = taken_out _ c.self.invariant.1 0 c.remove-held.result at _ c.remove-held.ensures.items in
    let gone = full (record { limit = c.self.inside.limit; list = c.self.inside.list.items })
    (omega (arith, c.len.ensures, c.self.inside.list.ok.0)) c.remove-held.result at in
    rw (← c.self.view_is) (out.list ∙ sym gone.1)
