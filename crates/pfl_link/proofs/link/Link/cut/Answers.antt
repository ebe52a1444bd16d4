use Rattle.std.proofs.Common.{◌≡◌, refl, sym, subst, ◌∙◌, Some}
use Rattle.pfl_edits.specs.Maps as maps
use Rattle.pfl_link.specs.Links.{Link}
use Rattle.pfl_link.proofs.Leading.{edit-leads_back}
use Rattle.pfl_link.proofs.Kept.{cut_kept}
use Rattle.pfl_link.proofs.link.Link.cut.Goals as goal

pub set-requires : goal.set-requires
set-requires g c =
    let stood = subst (λ (l : Link). maps.get l.frames c.args.ticket ≡ Some c.in-Some.frame.now) (sym c.self.view_is) (sym c.in-Some.ensures.frame) in
    rw (← c.self.view_is, c.in_ok-short.ensures.cut) (record { kept = cut_kept _ c.self.invariant.link c.args.ticket _ c.args.count stood })

pub returns-clause-leads_back : goal.returns-clause-leads_back
returns-clause-leads_back g c =
    let whole : Some c.in-Some.frame.now ≡ Some c.in-Some-set.whole = c.in-Some.ensures.frame ∙ sym c.in-Some-set.ensures.former in
    let same : c.in-Some.frame.now ≡ c.in-Some-set.whole = cc in
    let stood = subst (λ (l : Link). maps.get l.frames c.args.ticket ≡ Some c.in-Some-set.whole) (sym c.self.view_is) (sym c.in-Some-set.ensures.former) in
    rw (c.new.ensures.edit, c.set.ensures.link, c.in_ok-short.ensures.cut, same, ← c.self.view_is)
    (edit-leads_back _ _ c.self.invariant.link (record { frame = stood; next_is = refl }))
