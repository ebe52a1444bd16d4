use Rattle.std.proofs.Common.{◌≡◌, refl, sym, subst, ◌∙◌, ap, Some}
use Rattle.pfl_edits.specs.Maps as maps
use Rattle.pfl_link.specs.Links.{Link}
use Rattle.pfl_link.proofs.Leading.{edit-leads_back}
use Rattle.pfl_link.proofs.Kept.{taken_kept, nothing_taken}
use Rattle.pfl_link.proofs.link.Link.take.Goals as goal

pub set-requires : goal.set-requires
set-requires g c = rw (← c.self.view_is) (record { kept = taken_kept _ c.self.invariant.link c.args.ticket })

pub returns-in-Some-clause-leads_back : goal.returns-in-Some-clause-leads_back
returns-in-Some-clause-leads_back g c =
    let stood = subst (λ (l : Link). maps.get l.frames c.args.ticket ≡ Some c.in-Some.frame) (sym c.self.view_is) (sym c.in-Some.ensures.former) in
    rw (c.new.ensures.edit, c.set.ensures.link, ← c.self.view_is) (edit-leads_back _ _ c.self.invariant.link (record { frame = stood; next_is = refl }))

pub returns-in-None-clause-unchanged : goal.returns-in-None-clause-unchanged
returns-in-None-clause-unchanged g c =
    c.set.ensures.link ∙ nothing_taken c.args.self.now c.args.ticket _ (ap (λ (l : Link). l.next) c.self.view_is) c.in-None.ensures.former
