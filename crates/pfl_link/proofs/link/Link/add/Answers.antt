use Rattle.std.proofs.Common.{◌≡◌, ◌≤◌, refl, sym, subst, None, length}
use Rattle.pfl_link.specs.Links.{Link}
use Rattle.pfl_link.specs.Faults.{room_fault}
use Rattle.pfl_link.proofs.Leading.{edit-leads_back}
use Rattle.pfl_link.proofs.Kept.{sent_kept, next_free}
use Rattle.pfl_link.proofs.link.Link.add.Goals as goal

pub set-requires : goal.set-requires
set-requires g c =
    let free = subst (λ (l : Link). room_fault l ≡ None) (sym c.self.view_is) c.requires.free in
    let short = subst (λ (l : Link). length c.args.frame.bytes ≤ l.mtu) (sym c.self.view_is) c.requires.short in
    rw (← c.self.view_is) (record { kept = sent_kept _ c.self.invariant.link c.args.frame free short })

pub returns-clause-leads_back : goal.returns-clause-leads_back
returns-clause-leads_back g c =
    rw (c.new.ensures.edit, c.set.ensures.link, ← c.self.view_is, c.requires.same)
    (edit-leads_back _ _ c.self.invariant.link (record { frame = next_free _ c.self.invariant.link; next_is = refl }))
