use Rattle.std.proofs.Common.{arith}
use Rattle.pfl_defer.proofs.Changing.{appended}
use Rattle.pfl_defer.proofs.deferrals.Deferrals.append.Goals as goal

pub invariant_of-self : goal.invariant_of-self
invariant_of-self g c =
    let more = appended _ _ c.self.view_is c.self.invariant.1 c.args.name c.args.packet c.args.now c.requires.room c.requires.fresh
    c.requires.later _ c.same.ensures.same _ (rw c.unwrap.ensures at c.push.ensures.items) in
    (omega (arith, c.self.invariant.0, c.push.ensures.capacity), more.kept)

pub returns-clause-leads_back : goal.returns-clause-leads_back
returns-clause-leads_back g c =
    let more = appended _ _ c.self.view_is c.self.invariant.1 c.args.name c.args.packet c.args.now c.requires.room c.requires.fresh
    c.requires.later _ c.same.ensures.same _ (rw c.unwrap.ensures at c.push.ensures.items) in
    rw (← c.self.view_is, c.len-place.ensures, c.self.inside.list.ok.0) more.leads_back
