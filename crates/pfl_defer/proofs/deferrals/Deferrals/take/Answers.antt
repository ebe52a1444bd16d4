use Rattle.pfl_defer.proofs.Changing.{taken_out_named, none_named, none_let_go}
use Rattle.pfl_defer.proofs.deferrals.Deferrals.take.Goals as goal

pub returns-in_default-clause-held : goal.returns-in_default-clause-held
returns-in_default-clause-held g c =
    rw (← c.self.view_is) (none_named
    (record { limit = c.self.inside.limit; list = c.self.inside.list.items }) c.args.name _ c.deref.ensures.value c.in_default.ensures.place)

pub returns-in_default-clause-deferrals : goal.returns-in_default-clause-deferrals
returns-in_default-clause-deferrals g c =
    rw (← c.self.view_is) (none_let_go _ c.args.name
    (none_named (record { limit = c.self.inside.limit; list = c.self.inside.list.items }) c.args.name _ c.deref.ensures.value
    c.in_default.ensures.place))

pub invariant_of-self : goal.invariant_of-self
invariant_of-self g c =
    let out = taken_out_named _ c.self.invariant.1 c.args.name _ c.deref.ensures.value _ c.in-Some.ensures.place _
    c.remove-held.ensures.value _ c.remove-held.ensures.items in
    (rw c.remove-held.ensures.capacity c.self.invariant.0, out.kept)

pub returns-clause-held : goal.returns-clause-held
returns-clause-held g c =
    let out = taken_out_named _ c.self.invariant.1 c.args.name _ c.deref.ensures.value _ c.in-Some.ensures.place _
    c.remove-held.ensures.value _ c.remove-held.ensures.items in
    rw (← c.self.view_is) out.found

pub returns-clause-deferrals : goal.returns-clause-deferrals
returns-clause-deferrals g c =
    let out = taken_out_named _ c.self.invariant.1 c.args.name _ c.deref.ensures.value _ c.in-Some.ensures.place _
    c.remove-held.ensures.value _ c.remove-held.ensures.items in
    rw (← c.self.view_is) out.list

pub returns-clause-leads_back : goal.returns-clause-leads_back
returns-clause-leads_back g c =
    let out = taken_out_named _ c.self.invariant.1 c.args.name _ c.deref.ensures.value _ c.in-Some.ensures.place _
    c.remove-held.ensures.value _ c.remove-held.ensures.items in
    rw (← c.self.view_is, c.same.ensures.same) out.leads_back
