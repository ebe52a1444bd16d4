use Rattle.std.proofs.Common.{◌∙◌, ap, sym}
use Rattle.pfl_timeline.specs.Histories.{reached}
use Rattle.pfl_timeline.specs.Rooted.{shown}
use Rattle.pfl_timeline.proofs.branch.Branch.extend.Goals as goal

pub returns-in-Err-clause-refused : goal.returns-in-Err-clause-refused
returns-in-Err-clause-refused g c =
    let why = c.in-Err.ensures.refused in
    (why.0, ap shown (sym c.self.view_is) ∙ ap reached (sym c.deref_mut.ensures.value) ∙ why.1, why.2)

pub returns-in-Ok-clause-stepped : goal.returns-in-Ok-clause-stepped
returns-in-Ok-clause-stepped g c =
    let done = c.in-Ok.ensures.stepped in
    (done.0, done.1, ap shown (sym c.self.view_is) ∙ ap reached (sym c.deref_mut.ensures.value) ∙ done.2, done.3)
