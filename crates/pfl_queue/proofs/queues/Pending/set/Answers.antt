use Rattle.std.proofs.Common.{sym, subst}
use Rattle.pfl_base.proofs.ForCallers.{names_total, names_exact}
use Rattle.pfl_edits.proofs.ForCallers.{set_at-keyed}
use Rattle.pfl_queue.specs.declared.edits.QueueEdit.{QueueEdit}
use Rattle.pfl_edits.specs.Maps.{set_at}
use Rattle.pfl_queue.specs.inner.Marked.{AreApart}
use Rattle.pfl_queue.specs.Queues.{Queue, IsQueue}
use Rattle.pfl_queue.specs.Edits.{redone}
use Rattle.pfl_queue.proofs.queues.Pending.set.Goals as goal

pub set-requires-clause-keyed : goal.set-requires-clause-keyed
set-requires-clause-keyed g c =
    let is = subst (λ (e : QueueEdit). IsQueue (redone e c.args.self.now)) c.in-OfMark.is c.requires.allowed in
    set_at-keyed names_total names_exact (λ m. m.name) c.args.self.now.marks c.in-OfMark.name c.in-OfMark.after is.filed

pub set-requires-in-OfName-clause-keyed : goal.set-requires-in-OfName-clause-keyed
set-requires-in-OfName-clause-keyed g c =
    let is = subst (λ (e : QueueEdit). IsQueue (redone e c.args.self.now)) c.in-OfName.is c.requires.allowed in
    set_at-keyed names_total names_exact (λ m. m.name) c.args.self.now.marks c.in-OfName.name c.in-OfName.after is.filed

pub set-requires-clause-apart : goal.set-requires-clause-apart
set-requires-clause-apart g c =
    let is = subst (λ (e : QueueEdit). IsQueue (redone e c.args.self.now)) c.in-OfMark.is c.requires.allowed in
    subst (λ (q : Queue). AreApart (set_at q.marks c.in-OfMark.name c.in-OfMark.after)) (sym c.self.view_is) is.one_number

pub set-requires-in-OfName-clause-apart : goal.set-requires-in-OfName-clause-apart
set-requires-in-OfName-clause-apart g c =
    let is = subst (λ (e : QueueEdit). IsQueue (redone e c.args.self.now)) c.in-OfName.is c.requires.allowed in
    subst (λ (q : Queue). AreApart (set_at q.marks c.in-OfName.name c.in-OfName.after)) (sym c.self.view_is) is.one_number
