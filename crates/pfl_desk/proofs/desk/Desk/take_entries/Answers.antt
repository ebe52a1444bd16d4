use Rattle.std.proofs.Common.{length, arith}
use Rattle.std.proofs.lemmas.List.{length-map}
use Rattle.pfl_desk.specs.declared.edit.NodeEdit.TheVariants.{OfQueue}
use Rattle.pfl_desk.specs.inner.Taking.{of_queue}
use Rattle.pfl_desk.proofs.Recording.{draft-all, writes-all, writes-more}
use Rattle.pfl_desk.proofs.desk.Desk.take_entries.Goals as goal

pub invariant_of-self-2 : goal.invariant_of-self-2
invariant_of-self-2 g c =
    let taken = c.in_ok-entries.taken.list in
    let long = length-map taken OfQueue in
    let spare = c.record_all.ensures.spare in
    draft-all _ _ _ _ (of_queue taken) c.self.invariant c.in_ok-entries.ensures.makes c.record_all.ensures.list (omega (arith, long, spare))

pub returns-clause-writes : goal.returns-clause-writes
returns-clause-writes g c =
    let taken = c.in_ok-entries.taken.list in
    let long = length-map taken OfQueue in
    let spare = c.record_all.ensures.spare in
    let few = c.in_ok-entries.ensures.few in
    rw (← c.self.view_is)
    (writes-more (length (of_queue taken)) _ _ _ (omega (arith, long, few))
    (writes-all _ _ _ _ (of_queue taken) c.self.invariant c.in_ok-entries.ensures.makes c.record_all.ensures.list (omega (arith, long, spare))))
