-- An edit of a queue that is made leads back.
use Rattle.std.specs.Prelude.{[], ◌∷◌}
use Rattle.pfl_edits.proofs.ForCallers.{LeadsBack-one}
use Rattle.pfl_queue.specs.declared.edits.QueueEdit.{QueueEdit}
use Rattle.pfl_queue.specs.Queues.{Queue, IsQueue}
use Rattle.pfl_queue.specs.Edits.{FindsFormer, redone, Finds, put_back, QueueLeadsBack}
use Rattle.pfl_queue.specs.inner.BothWays.{edit-both_ways}

-- an edit that is made leads back
pub redone-leads_back : (e : QueueEdit) (q : Queue) → IsQueue q → FindsFormer e q → QueueLeadsBack (e ∷ []) q (redone e q)
redone-leads_back e q is found =
    let both = edit-both_ways e in
    LeadsBack-one Finds IsQueue put_back e q (redone e q) (both.redone_finds q found) is (both.put_back_redone q found)
