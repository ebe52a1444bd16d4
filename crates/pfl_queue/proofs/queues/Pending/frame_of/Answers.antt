use Rattle.std.proofs.Common.{◌≡◌, arith, take, ◌/◌, ◌∙◌, ap, refl}
use Rattle.pfl_base.specs.Lists.{in_order}
use Rattle.pfl_edits.specs.Maps as maps
use Rattle.pfl_queue.specs.Taking.{mark_before}
use Rattle.pfl_queue.specs.inner.Parts.{first_of_each}
use Rattle.pfl_queue.proofs.Listed.{first_in_turn}
use Rattle.pfl_queue.proofs.Taken.{frame_taken}
use Rattle.pfl_queue.proofs.queues.Pending.frame_of.Goals as goal

pub returns : goal.returns
returns g c =
    let q = c.args.self.now in
    let all = in_order mark_before (maps.values q.marks) in
    let most = c.args.mtu / 8 in
    let shown : c.deref.result.now ≡ take most all = c.deref.ensures.value ∙ c.in_ok-marks.ensures.first in
    let turn = ap (take most) (c.in_ok-entries.ensures.first ∙ ap (λ ms. first_of_each most ms q) shown) ∙ first_in_turn most all q refl in
    record { frame = frame_taken q c.args.mtu most (omega arith) _ turn _ c.deref-2.ensures.value _ c.fitting.ensures.longest _ c.truncate.ensures.items }
