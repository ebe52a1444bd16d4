use Rattle.std.proofs.Common.{◌∙◌, ap, arith}
use Rattle.pfl_base.specs.Lists.{in_order}
use Rattle.pfl_edits.specs.Maps as maps
use Rattle.pfl_queue.specs.Queues.{Queue}
use Rattle.pfl_queue.specs.Taking.{mark_before}
use Rattle.pfl_queue.proofs.Carried.{marks-length}
use Rattle.pfl_queue.proofs.Turned.{all_taken}
use Rattle.pfl_queue.proofs.queues.Pending.marks_in_turn.Goals as goal

pub returns : goal.returns
returns g c =
    let q = c.args.self.now in
    let marks = in_order mark_before (maps.values q.marks) in
    let many = c.len.ensures.marks ∙ ap (λ (p : Queue). maps.len p.marks) c.self.view_is in
    record { turn = c.in_ok-marks.ensures.first ∙ all_taken c.len.result marks (omega (arith, marks-length q, many)) }
