use Rattle.std.proofs.Common.{take, ◌∙◌, ap, subst}
use Rattle.pfl_queue.specs.Queues.{Queue, IsQueue}
use Rattle.pfl_queue.proofs.Turned.{in-turn}
use Rattle.pfl_queue.proofs.queues.Pending.first_marks.Goals as goal

pub returns : goal.returns
returns g c =
    let is = subst IsQueue c.self.view_is c.self.invariant.queue in
    let turn = in-turn c.args.self.now is c.self.inside.marks c.in_ok-marks.ensures.turn (ap (λ (q : Queue). q.marks) c.self.view_is) in
    record { first = c.in_ok-marks.ensures.first ∙ ap (take c.args.most) turn }
