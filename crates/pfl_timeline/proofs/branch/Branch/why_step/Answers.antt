use Rattle.std.specs.Prelude.{◌+◌, box_value}
use Rattle.std.specs.Option.{option_map}
use Rattle.std.proofs.Common.{◌∙◌, ap}
use Rattle.pfl_timeline.specs.Histories.{History}
use Rattle.pfl_timeline.proofs.Whys.{explained-here}
use Rattle.pfl_timeline.proofs.branch.Branch.why_step.Goals as goal

pub returns-clause-answer : goal.returns-clause-answer
returns-clause-answer g c =
    explained-here c.args.self.now c.self.inside.name c.self.inside.history.value c.deref_mut.result.now
    (option_map box_value c.self.inside.former) c.self.view_is c.deref_mut.ensures.value
    c.next_place.result (c.next_place.ensures.place
    ∙ ap (λ (h : History). h.cursor + 1) c.deref.ensures) c.args.event.now _ _ c.look_here.result c.look_here.ensures.seen
