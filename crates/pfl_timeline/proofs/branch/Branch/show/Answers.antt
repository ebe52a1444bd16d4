use Rattle.std.specs.Prelude.{length}
use Rattle.std.proofs.Common.{◌∙◌, ap}
use Rattle.pfl_timeline.specs.Rooted.{Rooted}
use Rattle.pfl_timeline.proofs.Answering.{shown_as}
use Rattle.pfl_timeline.proofs.branch.Branch.show.Goals as goal

pub returns : goal.returns
returns g c =
    record {
      answer = (
        c.world.result.now,
        c.world.ensures.world,
        shown_as _ _ _ _ _ _ _ _ (ap (λ (r : Rooted). r.branch.name) c.self.view_is) (c.len.ensures.length ∙ ap length c.events.ensures.events)
            c.cursor.ensures.cursor c.in_ok-world.ensures.same,
      );
    }
