use Rattle.std.specs.Prelude.{List, map}
use Rattle.std.proofs.Common.{◌∙◌, ap}
use Rattle.pfl_timeline.specs.Rooted.{Rooted}
use Rattle.pfl_timeline.specs.Timelines.{Timeline}
use Rattle.pfl_timeline.proofs.timeline.Timeline.branches.Goals as goal

pub returns-clause-openings : goal.returns-clause-openings
returns-clause-openings g c = rw (c.as_slice.ensures, c.values.ensures.rest, ← c.self.view_is) c.self.invariant.kept.one_opening

pub returns-clause-branches : goal.returns-clause-branches
returns-clause-branches g c =
    ap (λ (rs : List Rooted). map (λ r. r.branch) rs) (c.as_slice.ensures ∙ c.values.ensures.rest) ∙ ap (λ (t : Timeline). t.branches) c.self.view_is
