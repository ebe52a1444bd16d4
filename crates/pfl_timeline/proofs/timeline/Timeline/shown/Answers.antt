use Rattle.std.proofs.Common.{◌∙◌, ap, subst, sym}
use Rattle.std.specs.Prelude.{◌≡◌, Option, IsSomeAnd}
use Rattle.pfl_search.specs.world.Worlds.{World}
use Rattle.pfl_timeline.specs.Commands.{in_place}
use Rattle.pfl_timeline.proofs.Answering.{asked-none, show-is, some-shown}
use Rattle.pfl_timeline.proofs.Places.{asked-at, none-at}
use Rattle.pfl_timeline.proofs.timeline.Timeline.shown.Goals as goal

pub returns-in-Some-clause-branch : goal.returns-in-Some-clause-branch
returns-in-Some-clause-branch g c =
    let r = c.in-Some.branch.now in
    some-shown _ _ c.world-world.ensures.world
    (asked-at c.args.name.now _ _ _ c.self.view_is c.self.invariant c.in-Some.ensures.value _
    ∙ ap (in_place c.args.self.now) (show-is r.opening r.branch _ c.world-world.ensures.world))

pub returns-in-None-clause-refused : goal.returns-in-None-clause-refused
returns-in-None-clause-refused g c =
    asked-none _ c.args.name.now _ (none-at c.args.name.now _ _ c.self.view_is c.self.invariant c.in-None.ensures.value)
