use Rattle.std.proofs.Common.{refl}
use Rattle.std.proofs.lemmas.Result.{err_from_is_err_and}
use Rattle.pfl_world.specs.Worlds.{joined}
use Rattle.pfl_world.proofs.Recording.{recorded_at, few_at, agrees_at}
use Rattle.pfl_world.proofs.Stepping.{refused_from, gives_from, few_from}
use Rattle.pfl_world.proofs.world.World.at_node.Goals as goal

pub returns-in_err-outcome-clause-refused : goal.returns-in_err-outcome-clause-refused
returns-in_err-outcome-clause-refused g c =
    let w = joined c.self.inside.nodes c.self.inside.link c.self.inside.next_boot in
    let p = err_from_is_err_and c.from_residual.result c.from_residual.ensures.1 in
    rw (p.1, p.2) (refused_from w c.args.self.now c.args.node c.args.event.now c.at_mut.result.now c.in_err-outcome.field-0.0
    c.at_mut.ensures.node c.self.view_is c.in_err-outcome.ensures.steps.refused)

pub invariant_of-self-2 : goal.invariant_of-self-2
invariant_of-self-2 g c =
    let w = joined c.self.inside.nodes c.self.inside.link c.self.inside.next_boot in
    agrees_at w c.args.node c.at_mut.ensures.node c.in_ok-outcome.ensures.steps.recorded c.self.invariant

pub returns-clause-recorded : goal.returns-clause-recorded
returns-clause-recorded g c =
    let w = joined c.self.inside.nodes c.self.inside.link c.self.inside.next_boot in
    recorded_at w c.args.node c.at_mut.ensures.node c.in_ok-outcome.ensures.steps.recorded c.args.self.now _ c.self.view_is c.known.ensures.world refl

pub returns-clause-step : goal.returns-clause-step
returns-clause-step g c =
    let w = joined c.self.inside.nodes c.self.inside.link c.self.inside.next_boot in
    let s = c.in_ok-outcome.ensures.steps in
    gives_from w c.args.self.now c.args.node c.args.event.now c.at_mut.result.now c.step_on.new.self c.in_ok-outcome.outcome c.at_mut.ensures.node
    c.self.view_is s.not_refused s.node s.answer

pub returns-clause-few : goal.returns-clause-few
returns-clause-few g c =
    let w = joined c.self.inside.nodes c.self.inside.link c.self.inside.next_boot in
    few_from w c.args.self.now c.args.node c.args.event.now c.at_mut.result.now _ _ c.at_mut.ensures.node c.self.view_is
    (few_at w c.args.node c.at_mut.ensures.node c.in_ok-outcome.ensures.steps.recorded)
