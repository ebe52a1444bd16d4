use Rattle.std.proofs.Common.{◌∙◌, refl, sym, subst}
use Rattle.std.proofs.lemmas.Result.{err_from_is_err_and}
use Rattle.pfl_world.specs.Worlds.{IsWorld, joined}
use Rattle.pfl_world.proofs.Recording.{recorded_at, few_at, agrees_at, recorded-then}
use Rattle.pfl_world.proofs.Delivered.{Comes, deliver_missing, arrives_short, there-still, deliver_refused, deliver_accepted, deliver_few}
use Rattle.pfl_world.proofs.world.World.deliver.Goals as goal
use Rattle.pfl_world.proofs.world.World.deliver.Goals.{After-at_mut}

-- the frame that was found, and the node that was lent for it
comes : (g : _) (c : After-at_mut g)
    → Comes (joined c.self.inside.nodes c.self.inside.link c.self.inside.next_boot) c.args.ticket c.to-receiver.result
    c.as_slice-bytes.result.now c.at_mut.result.now
comes g c = record {
  frame = c.in-Some.frame.now;
  at = sym c.in-Some.ensures.frame;
  goes = c.to-receiver.ensures.to;
  spelt = c.as_slice-bytes.ensures.bytes ∙ c.bytes.ensures.bytes;
  lent = c.at_mut.ensures.node;
}

pub returns-in_default-clause-refused : goal.returns-in_default-clause-refused
returns-in_default-clause-refused g c = deliver_missing _ c.args.self.now c.args.ticket c.self.view_is (sym c.in_default.ensures.frame)

pub arrive-requires : goal.arrive-requires
arrive-requires g c = record {
  short = arrives_short (comes g (goal.at.arrive-requires g c).After-at_mut)
      (subst IsWorld (sym c.self.view_is) c.known.ensures.world);
}

pub returns-in_err-outcome-clause-refused : goal.returns-in_err-outcome-clause-refused
returns-in_err-outcome-clause-refused g c =
    let p = err_from_is_err_and c.from_residual.result c.from_residual.ensures.1 in
    rw (p.1, p.2) (deliver_refused
    (comes g (goal.at.returns-in_err-outcome-clause-refused g c).After-at_mut) c.args.self.now c.self.view_is
    c.in_err-outcome.field-0.0 c.in_err-outcome.ensures.refused)

pub invariant_of-self-2 : goal.invariant_of-self-2
invariant_of-self-2 g c =
    let w = joined c.self.inside.nodes c.self.inside.link c.self.inside.next_boot in
    agrees_at w c.to-receiver.result c.at_mut.ensures.node c.in_ok-outcome.ensures.recorded c.self.invariant

pub take_off-requires-clause-there : goal.take_off-requires-clause-there
take_off-requires-clause-there g c = there-still (comes g (goal.at.take_off-requires-clause-there g c).After-at_mut) _ c.arrive.new.node refl

pub returns-clause-step : goal.returns-clause-step
returns-clause-step g c =
    deliver_accepted (comes g (goal.at.returns-clause-step g c).After-at_mut) c.args.self.now c.self.view_is _ c.take_off.new.self
    c.arrive.new.node c.in_ok-outcome.outcome c.in_ok-outcome.ensures.not_refused c.in_ok-outcome.ensures.node
    c.in_ok-outcome.ensures.outcome refl c.take_off.ensures.world

pub returns-clause-recorded : goal.returns-clause-recorded
returns-clause-recorded g c =
    let w = joined c.self.inside.nodes c.self.inside.link c.self.inside.next_boot in
    recorded-then
    (recorded_at w c.to-receiver.result c.at_mut.ensures.node c.in_ok-outcome.ensures.recorded c.args.self.now _ c.self.view_is c.known.ensures.world refl)
    c.take_off.ensures.recorded

pub returns-clause-few : goal.returns-clause-few
returns-clause-few g c =
    let w = joined c.self.inside.nodes c.self.inside.link c.self.inside.next_boot in
    deliver_few (comes g (goal.at.returns-clause-few g c).After-at_mut) c.args.self.now c.self.view_is _ _ _
    (few_at w c.to-receiver.result c.at_mut.ensures.node c.in_ok-outcome.ensures.recorded) c.take_off.ensures.one
