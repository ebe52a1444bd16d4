use Rattle.std.proofs.Common.{refl}
use Rattle.pfl_world.specs.Values.{HoldsLittle}
use Rattle.pfl_world.specs.Worlds.{joined}
use Rattle.pfl_world.proofs.Recording.{recorded_at, agrees_either, kept_below, on_ok, fits_since, back_since, kind_since}
use Rattle.pfl_world.proofs.world.World.take_record_on.Goals as goal

pub invariant_of-self : goal.invariant_of-self
invariant_of-self g c =
    let w = joined c.self.inside.nodes c.self.inside.link c.self.inside.next_boot in
    agrees_either w c.args.to c.take_message_on.new.self c.at_mut.ensures.node _ _ _ c.take_message_on.result
    c.take_message_on.ensures.steps.unchanged c.take_message_on.ensures.steps.recorded c.self.invariant

pub returns-clause-taped : goal.returns-clause-taped
returns-clause-taped g c =
    let w = joined c.self.inside.nodes c.self.inside.link c.self.inside.next_boot in
    kept_below HoldsLittle _ _ _ _ c.take_message_on.result c.take_message_on.ensures.steps.untaken
    (on_ok c.take_message_on.result
    (λ r. recorded_at w c.args.to c.at_mut.ensures.node r c.args.self.now _ c.self.view_is c.known.ensures.world refl)
    c.take_message_on.ensures.steps.recorded)

pub returns-clause-fits : goal.returns-clause-fits
returns-clause-fits g c =
    let w = joined c.self.inside.nodes c.self.inside.link c.self.inside.next_boot in
    on_ok c.take_message_on.result
    (λ r. fits_since (recorded_at w c.args.to c.at_mut.ensures.node r c.args.self.now _ c.self.view_is c.known.ensures.world refl))
    c.take_message_on.ensures.steps.recorded

pub returns-clause-back : goal.returns-clause-back
returns-clause-back g c =
    let w = joined c.self.inside.nodes c.self.inside.link c.self.inside.next_boot in
    on_ok c.take_message_on.result
    (λ r. back_since (recorded_at w c.args.to c.at_mut.ensures.node r c.args.self.now _ c.self.view_is c.known.ensures.world refl))
    c.take_message_on.ensures.steps.recorded

pub returns-clause-small : goal.returns-clause-small
returns-clause-small g c =
    let w = joined c.self.inside.nodes c.self.inside.link c.self.inside.next_boot in
    on_ok c.take_message_on.result
    (λ r. kind_since (recorded_at w c.args.to c.at_mut.ensures.node r c.args.self.now _ c.self.view_is c.known.ensures.world refl))
    c.take_message_on.ensures.steps.recorded
