use Rattle.std.specs.Prelude.{map}
use Rattle.std.proofs.Common.{◌∙◌, ap, sym}
use Rattle.pfl_timeline.specs.Commands.{replied, command_step}
use Rattle.pfl_timeline.specs.Replies.{Names}
use Rattle.pfl_timeline.specs.Timelines.{Timeline}
use Rattle.pfl_timeline.proofs.ByName.{keys_are}
use Rattle.pfl_timeline.proofs.timeline.Timeline.names.Goals as goal

pub returns : goal.returns
unfolding command_step
returns g c = record {
  step = ap (λ ns. replied c.args.self.now (Names ns))
      (sym (c.in_ok-names.ensures.items ∙ c.as_slice.ensures ∙ c.keys.ensures.rest
      ∙ keys_are _ _ c.self.invariant.named
      ∙ ap (λ (t : Timeline). map (λ b. b.name) t.branches) c.self.view_is));
}
