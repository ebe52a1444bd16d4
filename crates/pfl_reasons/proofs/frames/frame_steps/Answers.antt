use Rattle.std.proofs.Common.{◌++◌, Option, ◌∙◌, ap, arith}
use Rattle.std.specs.Option.{option_to_list}
use Rattle.pfl_reasons.specs.declared.frame_step.FrameStep.{FrameStep}
use Rattle.pfl_reasons.proofs.Passing.{passing-all, passing-next, passing-number}
use Rattle.pfl_reasons.proofs.frames.frame_steps.Goals as goal

pub after-passage-requires : goal.after-passage-requires
after-passage-requires g c = record { countable = passing-number _ _ _ _ _ _ _ _ _ c.loop-index.invariant c.get-event.result c.get-event.ensures.event }

pub loop-index-preserved : goal.loop-index-preserved
loop-index-preserved g c =
    passing-next _ _ _ _ _ _ _ _ _ c.loop-index.invariant c.get-event.result c.get-event.ensures.event _ _ _ _ (c.in_ok-add_step.ensures
    ∙ ap (λ (o : Option FrameStep). c.loop-index.list.items ++ option_to_list o) c.step.ensures) c.after-passage.ensures.ticket
    c.after-passage.ensures.fewer (c.after-passage.ensures.left c.args.frame.now) c.after-passage.ensures.next

pub returns : goal.returns
returns g c = passing-all _ _ _ _ _ _ _ _ _ c.loop-index.invariant (omega (arith, c.loop-index-test.false, c.len-index-end.ensures.length))
