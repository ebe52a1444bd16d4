use Rattle.std.proofs.Common.{List, ℕ, [], ◌++◌, ◌∙◌, ap, codes}
use Rattle.std.specs.List.{flat_map}
use Rattle.pfl_wire.specs.Reading.{reading}
use Rattle.pfl_timeline.specs.reasons.declared.frame_step.FrameStep.{FrameStep}
use Rattle.pfl_script.specs.Frames.{traced_line, frame_step_lines, content_lines, traced_text}
use Rattle.pfl_script.specs.Shows.{frame_text}
use Rattle.pfl_script.proofs.Lists.{pushed_six}
use Rattle.pfl_script.proofs.traced.traced_text.Goals as goal

pub returns : goal.returns
unfolding traced_text
returns g c =
    let it = c.args.trace.now in
    let name = c.bytes-name.result.now in
    let first = traced_line name it.ticket in
    let content = c.in_ok-push_content.ensures ∙ ap (λ (bytes : List ℕ). c.push_sent_frame.new.text.items ++ content_lines (reading bytes))
    (c.as_slice.ensures.bytes ∙ c.bytes.ensures.bytes) in
    let later = c.in_ok-push_frame_steps.ensures
    ∙ ap (λ (steps : List FrameStep). c.push_content.new.text.items ++ flat_map (frame_step_lines name) steps) c.as_slice-2.ensures.value in
    pushed_six [] first (frame_step_lines name it.first) (frame_text it.ticket it.frame.to it.frame.bytes) (content_lines (reading it.frame.bytes))
    (flat_map (frame_step_lines name) it.later.items) (codes "end\n")
    c.push_traced.new.text.items c.push_frame_step.new.text.items c.push_sent_frame.new.text.items c.push_content.new.text.items
    c.push_frame_steps.new.text.items c.extend_from_slice.new.self.items
    (c.in_ok-push_traced.ensures ∙ ap (λ text. text ++ first) c.new-text.ensures.items)
    c.in_ok-push_frame_step.ensures c.in_ok-push_sent_frame.ensures content later c.in_ok-extend_from_slice.ensures.items
    ∙ ap (λ branch. traced_text branch it.ticket (record { first = it.first; frame = it.frame; later = it.later.items })) c.bytes-name.ensures
