use Rattle.std.proofs.Common.{[], ◌++◌, ◌∙◌, ap, codes}
use Rattle.pfl_timeline.specs.reasons.Explaining.{explained_of}
use Rattle.pfl_script.specs.Reasons.{why_line, came_line, reason_lines, explained_text}
use Rattle.pfl_script.specs.Logs.{logged_line}
use Rattle.pfl_script.proofs.Lists.{pushed_five}
use Rattle.pfl_script.proofs.explained.explained_text.Goals as goal

pub returns : goal.returns
unfolding explained_text
returns g c =
    let it = c.args.explanation.now in
    let name = c.bytes-name.result.now in
    let first = why_line name it.place in
    let why = explained_of it.why in
    pushed_five [] first (logged_line name it.place it.event) (came_line it.came) (reason_lines why) (codes "end\n")
    c.push_why.new.text.items c.push_event.new.text.items c.push_came.new.text.items c.push_reason.new.text.items c.extend_from_slice.new.self.items
    (c.in_ok-push_why.ensures ∙ ap (λ text. text ++ first) c.new-text.ensures.items)
    c.in_ok-push_event.ensures c.in_ok-push_came.ensures c.in_ok-push_reason.ensures c.in_ok-extend_from_slice.ensures.items
    ∙ ap (λ branch. explained_text branch it.place it.event it.came why) c.bytes-name.ensures
