use Rattle.std.proofs.Common.{◌++◌, ◌∙◌, length, codes, ap}
use Rattle.pfl_script.specs.Logs.{log_line, logged_lines, log_text}
use Rattle.pfl_script.proofs.logged.logged_text.Goals as goal

pub returns : goal.returns
unfolding log_text
returns g c =
    let name = c.args.name.now in
    let events = c.args.events.now in
    c.in_ok-extend_from_slice.ensures.items
    ∙ ap (λ text. text ++ codes "end\n")
    (c.in_ok-push_events.ensures ∙ ap (λ text. text ++ logged_lines name 0 events)
    (c.in_ok-push_head.ensures ∙ ap (λ text. text ++ log_line name (length events) c.args.cursor) c.new-text.ensures.items))
