use Rattle.std.proofs.Common.{◌++◌, ◌∙◌, length, codes, ap}
use Rattle.pfl_script.specs.Logs.{logged_lines}
use Rattle.pfl_script.specs.Searches.{found_line, found_text}
use Rattle.pfl_script.proofs.found.found_text.Goals as goal

pub returns : goal.returns
unfolding found_text
returns g c =
    let name = c.args.name.now in
    let events = c.args.run.now in
    c.in_ok-extend_from_slice.ensures.items
    ∙ ap (λ text. text ++ codes "end\n")
    (c.in_ok-push_events.ensures ∙ ap (λ text. text ++ logged_lines name 0 events)
    (c.in_ok-push_found.ensures ∙ ap (λ text. text ++ found_line name (length events) c.args.tried) c.new-text.ensures.items))
