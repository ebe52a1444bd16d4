use Rattle.std.proofs.Common.{◌++◌, ◌∙◌, ap}
use Rattle.std.specs.List.{flat_map}
use Rattle.std.proofs.lemmas.Result.{IfOk-weaker}
use Rattle.pfl_edits.specs.Maps as maps
use Rattle.pfl_table.specs.Tables.{States}
use Rattle.pfl_timeline.specs.desk.declared.counters.Counters.{Counters}
use Rattle.pfl_script.specs.Shows.{node_line, count_line, state_line, queue_lines, held_line, node_lines}
use Rattle.pfl_script.proofs.Lists.{pushed_five}
use Rattle.pfl_script.proofs.shown.push_node.Goals as goal

pub returns : goal.returns
unfolding node_lines
returns g c = IfOk-weaker c.push_list.result _ _ (λ _ pushed.
    let id = c.args.id in
    let n = c.args.node.now in
    let counts = c.in_ok-push_counts.ensures ∙ ap (λ (k : Counters). c.push_node_line.new.text.items ++ count_line id k) c.counters.ensures.counters in
    let states = c.in_ok-push_states.ensures
    ∙ ap (λ (s : States). c.push_counts.new.text.items ++ flat_map (state_line id) (maps.values s)) c.states.ensures.states in
    let queue = c.in_ok-push_queue.ensures ∙ ap (λ q. c.push_states.new.text.items ++ queue_lines id q) c.queue.ensures.queue in
    let held = pushed ∙ ap (λ list. c.push_queue.new.text.items ++ flat_map (held_line id) list) (c.of.ensures.entries
    ∙ (c.as_slice.ensures.list ∙ ap (λ d. d.list) c.held.ensures.held)) in
    pushed_five c.args.text.now.items (node_line id n) (count_line id n.counters) (flat_map (state_line id) (maps.values n.states)) (queue_lines id n.queue)
    (flat_map (held_line id) n.held.list) c.push_node_line.new.text.items c.push_counts.new.text.items c.push_states.new.text.items
    c.push_queue.new.text.items c.push_list.new.text.items c.in_ok-push_node_line.ensures counts states queue held) c.push_list.ensures
