use Rattle.std.proofs.Common.{sym, ◌∙◌, ap, subst, arith}
use Rattle.std.specs.List.{flat_map}
use Rattle.std.proofs.lemmas.List.Sums.{prefix_len-le-length}
use Rattle.pfl_wire.specs.Frames.{lists}
use Rattle.pfl_receive.specs.queue.Taking.{entry_action, one_action}
use Rattle.pfl_node.specs.Flushing.{messages_of}
use Rattle.pfl_node.specs.inner.Sending.{run_of}
use Rattle.pfl_node.proofs.Grouped.{IsGrouped, grouped-more, lists-more}
use Rattle.pfl_node.proofs.flush.frame.groups_of.Goals as goal

pub split_at-requires : goal.split_at-requires
split_at-requires g c = omega (arith, c.run_of.ensures, prefix_len-le-length (λ e. one_action (entry_action e) c.action.result) c.loop-first.left.now)

pub loop-first-preserved : goal.loop-first-preserved
loop-first-preserved g c =
    let n = c.args.parts.now in
    let left = c.loop-first.left.now in
    let next = lists c.push.new.self.items in
    let is = c.requires.parts in
    let run = c.run_of.ensures ∙ ap (λ a. run_of a left) c.action.ensures.action in
    let made = c.in_ok-messages_of.ensures.messages ∙ ap (flat_map (messages_of n)) c.split_at.ensures.front in
    let more = lists-more c.loop-first.groups.items c.push.new.self.items c.in_ok-messages_of.field-0 c.in_ok-push.ensures.items in
    subst (λ es. IsGrouped n c.args.entries.now es next) (sym c.split_at.ensures.back)
    (grouped-more n is c.args.entries.now left
    (lists c.loop-first.groups.items) next c.in_ok-messages_of.field-0.items c.in-Some.first.now c.run_of.result c.loop-first.invariant
    (sym c.in-Some.ensures.value) run made more)
