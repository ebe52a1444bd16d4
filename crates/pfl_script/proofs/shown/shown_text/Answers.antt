use Rattle.std.proofs.Common.{[], ◌++◌, ◌∙◌, ℕ, ap, codes}
use Rattle.pfl_base.specs.declared.node_id.NodeId.TheVariants.{A, B}
use Rattle.pfl_script.specs.Shows.{branch_line, node_lines, link_lines, show_text}
use Rattle.pfl_script.proofs.Lists.{pushed_five}
use Rattle.pfl_script.proofs.shown.shown_text.Goals as goal

pub returns : goal.returns
unfolding show_text
returns g c =
    let a = c.in_ok-push_node.ensures ∙ ap (λ n. c.push_branch.new.text.items ++ node_lines A n) (c.parts.ensures.parts ∙ c.node.ensures.node) in
    let b = c.in_ok-push_node-2.ensures ∙ ap (λ n. c.push_node.new.text.items ++ node_lines B n) (c.parts-2.ensures.parts ∙ c.node-2.ensures.node) in
    let link = c.in_ok-push_link.ensures ∙ (ap (λ l. c.push_node-2.new.text.items ++ link_lines l c.next_boot.result) c.link.ensures.link
    ∙ ap (λ (n : ℕ). c.push_node-2.new.text.items ++ link_lines c.args.world.now.link n) c.next_boot.ensures.boot) in
    let w = c.args.world.now in
    let branch = c.in_ok-push_branch.ensures ∙ ap (λ first. first ++ branch_line c.args.name.now c.args.events c.args.cursor) c.new-text.ensures.items in
    pushed_five [] (branch_line c.args.name.now c.args.events c.args.cursor) (node_lines A w.a) (node_lines B w.b)
    (link_lines w.link w.next_boot) (codes "end\n")
    c.push_branch.new.text.items c.push_node.new.text.items c.push_node-2.new.text.items c.push_link.new.text.items c.extend_from_slice.new.self.items
    branch a b link c.in_ok-extend_from_slice.ensures.items
