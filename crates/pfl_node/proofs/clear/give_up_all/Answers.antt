use Rattle.std.proofs.Common.{◌≡◌, ◌-◌, ◌*◌, ◌∙◌, ap, sym}
use Rattle.std.proofs.lemmas.Result.{err_from_is_err_and}
use Rattle.pfl_edits.specs.Maps as maps
use Rattle.pfl_receive.specs.table.Tables.{States}
use Rattle.pfl_receive.specs.desk.Nodes.{is_overfull, Node}
use Rattle.pfl_receive.proofs.ForCallers.desk.{writes-then}
use Rattle.pfl_node.proofs.Cleared.{cleared-is}
use Rattle.pfl_node.proofs.clear.give_up_all.Goals as goal

pub returns-in_err-announce_clear : goal.returns-in_err-announce_clear
returns-in_err-announce_clear g c =
    let p = err_from_is_err_and c.from_residual.result c.from_residual.ensures.1 in
    let n = c.args.desk.now.node in
    let bound : c.saturating_sub-last.result ≡ n.next_id - 1 = c.saturating_sub-last.ensures ∙ ap (λ i. i - 1) (c.next_id.ensures.next_id ∙ ap (λ (k : Node). k.next_id) c.parts-parts.ensures.parts) in
    let meant = cleared-is n c.forget_all.new.desk.node c.creator-creator.result c.saturating_sub-last.result c.forget_all.ensures.node
    (c.creator-creator.ensures.creator ∙ ap (λ (k : Node). k.creator) c.parts-parts.ensures.parts) bound in
    record {
      full = rw p.1 (ap is_overfull (sym meant) ∙ c.in_err-announce_clear.ensures.full);
      node = rw p.1 tt;
      count = rw p.1 tt;
      writes = writes-then (4 * maps.len n.states) 2 _ _ _ c.forget_all.ensures.writes c.announce_clear.ensures.writes;
    }

pub returns : goal.returns
returns g c =
    let n = c.args.desk.now.node in
    let bound : c.saturating_sub-last.result ≡ n.next_id - 1 = c.saturating_sub-last.ensures ∙ ap (λ i. i - 1) (c.next_id.ensures.next_id ∙ ap (λ (k : Node). k.next_id) c.parts-parts.ensures.parts) in
    let meant = cleared-is n c.forget_all.new.desk.node c.creator-creator.result c.saturating_sub-last.result c.forget_all.ensures.node
    (c.creator-creator.ensures.creator ∙ ap (λ (k : Node). k.creator) c.parts-parts.ensures.parts) bound in
    let node = c.in_ok-announce_clear.ensures.node ∙ meant in
    record {
      full = tt;
      node = node;
      count = c.len-count.ensures.states ∙ ap (λ (m : States). maps.len m) (c.states.ensures.states ∙ ap (λ (k : Node). k.states) c.parts-parts.ensures.parts);
      writes = writes-then (4 * maps.len n.states) 2 _ _ _ c.forget_all.ensures.writes c.announce_clear.ensures.writes;
    }
