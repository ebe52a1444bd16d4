use Rattle.std.proofs.Common.{◌≡◌, ◌∙◌, ap, sym, arith}
use Rattle.std.proofs.lemmas.Result.{err_from_is_err_and}
use Rattle.std.specs.Prelude.{◌||◌}
use Rattle.pfl_receive.specs.desk.Changes.{deleted}
use Rattle.pfl_receive.specs.desk.Nodes.{Node, is_overfull, is_overcounted}
use Rattle.pfl_node.specs.Starting.{judged}
use Rattle.pfl_node.proofs.Points.{stops-first, stops-last, ends-after}
use Rattle.pfl_receive.proofs.ForCallers.desk.{writes-then}
use Rattle.pfl_node.proofs.packet.reuse.Goals as goal

pub returns-in_err-delete : goal.returns-in_err-delete
returns-in_err-delete g c =
    let p = err_from_is_err_and c.from_residual.result c.from_residual.ensures.1 in
    let m = deleted c.args.desk.now.node c.args.closed.now in
    record { done = rw p.1 (stops-first _ 5 _ _ m (judged m c.args.dir c.args.packet.now) (omega arith) c.in_err-delete.ensures.full c.delete.ensures.writes) }

pub returns-in_err-fate : goal.returns-in_err-fate
returns-in_err-fate g c =
    let p = err_from_is_err_and c.from_residual-in_err-fate.result c.from_residual-in_err-fate.ensures.1 in
    let m = deleted c.args.desk.now.node c.args.closed.now in
    let gone = c.in_ok-delete.ensures.node in
    let tried = c.in_err-fate.ensures.done in
    let full = ap (λ (k : Node). is_overfull (judged k c.args.dir c.args.packet.now).node) (sym gone) ∙ tried.full in
    record {
      done = rw p.1 (stops-last _ 14 _ _ (judged m c.args.dir c.args.packet.now) _ (omega arith) full
          (writes-then 5 9 _ _ _ c.delete.ensures.writes tried.writes));
    }

pub returns : goal.returns
returns g c =
    let m = deleted c.args.desk.now.node c.args.closed.now in
    let gone = c.in_ok-delete.ensures.node in
    let tried = c.in_ok-fate.ensures.done in
    let step = tried.step ∙ ap (λ (k : Node). judged k c.args.dir c.args.packet.now) gone in
    let fitted = ap is_overfull (sym gone) ∙ c.is_overcounted-before.ensures.room in
    let counts : (c.is_overcounted.result || c.is_overcounted-before.result) ≡ (is_overcounted c.judge.new.desk.node || is_overcounted m) =
    λ i. c.is_overcounted.ensures.counted i || (c.is_overcounted-before.ensures.counted ∙ ap is_overcounted gone) i in
    record {
      done = ends-after _ _ _ _ m (judged m c.args.dir c.args.packet.now) step c.is_overcounted.ensures.room fitted counts
          (writes-then 5 9 _ _ _ c.delete.ensures.writes tried.writes);
    }
