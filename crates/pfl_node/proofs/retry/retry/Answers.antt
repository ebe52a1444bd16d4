use Rattle.pfl_receive.specs.desk.Nodes.{Node}
use Rattle.std.proofs.Common.{◌≡◌, None, Some, ◌∙◌, ap, sym, arith}
use Rattle.std.proofs.lemmas.Result.{IfOk-weaker, err_from_is_err_and}
use Rattle.pfl_bulk.specs.Bulk as bulk
use Rattle.pfl_language.specs.declared.limits.Limits.{Limits}
use Rattle.pfl_language.specs.declared.node_event.NodeOutcome.TheVariants.{Tried}
use Rattle.pfl_node.specs.Retrying.{retried_client, retry_answer, retry_refusal}
use Rattle.pfl_node.proofs.Asking.{retry-early, retry-late}
use Rattle.pfl_node.proofs.Judged.{at-once, by-end}
use Rattle.pfl_node.proofs.Ready.{begins}
use Rattle.pfl_node.proofs.retry.retry.Goals as goal

pub returns-in_err-retry : goal.returns-in_err-retry
returns-in_err-retry g c =
    let p = err_from_is_err_and c.from_residual.result c.from_residual.ensures.1 in
    let n = c.args.desk.now.node in
    let wait : c.from-wait.result ≡ n.limits.bulk_ms = c.from-wait.ensures ∙ ap (λ (l : Limits). l.bulk_ms) (c.limits.ensures.limits ∙ ap (λ (k : Node). k.limits) c.parts-parts.ensures.parts) in
    let early : bulk.ask_refusal n.client n.limits.bulk_ms n.clock ≡ Some c.in_err-retry.field-0.0 =
    sym (λ i. bulk.ask_refusal ((c.client.ensures.client ∙ ap (λ (k : Node). k.client) c.parts-parts.ensures.parts) i) (wait i) ((c.clock.ensures.clock ∙ ap (λ (k : Node). k.clock) c.parts-parts.ensures.parts) i)) ∙ c.in_err-retry.ensures.refused in
    rw (p.1, p.2) (at-once _ _ _ _ c.args.desk.now c.in_err-retry.field-0.0 (retry-early n c.in_err-retry.field-0.0 early))

pub ask_again-tried-requires : goal.ask_again-tried-requires
ask_again-tried-requires g c =
    let room = (begins c.args.desk.now c.requires.idle.ready).room in
    let client = (c.client.ensures.client ∙ ap (λ (k : Node). k.client) c.parts-parts.ensures.parts) in
    let clock = (c.clock.ensures.clock ∙ ap (λ (k : Node). k.clock) c.parts-parts.ensures.parts) in
    record {
      room = omega (arith, room);
      asks = c.in_ok-retry.ensures.asks ∙ ap bulk.asks_again client;
      client = c.in_ok-retry.ensures.client ∙ (λ i. bulk.retried (client i) (clock i));
    }

pub returns : goal.returns
returns g c =
    let a = c.args.desk.now in
    let n = a.node in
    let d = c.ask_again-tried.ensures in
    let j = c.judge.ensures in
    let wait : c.from-wait.result ≡ n.limits.bulk_ms = c.from-wait.ensures ∙ ap (λ (l : Limits). l.bulk_ms) (c.limits.ensures.limits ∙ ap (λ (k : Node). k.limits) c.parts-parts.ensures.parts) in
    let free : bulk.ask_refusal n.client n.limits.bulk_ms n.clock ≡ None =
    sym (λ i. bulk.ask_refusal ((c.client.ensures.client ∙ ap (λ (k : Node). k.client) c.parts-parts.ensures.parts) i) (wait i) ((c.clock.ensures.clock ∙ ap (λ (k : Node). k.clock) c.parts-parts.ensures.parts) i)) ∙ c.in_ok-retry.ensures.not_refused in
    by-end _ (retry_refusal n) (retried_client n) (λ k. Tried k ≡ Tried (retry_answer n)) a c.ask_again-tried.new.desk c.ask_again-tried.result c.judge.result
    j.refused j.answer j.fits (retry-late n free c.requires.idle.node.counted) d.full d.node
    (IfOk-weaker c.ask_again-tried.result (λ k. k ≡ retry_answer n) (λ k. Tried k ≡ Tried (retry_answer n)) (λ k same. ap Tried same) d.answer) d.writes
