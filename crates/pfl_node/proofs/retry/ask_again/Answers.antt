use Rattle.std.proofs.Common.{◌≡◌, true, false, ◌∙◌, ap, sym, arith}
use Rattle.std.proofs.lemmas.Result.{err_from_is_err_and}
use Rattle.pfl_bulk.specs.Bulk.{asks_again, tries_of}
use Rattle.pfl_bulk.specs.declared.BulkClient.{BulkClient}
use Rattle.pfl_language.specs.declared.retried.Retried.TheVariants.{Asked}
use Rattle.pfl_node.specs.Retrying.{retried_client}
use Rattle.pfl_receive.proofs.ForCallers.desk.{writes-then, writes-more}
use Rattle.pfl_node.proofs.Asking.{from_not, asked-is, asked-full, served-is, answer-served, answer-asked}
use Rattle.pfl_node.proofs.retry.ask_again.Goals as goal

pub returns-then-not-retry : goal.returns-then-not-retry
returns-then-not-retry g c =
    let n = c.args.desk.now.node in
    let gives_up : asks_again n.client ≡ false = sym c.requires.asks ∙ from_not c.args.retry.asks true c.if-not-retry.true in
    let node : c.set_client.new.self.node ≡ retried_client n =
    served-is n c.set_client.new.self.node gives_up (c.set_client.ensures.node
    ∙ ap (λ (k : BulkClient). record n { client = k }) c.requires.client) in
    record {
      full = tt;
      node = node;
      answer = answer-served n gives_up;
      writes = writes-more 1 3 _ _ (omega arith) c.set_client.ensures.writes;
    }

pub returns-in_err-ask : goal.returns-in_err-ask
returns-in_err-ask g c =
    let p = err_from_is_err_and c.from_residual.result c.from_residual.ensures.1 in
    let n = c.args.desk.now.node in
    let asks : asks_again n.client ≡ true = sym c.requires.asks ∙ from_not c.args.retry.asks false c.if-not-retry.false in
    record {
      full = rw p.1 (asked-full n asks c.in_err-ask.ensures.full);
      node = rw p.1 tt;
      answer = rw p.1 tt;
      writes = writes-more 2 3 _ _ (omega arith) c.ask.ensures.writes;
    }

pub returns : goal.returns
returns g c =
    let n = c.args.desk.now.node in
    let asks : asks_again n.client ≡ true = sym c.requires.asks ∙ from_not c.args.retry.asks false c.if-not-retry.false in
    let set = c.set_client-2.ensures.node ∙ ap (λ (k : BulkClient). record c.ask.new.self.node { client = k }) c.requires.client in
    let node : c.set_client-2.new.self.node ≡ retried_client n =
    asked-is n c.ask.new.self.node c.set_client-2.new.self.node asks c.in_ok-ask.ensures.node set in
    record {
      full = tt;
      node = node;
      answer = ap Asked (c.tries.ensures.tries ∙ ap tries_of c.requires.client) ∙ answer-asked n asks;
      writes = writes-then 2 1 _ _ _ c.ask.ensures.writes c.set_client-2.ensures.writes;
    }
