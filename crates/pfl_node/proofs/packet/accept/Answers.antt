use Rattle.std.proofs.Common.{◌≡◌, Some, false, ◌∙◌, ap, sym, arith}
use Rattle.std.proofs.lemmas.Result.{err_from_is_err_and}
use Rattle.pfl_receive.specs.desk.Changes as to
use Rattle.pfl_receive.specs.desk.Nodes.{is_overfull}
use Rattle.pfl_node.specs.Starting.{pass}
use Rattle.pfl_receive.proofs.ForCallers.desk.{freed-may, wanted-may, writes-then, writes-more}
use Rattle.pfl_node.proofs.packet.accept.Goals as goal

pub change_state-requires-clause-known : goal.change_state-requires-clause-known
change_state-requires-clause-known g c =
    rw c.free.ensures.node (rw c.with_ack_wanted.ensures
    (wanted-may _ c.args.state false (freed-may c.args.desk.now.node c.name-name.result c.args.state c.requires.known)))

pub returns-in_err-change_state : goal.returns-in_err-change_state
returns-in_err-change_state g c =
    let p = err_from_is_err_and c.from_residual.result c.from_residual.ensures.1 in
    let freed = c.free.ensures.node ∙ ap (to.freed c.args.desk.now.node) c.name-name.ensures in
    let same : to.changed c.free.new.self.node c.with_ack_wanted.result ≡ to.changed (to.freed c.args.desk.now.node c.args.state.name)
    (record c.args.state { ack_wanted = false }) = λ i. to.changed (freed i) (c.with_ack_wanted.ensures i) in
    record {
      done = rw p.1 (record {
        full = sym (ap is_overfull same) ∙ c.in_err-change_state.ensures.full;
        step = tt;
        writes = writes-more 5 6 _ _ (omega arith) (writes-then 2 3 _ _ _ c.free.ensures.writes c.change_state.ensures.writes);
      });
    }

pub returns : goal.returns
returns g c =
    let freed = c.free.ensures.node ∙ ap (to.freed c.args.desk.now.node) c.name-name.ensures in
    let same : to.changed c.free.new.self.node c.with_ack_wanted.result ≡ to.changed (to.freed c.args.desk.now.node c.args.state.name)
    (record c.args.state { ack_wanted = false }) = λ i. to.changed (freed i) (c.with_ack_wanted.ensures i) in
    let changed = c.in_ok-change_state.ensures.node ∙ same in
    record {
      done = record {
        full = tt;
        step = c.pass.ensures.step ∙ (λ i. pass (changed i) (Some (c.name-name.ensures i)));
        writes = writes-then 5 1 _ _ _ (writes-then 2 3 _ _ _ c.free.ensures.writes c.change_state.ensures.writes) c.pass.ensures.writes;
      };
    }
