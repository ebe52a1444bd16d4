use Rattle.pfl_desk.proofs.Recording.{writes-then, writes-more}
use Rattle.std.proofs.lemmas.Result.{err_from_is_err_and}
use Rattle.std.proofs.Common.{◌∙◌, ap, sym, arith}
use Rattle.pfl_desk.specs.Nodes.{is_overfull}
use Rattle.pfl_desk.proofs.Telling.{changed-synced, changed-unsynced}
use Rattle.pfl_desk.proofs.desk.Desk.change_state.Goals as goal

pub replace_state-requires-clause-may : goal.replace_state-requires-clause-may
replace_state-requires-clause-may g c = c.requires.known

pub returns-then-no_sync-clause-node : goal.returns-then-no_sync-clause-node
returns-then-no_sync-clause-node g c = c.replace_state.ensures.node
    ∙ sym (changed-unsynced c.args.self.now.node c.args.state (sym c.no_sync.ensures ∙ c.if-no_sync.true))

pub returns-in_err-announce-clause-full : goal.returns-in_err-announce-clause-full
returns-in_err-announce-clause-full g c =
    let p = err_from_is_err_and c.from_residual.result c.from_residual.ensures.1 in
    rw p.1 (ap is_overfull (changed-synced c.args.self.now.node c.args.state (sym c.no_sync.ensures ∙ c.if-no_sync.false)) ∙ c.in_err-announce.ensures.full)

pub returns-in_err-announce-clause-node : goal.returns-in_err-announce-clause-node
returns-in_err-announce-clause-node g c =
    let p = err_from_is_err_and c.from_residual.result c.from_residual.ensures.1 in
    rw p.1 tt

pub returns-in_err-announce-clause-writes : goal.returns-in_err-announce-clause-writes
returns-in_err-announce-clause-writes g c = writes-more 2 3 _ _ (omega arith) c.announce.ensures.writes

pub returns-then-no_sync-clause-writes : goal.returns-then-no_sync-clause-writes
returns-then-no_sync-clause-writes g c = writes-more 1 3 _ _ (omega arith) c.replace_state.ensures.writes

pub returns-clause-node : goal.returns-clause-node
returns-clause-node g c =
    let all = changed-synced c.args.self.now.node c.args.state (sym c.no_sync.ensures ∙ c.if-no_sync.false) in
    rw c.push_if.ensures.node (rw c.in_ok-announce.ensures.node (rw c.is_recent-recent.ensures.recent (sym all)))

pub returns-clause-writes : goal.returns-clause-writes
returns-clause-writes g c = writes-then 2 1 _ _ _ c.announce.ensures.writes c.push_if.ensures.writes
