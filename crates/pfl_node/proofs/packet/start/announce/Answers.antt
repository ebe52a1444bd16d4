use Rattle.std.proofs.Common.{◌≡◌, Some, ◌∙◌, ap, sym, arith}
use Rattle.std.proofs.lemmas.Result.{err_from_is_err_and}
use Rattle.pfl_base.proofs.ForCallers.{names_total, names_exact}
use Rattle.pfl_edits.proofs.ForCallers.{get-set_at_same}
use Rattle.pfl_receive.specs.queue.declared.Kind.TheVariants.{Insert}
use Rattle.pfl_receive.specs.queue.Queues.{Queue, pending}
use Rattle.std.specs.Prelude.{nat_lt}
use Rattle.pfl_receive.specs.desk.Changes.{mark}
use Rattle.pfl_receive.specs.desk.Nodes.{Node, is_overfull}
use Rattle.pfl_node.specs.Starting.{with_new, with_room, pass, hold, is_deferred}
use Rattle.pfl_node.proofs.Holding.{announced-queue, announced-quiet, announced-held, announced-passed, fresh-held}
use Rattle.pfl_receive.proofs.ForCallers.desk.{told-may, writes-then, writes-more}
use Rattle.pfl_node.proofs.packet.start.announce.Goals as goal

pub returns-then-no_sync : goal.returns-then-no_sync
returns-then-no_sync g c =
    let s = c.args.state in
    let m = with_new c.args.desk.now.node s in
    let step : pass c.put_new.new.desk.node (Some c.name-name.result) ≡ pass m (Some s.name) =
    λ i. pass (c.put_new.ensures.node i) (Some (c.name-name.ensures i)) in
    record {
      done = record {
        full = tt;
        step = c.pass.ensures.step ∙ (step ∙ sym (announced-quiet m s c.args.dir c.args.packet.now (sym c.no_sync.ensures ∙ c.if-no_sync.true)));
        writes = writes-more 3 9 _ _ (omega arith) (writes-then 2 1 _ _ _ c.put_new.ensures.writes c.pass.ensures.writes);
      };
    }

pub mark-requires-clause-may : goal.mark-requires-clause-may
mark-requires-clause-may g c =
    let s = c.args.state in
    let id = c.requires.known.id in
    let stands = get-set_at_same names_total names_exact c.args.desk.now.node.states s.name (Some s) in
    let told = sym c.no_sync.ensures ∙ c.if-no_sync.false in
    rw c.name-name.ensures (rw c.put_new.ensures.node (told-may (with_new c.args.desk.now.node s) s.name Insert s stands told (λ own. omega arith) (λ e. cc)))

pub returns-in_err-mark : goal.returns-in_err-mark
returns-in_err-mark g c =
    let p = err_from_is_err_and c.from_residual.result c.from_residual.ensures.1 in
    let s = c.args.state in
    let m = with_new c.args.desk.now.node s in
    let told = sym c.no_sync.ensures ∙ c.if-no_sync.false in
    let queue = announced-queue m s c.args.dir c.args.packet.now c.requires.parts.deferrals told in
    let same : mark c.put_new.new.desk.node c.name-name.result Insert ≡ mark m s.name Insert =
    λ i. mark (c.put_new.ensures.node i) (c.name-name.ensures i) Insert in
    record {
      done = rw p.1 (record {
        full = ap (λ (q : Queue). nat_lt q.limit (pending q)) queue ∙ (sym (ap is_overfull same) ∙ c.in_err-mark.ensures.full);
        step = tt;
        writes = writes-more 3 9 _ _ (omega arith) (writes-then 2 1 _ _ _ c.put_new.ensures.writes c.mark.ensures.writes);
      });
    }

pub hold_back-requires-clause-stands : goal.hold_back-requires-clause-stands
hold_back-requires-clause-stands g c =
    let s = c.args.state in
    rw c.in_ok-mark.ensures.node (rw c.put_new.ensures.node (get-set_at_same names_total names_exact c.args.desk.now.node.states s.name (Some s)))

pub hold_back-requires-clause-fresh : goal.hold_back-requires-clause-fresh
hold_back-requires-clause-fresh g c =
    rw c.in_ok-mark.ensures.node (rw c.put_new.ensures.node (fresh-held c.args.desk.now.node c.args.state c.requires.parts c.requires.known))

pub returns-then-is_deferred : goal.returns-then-is_deferred
returns-then-is_deferred g c =
    let s = c.args.state in
    let m = with_new c.args.desk.now.node s in
    let told = sym c.no_sync.ensures ∙ c.if-no_sync.false in
    let same : mark c.put_new.new.desk.node c.name-name.result Insert ≡ mark m s.name Insert =
    λ i. mark (c.put_new.ensures.node i) (c.name-name.ensures i) Insert in
    let marked = c.in_ok-mark.ensures.node ∙ same in
    let on = ap (λ (k : Node). is_deferred k c.args.dir) (sym marked) ∙ (sym (c.is_deferred.ensures.deferred ∙ ap (λ (k : Node). is_deferred k c.args.dir) c.parts.ensures.parts) ∙ c.if-is_deferred.true) in
    record {
      done = record {
        full = tt;
        step = c.hold_back.ensures.step
            ∙ (ap (λ (k : Node). hold (with_room k) s c.args.packet.now) marked ∙ sym (announced-held m s c.args.dir c.args.packet.now told on));
        writes = writes-then 3 6 _ _ _ (writes-then 2 1 _ _ _ c.put_new.ensures.writes c.mark.ensures.writes) c.hold_back.ensures.writes;
      };
    }

pub returns : goal.returns
returns g c =
    let s = c.args.state in
    let m = with_new c.args.desk.now.node s in
    let told = sym c.no_sync.ensures ∙ c.if-no_sync.false in
    let same : mark c.put_new.new.desk.node c.name-name.result Insert ≡ mark m s.name Insert =
    λ i. mark (c.put_new.ensures.node i) (c.name-name.ensures i) Insert in
    let marked = c.in_ok-mark.ensures.node ∙ same in
    let off = ap (λ (k : Node). is_deferred k c.args.dir) (sym marked) ∙ (sym (c.is_deferred.ensures.deferred ∙ ap (λ (k : Node). is_deferred k c.args.dir) c.parts.ensures.parts) ∙ c.if-is_deferred.false) in
    let step : pass c.mark.new.self.node (Some c.name-name.result) ≡ pass (mark m s.name Insert) (Some s.name) =
    λ i. pass (marked i) (Some (c.name-name.ensures i)) in
    record {
      done = record {
        full = tt;
        step = c.pass-2.ensures.step ∙ (step ∙ sym (announced-passed m s c.args.dir c.args.packet.now told off));
        writes = writes-more 4 9 _ _ (omega arith)
            (writes-then 3 1 _ _ _ (writes-then 2 1 _ _ _ c.put_new.ensures.writes c.mark.ensures.writes) c.pass-2.ensures.writes);
      };
    }
