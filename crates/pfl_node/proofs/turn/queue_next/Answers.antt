use Rattle.pfl_receive.specs.desk.Nodes.{Node}
use Rattle.std.proofs.Common.{◌≡◌, ◌+◌, length, List, ◌∙◌, ap, sym, subst, arith}
use Rattle.std.proofs.lemmas.Result.{err_from_is_err_and}
use Rattle.std.specs.List.{AllByRecursion}
use Rattle.pfl_base.specs.declared.state_name.StateName.{StateName}
use Rattle.pfl_bulk.specs.Bulk.{first_names}
use Rattle.pfl_receive.specs.queue.declared.Kind.TheVariants.{Update}
use Rattle.pfl_language.specs.declared.limits.Limits.{Limits}
use Rattle.pfl_receive.specs.desk.inner.Kept.{MayMark}
use Rattle.pfl_receive.proofs.ForCallers.desk.{writes-then, writes-more}
use Rattle.pfl_node.specs.Turning.{turn_of, turned}
use Rattle.pfl_node.proofs.Turned.{all_eligible, first-rising, turn-by, turn-may, turned-full, ended-full, turned-is, turned-past}
use Rattle.pfl_node.proofs.turn.queue_next.Goals as goal

pub turn-turn-requires : goal.turn-turn-requires
turn-turn-requires g c =
    let n = c.args.desk.now.node in
    let first = (c.next_names-count.ensures.names ∙ ap (λ (k : Node). first_names k.server (all_eligible k) (c.limits-batch.result.batch + 1)) c.parts-parts.ensures.parts) ∙ ap (λ (l : Limits). first_names n.server (all_eligible n) (l.batch + 1)) (c.limits-batch.ensures.limits ∙ ap (λ (k : Node). k.limits) c.parts-parts.ensures.parts) in
    record { rising = first-rising n _ first c.requires.parts }

pub queue_all-requires : goal.queue_all-requires
queue_all-requires g c =
    let n = c.args.desk.now.node in
    let told = c.turn-turn.ensures in
    let turn = turn-by n _ _ _ (c.next_names-count.ensures.names ∙ ap (λ (k : Node). first_names k.server (all_eligible k) (c.limits-batch.result.batch + 1)) c.parts-parts.ensures.parts) (c.server.ensures.server ∙ ap (λ (k : Node). k.server) c.parts-parts.ensures.parts) (c.limits-batch.ensures.limits ∙ ap (λ (k : Node). k.limits) c.parts-parts.ensures.parts) _ _ _ told.names told.server told.last in
    let long = ap (λ (ns : List StateName). length ns) turn.names in
    let room = c.requires.room in
    record {
      room = omega (arith, room, long);
      may = subst (AllByRecursion (λ name. MayMark n name Update)) (sym turn.names) (turn-may n c.requires.parts);
    }

pub returns-in_err-queue_all : goal.returns-in_err-queue_all
returns-in_err-queue_all g c =
    let p = err_from_is_err_and c.from_residual.result c.from_residual.ensures.1 in
    let n = c.args.desk.now.node in
    let told = c.turn-turn.ensures in
    let turn = turn-by n _ _ _ (c.next_names-count.ensures.names ∙ ap (λ (k : Node). first_names k.server (all_eligible k) (c.limits-batch.result.batch + 1)) c.parts-parts.ensures.parts) (c.server.ensures.server ∙ ap (λ (k : Node). k.server) c.parts-parts.ensures.parts) (c.limits-batch.ensures.limits ∙ ap (λ (k : Node). k.limits) c.parts-parts.ensures.parts) _ _ _ told.names told.server told.last in
    let long = ap (λ (ns : List StateName). length ns) turn.names in
    record {
      full = rw p.1 (turned-full n _ _ _ turn c.in_err-queue_all.ensures.full);
      node = rw p.1 tt;
      count = rw p.1 tt;
      writes = writes-more _ (length (turn_of n) + 3) _ _ (omega (arith, long)) c.queue_all.ensures.writes;
    }

pub announce_end-requires : goal.announce_end-requires
announce_end-requires g c =
    let n = c.args.desk.now.node in
    let told = c.turn-turn.ensures in
    let turn = turn-by n _ _ _ (c.next_names-count.ensures.names ∙ ap (λ (k : Node). first_names k.server (all_eligible k) (c.limits-batch.result.batch + 1)) c.parts-parts.ensures.parts) (c.server.ensures.server ∙ ap (λ (k : Node). k.server) c.parts-parts.ensures.parts) (c.limits-batch.ensures.limits ∙ ap (λ (k : Node). k.limits) c.parts-parts.ensures.parts) _ _ _ told.names told.server told.last in
    let long = ap (λ (ns : List StateName). length ns) turn.names in
    let room = c.requires.room in
    let spare = c.queue_all.ensures.writes.spare in
    record { room = omega (arith, room, long, spare) }

pub returns-in_err-announce_end : goal.returns-in_err-announce_end
returns-in_err-announce_end g c =
    let p = err_from_is_err_and c.from_residual-in_err-announce_end.result c.from_residual-in_err-announce_end.ensures.1 in
    let n = c.args.desk.now.node in
    let told = c.turn-turn.ensures in
    let turn = turn-by n _ _ _ (c.next_names-count.ensures.names ∙ ap (λ (k : Node). first_names k.server (all_eligible k) (c.limits-batch.result.batch + 1)) c.parts-parts.ensures.parts) (c.server.ensures.server ∙ ap (λ (k : Node). k.server) c.parts-parts.ensures.parts) (c.limits-batch.ensures.limits ∙ ap (λ (k : Node). k.limits) c.parts-parts.ensures.parts) _ _ _ told.names told.server told.last in
    let long = ap (λ (ns : List StateName). length ns) turn.names in
    record {
      full = rw p.1
          (ended-full n _ _ _ turn c.queue_all.new.desk.node c.in_ok-queue_all.ensures.node c.in_err-announce_end.ensures.full);
      node = rw p.1 tt;
      count = rw p.1 tt;
      writes = writes-more _ (length (turn_of n) + 3) _ _ (omega (arith, long))
          (writes-then _ 2 _ _ _ c.queue_all.ensures.writes c.announce_end.ensures.writes);
    }

pub set_server-requires : goal.set_server-requires
set_server-requires g c =
    let n = c.args.desk.now.node in
    let told = c.turn-turn.ensures in
    let turn = turn-by n _ _ _ (c.next_names-count.ensures.names ∙ ap (λ (k : Node). first_names k.server (all_eligible k) (c.limits-batch.result.batch + 1)) c.parts-parts.ensures.parts) (c.server.ensures.server ∙ ap (λ (k : Node). k.server) c.parts-parts.ensures.parts) (c.limits-batch.ensures.limits ∙ ap (λ (k : Node). k.limits) c.parts-parts.ensures.parts) _ _ _ told.names told.server told.last in
    let long = ap (λ (ns : List StateName). length ns) turn.names in
    let room = c.requires.room in
    let spare = c.queue_all.ensures.writes.spare in
    let left = c.announce_end.ensures.writes.spare in
    record {
      room = omega (arith, room, long, spare, left);
      past = turned-past n _ _ _ turn c.requires.parts c.queue_all.new.desk.node c.announce_end.new.desk.node
          c.in_ok-queue_all.ensures.node c.in_ok-announce_end.ensures.node;
    }

pub returns : goal.returns
returns g c =
    let n = c.args.desk.now.node in
    let told = c.turn-turn.ensures in
    let turn = turn-by n _ _ _ (c.next_names-count.ensures.names ∙ ap (λ (k : Node). first_names k.server (all_eligible k) (c.limits-batch.result.batch + 1)) c.parts-parts.ensures.parts) (c.server.ensures.server ∙ ap (λ (k : Node). k.server) c.parts-parts.ensures.parts) (c.limits-batch.ensures.limits ∙ ap (λ (k : Node). k.limits) c.parts-parts.ensures.parts) _ _ _ told.names told.server told.last in
    let long = ap (λ (ns : List StateName). length ns) turn.names in
    let node : c.set_server.new.self.node ≡ turned n = c.set_server.ensures.node
    ∙ turned-is n _ _ _ turn c.queue_all.new.desk.node c.announce_end.new.desk.node c.in_ok-queue_all.ensures.node
    c.in_ok-announce_end.ensures.node in
    let all = writes-then _ 1 _ _ _ (writes-then _ 2 _ _ _ c.queue_all.ensures.writes c.announce_end.ensures.writes) c.set_server.ensures.writes in
    record {
      full = tt;
      node = node;
      count = long;
      writes = writes-more _ (length (turn_of n) + 3) _ _ (omega (arith, long)) all;
    }
