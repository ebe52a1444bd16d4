use Rattle.std.proofs.Common.{◌≡◌, ◌∙◌, ap, sym, refl, arith}
use Rattle.std.proofs.lemmas.Result.{on_ok_weaker, on_err_weaker, IfOk-weaker}
use Rattle.pfl_receive.specs.desk.Nodes.{is_overfull, Node}
use Rattle.pfl_receive.specs.Receiving.{taken}
use Rattle.pfl_node.specs.Calls.{Any}
use Rattle.pfl_node.specs.Delivering.{message_refusal, message_taken, has_print}
use Rattle.pfl_node.proofs.Judged.{by-end}
use Rattle.pfl_node.proofs.Ready.{begins}
use Rattle.pfl_node.proofs.message.take_one.Goals as goal

pub take_record-tried-requires : goal.take_record-tried-requires
take_record-tried-requires g c =
    let room = (begins c.args.desk.now c.requires.idle.ready).frame in
    let few = c.requires.idle.node.parts.few in
    record { room = omega (arith, room, few) }

pub returns : goal.returns
returns g c =
    let n = c.args.desk.now.node in
    let d = c.take_record-tried.ensures in
    let j = c.judge.ensures in
    let b = c.take_record-tried.new.desk in
    let meant : taken n c.has_print-same_rules.result c.args.message.now ≡ message_taken n c.args.message.now c.args.print.now =
    ap (λ same. taken n same c.args.message.now) (c.has_print-same_rules.ensures.same ∙ ap (λ (k : Node). has_print k c.args.print.now) c.parts.ensures.parts) in
    by-end _ (message_refusal n c.args.message.now c.args.print.now) (message_taken n c.args.message.now c.args.print.now) Any c.args.desk.now b
    c.take_record-tried.result c.judge.result j.refused j.answer j.fits refl
    (on_err_weaker c.take_record-tried.result (λ full. ap is_overfull (sym meant) ∙ full) d.full)
    (on_ok_weaker c.take_record-tried.result (λ node. node ∙ meant) d.node)
    (IfOk-weaker c.take_record-tried.result (λ _. b.node ≡ taken n c.has_print-same_rules.result c.args.message.now) Any (λ _ _. tt) d.node) d.writes
