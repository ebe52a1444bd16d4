use Rattle.std.proofs.Common.{◌≡◌, ap, refl, arith}
use Rattle.std.proofs.lemmas.Result.{IfOk-weaker}
use Rattle.pfl_edits.specs.Maps as maps
use Rattle.pfl_language.specs.declared.node_event.NodeOutcome.TheVariants.{Cleared}
use Rattle.pfl_node.specs.Clearing.{cleared, clear_refusal}
use Rattle.pfl_node.proofs.Judged.{by-end}
use Rattle.pfl_node.proofs.Ready.{begins}
use Rattle.pfl_node.proofs.clear.clear.Goals as goal

pub give_up_all-tried-requires : goal.give_up_all-tried-requires
give_up_all-tried-requires g c =
    let room = (begins c.args.desk.now c.requires.idle.ready).room in
    let few = c.requires.idle.node.parts.few in
    record { room = omega (arith, room, few) }

pub returns : goal.returns
returns g c =
    let n = c.args.desk.now.node in
    let d = c.give_up_all-tried.ensures in
    let j = c.judge.ensures in
    let count = maps.len n.states in
    by-end _ (clear_refusal n) (cleared n) (λ k. Cleared k ≡ Cleared count) c.args.desk.now c.give_up_all-tried.new.desk c.give_up_all-tried.result
    c.judge.result j.refused j.answer j.fits refl d.full d.node
    (IfOk-weaker c.give_up_all-tried.result (λ k. k ≡ count) (λ k. Cleared k ≡ Cleared count) (λ k same. ap Cleared same) d.count) d.writes
