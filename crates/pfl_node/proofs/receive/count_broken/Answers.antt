use Rattle.std.proofs.Common.{refl, arith}
use Rattle.std.specs.Prelude.{Ok}
use Rattle.pfl_receive.specs.desk.Changes.{count_broken}
use Rattle.pfl_node.specs.Calls.{Any}
use Rattle.pfl_node.specs.Delivering.{broken_refusal}
use Rattle.pfl_node.proofs.Judged.{by-end}
use Rattle.pfl_node.proofs.Ready.{begins}
use Rattle.pfl_node.proofs.receive.count_broken.Goals as goal

pub count-requires : goal.count-requires
count-requires g c = let room = (begins c.args.desk.now c.requires.idle.ready).room in record { room = omega (arith, room) }

pub returns : goal.returns
returns g c =
    let n = c.args.desk.now.node in
    let d = c.count.ensures in
    let j = c.judge.ensures in
    by-end 1 (broken_refusal n) (count_broken n) Any c.args.desk.now c.count.new.self (Ok tt) c.judge.result j.refused j.answer j.fits refl tt d.node tt d.writes
