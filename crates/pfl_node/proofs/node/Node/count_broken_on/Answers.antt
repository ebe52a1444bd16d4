use Rattle.pfl_receive.specs.desk.Changes.{count_broken}
use Rattle.pfl_node.specs.Calls.{Any}
use Rattle.pfl_node.specs.Delivering.{broken_refusal}
use Rattle.pfl_node.proofs.Judged.{ends}
use Rattle.pfl_node.proofs.node.Node.count_broken_on.Goals as goal

pub count_broken-done-requires : goal.count_broken-done-requires
count_broken-done-requires g c = record { idle = record { node = c.self.invariant.0; ready = c.self.invariant.1 } }

pub conclude-requires : goal.conclude-requires
conclude-requires g c = record { counted = c.count_broken-done.ensures.counted }

pub invariant_of-self : goal.invariant_of-self
invariant_of-self g c =
    let n = c.self.inside.desk.node in
    let e = c.conclude.ensures in
    let r = g.R.Recorder in
    let s = ends (g.W.OfPart.of c.args.part) (r.list c.args.to.now) (r.list c.conclude.new.to) 1 (broken_refusal n) (count_broken n) Any
    c.self.inside.desk c.count_broken-done.new.desk c.conclude.new.self c.count_broken-done.result c.conclude.result c.self.invariant.0 c.self.invariant.1
    c.count_broken-done.ensures e.refused e.undone e.untaken e.stands e.kept e.parts e.recorded e.none e.room in
    (s.node, s.ready)

pub returns : goal.returns
returns g c =
    let n = c.self.inside.desk.node in
    let e = c.conclude.ensures in
    let r = g.R.Recorder in
    let s = ends (g.W.OfPart.of c.args.part) (r.list c.args.to.now) (r.list c.conclude.new.to) 1 (broken_refusal n) (count_broken n) Any
    c.self.inside.desk c.count_broken-done.new.desk c.conclude.new.self c.count_broken-done.result c.conclude.result c.self.invariant.0 c.self.invariant.1
    c.count_broken-done.ensures e.refused e.undone e.untaken e.stands e.kept e.parts e.recorded e.none e.room in
    rw (← c.self.view_is) (record { steps = s.steps; one_more = e.one_more; total = e.total })
