use Rattle.pfl_node.specs.Calls.{Any}
use Rattle.pfl_node.specs.Delivering.{message_edits, message_refusal, message_taken}
use Rattle.pfl_node.proofs.Judged.{ends}
use Rattle.pfl_node.proofs.node.Node.take_message_on.Goals as goal

pub take_one-done-requires : goal.take_one-done-requires
take_one-done-requires g c = record { idle = record { node = c.self.invariant.0; ready = c.self.invariant.1 } }

pub conclude-requires : goal.conclude-requires
conclude-requires g c = record { counted = c.take_one-done.ensures.counted }

pub invariant_of-self : goal.invariant_of-self
invariant_of-self g c =
    let n = c.self.inside.desk.node in
    let e = c.conclude.ensures in
    let r = g.R.Recorder in
    let s = ends (g.W.OfPart.of c.args.part) (r.list c.args.to.now) (r.list c.conclude.new.to) (message_edits n c.args.message.now) (message_refusal n c.args.message.now c.args.print.now)
    (message_taken n c.args.message.now c.args.print.now) Any
    c.self.inside.desk c.take_one-done.new.desk c.conclude.new.self c.take_one-done.result c.conclude.result c.self.invariant.0 c.self.invariant.1
    c.take_one-done.ensures e.refused e.undone e.untaken e.stands e.kept e.parts e.recorded e.none e.room in
    (s.node, s.ready)

pub returns : goal.returns
returns g c =
    let n = c.self.inside.desk.node in
    let e = c.conclude.ensures in
    let r = g.R.Recorder in
    let s = ends (g.W.OfPart.of c.args.part) (r.list c.args.to.now) (r.list c.conclude.new.to) (message_edits n c.args.message.now) (message_refusal n c.args.message.now c.args.print.now)
    (message_taken n c.args.message.now c.args.print.now) Any
    c.self.inside.desk c.take_one-done.new.desk c.conclude.new.self c.take_one-done.result c.conclude.result c.self.invariant.0 c.self.invariant.1
    c.take_one-done.ensures e.refused e.undone e.untaken e.stands e.kept e.parts e.recorded e.none e.room in
    rw (← c.self.view_is) (record { steps = s.steps; one_more = e.one_more; total = e.total })
