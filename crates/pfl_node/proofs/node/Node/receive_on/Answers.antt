use Rattle.std.proofs.Common.{◌≡◌, length}
use Rattle.pfl_wire.specs.Frames.{records_of}
use Rattle.pfl_receive.specs.Delivering.{received}
use Rattle.pfl_node.specs.Delivering.{frame_edits, receive_refusal}
use Rattle.pfl_node.proofs.Judged.{ends}
use Rattle.pfl_node.proofs.node.Node.receive_on.Goals as goal

pub take_all-done-requires : goal.take_all-done-requires
take_all-done-requires g c = record { idle = record { node = c.self.invariant.0; ready = c.self.invariant.1 }; short = rw (← c.self.view_is) at c.requires.short }

pub conclude-requires : goal.conclude-requires
conclude-requires g c = record { counted = c.take_all-done.ensures.counted }

pub invariant_of-self : goal.invariant_of-self
invariant_of-self g c =
    let n = c.self.inside.desk.node in
    let e = c.conclude.ensures in
    let r = g.R.Recorder in
    let s = ends (g.W.OfPart.of c.args.part) (r.list c.args.to.now) (r.list c.conclude.new.to) (frame_edits n c.args.frame.now) (receive_refusal n c.args.frame.now) (received n c.args.frame.now)
    (λ count. count ≡ length (records_of c.args.frame.now))
    c.self.inside.desk c.take_all-done.new.desk c.conclude.new.self c.take_all-done.result c.conclude.result c.self.invariant.0 c.self.invariant.1
    c.take_all-done.ensures e.refused e.undone e.untaken e.stands e.kept e.parts e.recorded e.none e.room in
    (s.node, s.ready)

pub returns : goal.returns
returns g c =
    let n = c.self.inside.desk.node in
    let e = c.conclude.ensures in
    let r = g.R.Recorder in
    let s = ends (g.W.OfPart.of c.args.part) (r.list c.args.to.now) (r.list c.conclude.new.to) (frame_edits n c.args.frame.now) (receive_refusal n c.args.frame.now) (received n c.args.frame.now)
    (λ count. count ≡ length (records_of c.args.frame.now))
    c.self.inside.desk c.take_all-done.new.desk c.conclude.new.self c.take_all-done.result c.conclude.result c.self.invariant.0 c.self.invariant.1
    c.take_all-done.ensures e.refused e.undone e.untaken e.stands e.kept e.parts e.recorded e.none e.room in
    rw (← c.self.view_is) (record { steps = s.steps; one_more = e.one_more; total = e.total })
