use Rattle.std.proofs.Common.{◌≡◌}
use Rattle.pfl_node.proofs.Judged.{ends}
use Rattle.pfl_node.specs.Stepping.{node_edits, node_meaning}
use Rattle.pfl_node.proofs.node.Node.step_on.Goals as goal

pub carry_out-done-requires : goal.carry_out-done-requires
carry_out-done-requires g c = record { idle = record { node = c.self.invariant.0; ready = c.self.invariant.1 } }

pub conclude-requires : goal.conclude-requires
conclude-requires g c = record { counted = c.carry_out-done.ensures.counted }

pub invariant_of-self : goal.invariant_of-self
invariant_of-self g c =
    let m = node_meaning c.self.inside.desk.node c.args.event.now in
    let e = c.conclude.ensures in
    let r = g.R.Recorder in
    let s = ends (g.W.OfPart.of c.args.part) (r.list c.args.to.now) (r.list c.conclude.new.to) (node_edits c.self.inside.desk.node c.args.event.now) m.refusal m.after
    (λ outcome. outcome ≡ m.outcome) c.self.inside.desk c.carry_out-done.new.desk c.conclude.new.self c.carry_out-done.result c.conclude.result
    c.self.invariant.0 c.self.invariant.1 c.carry_out-done.ensures e.refused e.undone e.untaken e.stands e.kept e.parts e.recorded e.none e.room in
    (s.node, s.ready)

pub returns : goal.returns
returns g c =
    let m = node_meaning c.self.inside.desk.node c.args.event.now in
    let e = c.conclude.ensures in
    let r = g.R.Recorder in
    let s = ends (g.W.OfPart.of c.args.part) (r.list c.args.to.now) (r.list c.conclude.new.to) (node_edits c.self.inside.desk.node c.args.event.now) m.refusal m.after
    (λ outcome. outcome ≡ m.outcome) c.self.inside.desk c.carry_out-done.new.desk c.conclude.new.self c.carry_out-done.result c.conclude.result
    c.self.invariant.0 c.self.invariant.1 c.carry_out-done.ensures e.refused e.undone e.untaken e.stands e.kept e.parts e.recorded e.none e.room in
    rw (← c.self.view_is) (record { steps = s.steps; one_more = e.one_more; total = e.total })
