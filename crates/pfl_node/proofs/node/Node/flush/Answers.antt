use Rattle.std.proofs.Common.{◌≡◌}
use Rattle.pfl_wire.specs.Spelling.{spelling}
use Rattle.pfl_node.specs.Flushing.{flush_edits, send_refusal, flushed, frame_of}
use Rattle.pfl_node.proofs.Judged.{ends, gives-ok}
use Rattle.pfl_node.proofs.node.Node.flush.Goals as goal

pub send_next-done-requires : goal.send_next-done-requires
send_next-done-requires g c = record { idle = record { node = c.self.invariant.0; ready = c.self.invariant.1 } }

pub conclude-requires : goal.conclude-requires
conclude-requires g c = record { counted = c.send_next-done.ensures.does.counted }

pub invariant_of-self-2 : goal.invariant_of-self-2
invariant_of-self-2 g c =
    let n = c.self.inside.desk.node in
    let e = c.conclude.ensures in
    let s = ends (λ edit. edit) c.new-edits.result.list c.conclude.new.to.list (flush_edits n) (send_refusal n) (flushed n)
    (λ bytes. bytes.items ≡ spelling (frame_of n)) c.self.inside.desk c.send_next-done.new.desk c.conclude.new.self c.send_next-done.result
    c.conclude.result c.self.invariant.0 c.self.invariant.1 c.send_next-done.ensures.does e.refused e.undone e.untaken e.stands e.kept e.parts
    e.recorded e.none e.room in
    (s.node, s.ready)

pub returns-clause-gives : goal.returns-clause-gives
returns-clause-gives g c =
    let n = c.self.inside.desk.node in
    let e = c.conclude.ensures in
    let s = ends (λ edit. edit) c.new-edits.result.list c.conclude.new.to.list (flush_edits n) (send_refusal n) (flushed n)
    (λ bytes. bytes.items ≡ spelling (frame_of n)) c.self.inside.desk c.send_next-done.new.desk c.conclude.new.self c.send_next-done.result
    c.conclude.result c.self.invariant.0 c.self.invariant.1 c.send_next-done.ensures.does e.refused e.undone e.untaken e.stands e.kept e.parts
    e.recorded e.none e.room in
    rw (← c.self.view_is) (gives-ok (flush_edits n) (send_refusal n) (flushed n) (λ bytes. bytes.items ≡ spelling (frame_of n)) c.in_ok-bytes.bytes
    c.conclude.new.to n c.conclude.new.self.node c.new-edits.result.list c.conclude.result c.in_ok-bytes.was c.new-edits.ensures.list s.steps)
