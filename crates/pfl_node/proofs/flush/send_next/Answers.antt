use Rattle.pfl_receive.specs.desk.Nodes.{Node}
use Rattle.std.proofs.Common.{◌≡◌, true, false, Some, None, ◌∙◌, ap, sym, arith}
use Rattle.std.specs.Prelude.{◌==◌, if◌then◌else◌}
use Rattle.pfl_base.specs.declared.refusal.Refusal.TheVariants.{NothingPending}
use Rattle.pfl_receive.specs.queue.Queues.{Queue, pending}
use Rattle.pfl_node.specs.Flushing.{send_refusal}
use Rattle.pfl_node.proofs.Judged.{at-once}
use Rattle.pfl_node.proofs.Sent.{frame-few, sent-carries, sent-does, where_ok}
use Rattle.pfl_node.proofs.Ready.{begins}
use Rattle.pfl_node.proofs.flush.send_next.Goals as goal

pub returns-then-is_empty : goal.returns-then-is_empty
returns-then-is_empty g c =
    let n = c.args.desk.now.node in
    let none : (pending n.queue == 0) ≡ true = ap (λ (q : Queue). pending q == 0) (sym (c.queue.ensures.queue ∙ ap (λ (k : Node). k.queue) c.parts.ensures.parts))
    ∙ (sym c.is_empty.ensures.empty ∙ c.if-is_empty.true) in
    record {
      does = at-once _ _ _ _ c.args.desk.now NothingPending (ap (λ b. if b then Some NothingPending else None) none);
      fits = tt;
      carries = tt;
    }

pub send-requires : goal.send-requires
send-requires g c =
    let a = c.args.desk.now in
    let few = frame-few a.node c.requires.idle.node.parts in
    let room = (begins a c.requires.idle.ready).room in
    record { parts = c.requires.idle.node.parts; room = omega (arith, few, room) }

pub returns : goal.returns
returns g c =
    let a = c.args.desk.now in
    let d = c.send.ensures in
    let some : (pending a.node.queue == 0) ≡ false = ap (λ (q : Queue). pending q == 0) (sym (c.queue.ensures.queue ∙ ap (λ (k : Node). k.queue) c.parts.ensures.parts))
    ∙ (sym c.is_empty.ensures.empty ∙ c.if-is_empty.false) in
    let free : send_refusal a.node ≡ None = ap (λ b. if b then Some NothingPending else None) some in
    record {
      does = sent-does a c.send.new.desk c.send.result _ _ c.requires.idle.node.counted free d.memory d.node d.bytes d.writes;
      fits = d.fits;
      carries = where_ok c.send.result (sent-carries a.node c.requires.idle.node.parts free);
    }
