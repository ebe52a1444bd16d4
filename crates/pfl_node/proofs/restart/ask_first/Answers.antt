use Rattle.std.proofs.Common.{◌≡◌, true, false, ◌∙◌, ap, sym, arith, refl}
use Rattle.pfl_bulk.specs.Bulk.{no_name}
use Rattle.pfl_receive.specs.desk.Changes.{ask}
use Rattle.pfl_receive.specs.desk.Nodes.{Node, is_overfull}
use Rattle.pfl_receive.proofs.ForCallers.desk.{writes-then}
use Rattle.pfl_node.proofs.restart.ask_first.Goals as goal

pub set_clock-requires : goal.set_clock-requires
set_clock-requires g c =
    let room = c.requires.room in
    record { room = omega (arith, room); later = c.requires.later; within = c.requires.within }

pub ask-requires : goal.ask-requires
ask-requires g c =
    let room = c.requires.room in
    let first = c.set_clock.ensures.writes.spare in
    record { room = omega (arith, room, first) }

pub unreachable-requires : goal.unreachable-requires
unreachable-requires g c =
    let full : true ≡ false = sym c.in_default.ensures.full ∙ (ap (λ (n : Node). is_overfull (ask n no_name)) c.set_clock.ensures.node ∙ c.requires.free) in
    absurd (cc)

pub set_client-requires : goal.set_client-requires
set_client-requires g c =
    let room = c.requires.room in
    let first = c.set_clock.ensures.writes.spare in
    let second = c.ask.ensures.writes.spare in
    let clock : c.ask.new.self.node.clock ≡ c.args.clock =
    ap (λ (n : Node). n.clock) (c.in-Ok.ensures.node ∙ ap (λ (n : Node). ask n no_name) c.set_clock.ensures.node) in
    record { room = omega (arith, room, first, second); past = rw c.first_asked.ensures.client (omega (arith, clock)) }

pub returns : goal.returns
returns g c =
    record {
      node = rw (c.set_client.ensures.node, c.first_asked.ensures.client, c.in-Ok.ensures.node, c.set_clock.ensures.node) refl;
      parts = c.set_client.ensures.parts;
      writes = writes-then 3 1 _ _ _ (writes-then 1 2 _ _ _ c.set_clock.ensures.writes c.ask.ensures.writes) c.set_client.ensures.writes;
    }
