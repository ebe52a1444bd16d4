use Rattle.std.proofs.Common.{◌-◌, ◌∙◌, ap, take, arith}
use Rattle.pfl_events.proofs.Keeping.{events-front, kept-front, left-are, left-over, some-left}
use Rattle.pfl_events.proofs.events.Events.first.Goals as goal

pub overflow_sub-packets : goal.overflow_sub-packets
overflow_sub-packets g c = some-left _ _ c.self.invariant c.args.count _ c.deref.ensures.value _ _ c.packets_among.ensures.packets
    (omega (arith, c.len.ensures, c.self.inside.packets.ok.0))

pub invariant_of-result : goal.invariant_of-result
invariant_of-result g c =
    let left = left-over _ _ c.self.invariant c.args.count _ c.deref.ensures.value _ _ c.packets_among.ensures.packets
    (omega (arith, c.len.ensures, c.self.inside.packets.ok.0)) in
    let events = c.in_ok-from_slice.ensures.items ∙ ap (take c.args.count) c.deref-2.ensures.value in
    let packets = c.in_ok-from_slice-2.ensures.items ∙ ap (take (c.len.result - c.packets_among.result)) c.deref-3.ensures.value in
    rw (events, packets) (kept-front _ _ c.self.invariant c.args.count _ (left-are _ _ c.self.invariant c.args.count _ left))

pub returns : goal.returns
returns g c =
    let left = left-over _ _ c.self.invariant c.args.count _ c.deref.ensures.value _ _ c.packets_among.ensures.packets
    (omega (arith, c.len.ensures, c.self.inside.packets.ok.0)) in
    let events = c.in_ok-from_slice.ensures.items ∙ ap (take c.args.count) c.deref-2.ensures.value in
    let packets = c.in_ok-from_slice-2.ensures.items ∙ ap (take (c.len.result - c.packets_among.result)) c.deref-3.ensures.value in
    record {
      events = rw (events, packets)
          (events-front _ _ c.self.invariant c.args.count _ (left-are _ _ c.self.invariant c.args.count _ left))
          ∙ ap (take c.args.count) c.self.view_is;
    }
