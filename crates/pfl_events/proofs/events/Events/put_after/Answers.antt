use Rattle.std.proofs.Common.{◌-◌, List, [], ◌∷◌, ◌++◌, length, take, append-nil, ◌∙◌, ap, sym, arith}
use Rattle.std.specs.Option.{option_to_list}
use Rattle.pfl_base.specs.declared.fields.PacketFields.{PacketFields}
use Rattle.pfl_language.specs.declared.event.Event.{Event}
use Rattle.pfl_events.specs.declared.kept_event.KeptEvent.{KeptEvent}
use Rattle.pfl_events.proofs.Keeping.{events-put, kept-put, left-over, some-left}
use Rattle.pfl_events.proofs.events.Events.put_after.Goals as goal

pub overflow_sub-index : goal.overflow_sub-index
overflow_sub-index g c =
    some-left _ _ c.self.invariant c.args.count _ (c.deref.ensures.value ∙ c.reserve.ensures.items) _ _ c.packets_among.ensures.packets
    (omega (arith, c.len-2.ensures, c.reserve-2.new.self.ok.0, ap length c.reserve-2.ensures.items))

pub invariant_of-self-in-Some : goal.invariant_of-self-in-Some
invariant_of-self-in-Some g c =
    let left = left-over _ _ c.self.invariant c.args.count _ (c.deref.ensures.value ∙ c.reserve.ensures.items) _ _ c.packets_among.ensures.packets
    (omega (arith, c.len-2.ensures, c.reserve-2.new.self.ok.0, ap length c.reserve-2.ensures.items)) in
    let events = (rw c.unwrap.ensures at c.push.ensures.items)
    ∙ ap (λ (ks : List KeptEvent). ks ++ c.parted-kept.result.0 ∷ []) (c.truncate.ensures.items
    ∙ ap (take c.args.count) c.reserve.ensures.items) in
    let front = c.truncate-2.ensures.items ∙ ap (take (c.len-2.result - c.packets_among.result)) c.reserve-2.ensures.items in
    let packets = (rw c.unwrap-in-Some.ensures at c.push-in-Some.ensures.items)
    ∙ ap (λ (ps : List PacketFields). ps ++ c.in-Some.packet ∷ []) front
    ∙ ap (λ (more : List PacketFields). take (c.len-2.result - c.packets_among.result) c.self.inside.packets.items ++ more)
    (ap option_to_list (sym c.in-Some.is ∙ c.parted-kept.ensures.packet)) in
    kept-put _ _ c.self.invariant c.args.count _ left c.args.event.now _ _ _ c.parted-kept.ensures.kept events packets

pub invariant_of-self-in_default : goal.invariant_of-self-in_default
invariant_of-self-in_default g c =
    let left = left-over _ _ c.self.invariant c.args.count _ (c.deref.ensures.value ∙ c.reserve.ensures.items) _ _ c.packets_among.ensures.packets
    (omega (arith, c.len-2.ensures, c.reserve-2.new.self.ok.0, ap length c.reserve-2.ensures.items)) in
    let events = (rw c.unwrap.ensures at c.push.ensures.items)
    ∙ ap (λ (ks : List KeptEvent). ks ++ c.parted-kept.result.0 ∷ []) (c.truncate.ensures.items
    ∙ ap (take c.args.count) c.reserve.ensures.items) in
    let front = c.truncate-2.ensures.items ∙ ap (take (c.len-2.result - c.packets_among.result)) c.reserve-2.ensures.items in
    let packets = front ∙ sym (append-nil _)
    ∙ ap (λ (more : List PacketFields). take (c.len-2.result - c.packets_among.result) c.self.inside.packets.items ++ more)
    (ap option_to_list (sym c.in_default.is ∙ c.parted-kept.ensures.packet)) in
    kept-put _ _ c.self.invariant c.args.count _ left c.args.event.now _ _ _ c.parted-kept.ensures.kept events packets

pub returns-in-Some-clause-events : goal.returns-in-Some-clause-events
returns-in-Some-clause-events g c =
    let left = left-over _ _ c.self.invariant c.args.count _ (c.deref.ensures.value ∙ c.reserve.ensures.items) _ _ c.packets_among.ensures.packets
    (omega (arith, c.len-2.ensures, c.reserve-2.new.self.ok.0, ap length c.reserve-2.ensures.items)) in
    let events = (rw c.unwrap.ensures at c.push.ensures.items)
    ∙ ap (λ (ks : List KeptEvent). ks ++ c.parted-kept.result.0 ∷ []) (c.truncate.ensures.items
    ∙ ap (take c.args.count) c.reserve.ensures.items) in
    let front = c.truncate-2.ensures.items ∙ ap (take (c.len-2.result - c.packets_among.result)) c.reserve-2.ensures.items in
    let packets = (rw c.unwrap-in-Some.ensures at c.push-in-Some.ensures.items)
    ∙ ap (λ (ps : List PacketFields). ps ++ c.in-Some.packet ∷ []) front
    ∙ ap (λ (more : List PacketFields). take (c.len-2.result - c.packets_among.result) c.self.inside.packets.items ++ more)
    (ap option_to_list (sym c.in-Some.is ∙ c.parted-kept.ensures.packet)) in
    events-put _ _ c.self.invariant c.args.count _ left c.args.event.now _ _ _ c.parted-kept.ensures.kept events packets
    ∙ ap (λ (es : List Event). take c.args.count es ++ c.args.event.now ∷ []) c.self.view_is

pub returns-in_default-clause-events : goal.returns-in_default-clause-events
returns-in_default-clause-events g c =
    let left = left-over _ _ c.self.invariant c.args.count _ (c.deref.ensures.value ∙ c.reserve.ensures.items) _ _ c.packets_among.ensures.packets
    (omega (arith, c.len-2.ensures, c.reserve-2.new.self.ok.0, ap length c.reserve-2.ensures.items)) in
    let events = (rw c.unwrap.ensures at c.push.ensures.items)
    ∙ ap (λ (ks : List KeptEvent). ks ++ c.parted-kept.result.0 ∷ []) (c.truncate.ensures.items
    ∙ ap (take c.args.count) c.reserve.ensures.items) in
    let front = c.truncate-2.ensures.items ∙ ap (take (c.len-2.result - c.packets_among.result)) c.reserve-2.ensures.items in
    let packets = front ∙ sym (append-nil _)
    ∙ ap (λ (more : List PacketFields). take (c.len-2.result - c.packets_among.result) c.self.inside.packets.items ++ more)
    (ap option_to_list (sym c.in_default.is ∙ c.parted-kept.ensures.packet)) in
    events-put _ _ c.self.invariant c.args.count _ left c.args.event.now _ _ _ c.parted-kept.ensures.kept events packets
    ∙ ap (λ (es : List Event). take c.args.count es ++ c.args.event.now ∷ []) c.self.view_is
