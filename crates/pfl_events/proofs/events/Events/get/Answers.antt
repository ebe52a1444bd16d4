use Rattle.std.proofs.Common.{◌<◌, List, length, slice_get, ◌∙◌, ap, sym, subst, arith}
use Rattle.pfl_language.specs.declared.event.Event.{Event}
use Rattle.pfl_events.specs.inner.KeptEvents.{whole}
use Rattle.pfl_events.proofs.Keeping.{got, got-packet, packet-within}
use Rattle.pfl_events.proofs.events.Events.get.Goals as goal

pub index-packet-requires : goal.index-packet-requires
index-packet-requires g c =
    let within = subst (λ (es : List Event). c.args.index < length es) (sym c.self.view_is) c.requires.within in
    let below = packet-within _ _ c.self.invariant _ _ within c.index.ensures _ _ _ c.in-Packet.is in
    omega (arith, below, c.self.inside.packets.ok.0)

pub returns-in-Packet : goal.returns-in-Packet
returns-in-Packet g c =
    let within = subst (λ (es : List Event). c.args.index < length es) (sym c.self.view_is) c.requires.within in
    let there = got-packet _ _ c.self.invariant _ _ within c.index.ensures _ _ _ c.in-Packet.is c.index-packet.result.now c.index-packet.ensures in
    record { event = ap (λ (es : List Event). slice_get es c.args.index) (sym c.self.view_is) ∙ there }

pub returns-in-Plain : goal.returns-in-Plain
returns-in-Plain g c =
    let within = subst (λ (es : List Event). c.args.index < length es) (sym c.self.view_is) c.requires.within in
    let there = got _ _ c.self.invariant _ _ within c.index.ensures c.event.result (ap (whole c.self.inside.packets.items) c.in-Plain.is
    ∙ sym c.event.ensures.event) in
    record { event = ap (λ (es : List Event). slice_get es c.args.index) (sym c.self.view_is) ∙ there }
