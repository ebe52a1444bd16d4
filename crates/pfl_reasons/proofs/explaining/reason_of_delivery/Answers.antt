use Rattle.std.proofs.Common.{Err, refl, ◌∙◌, ap, sym}
use Rattle.pfl_edits.specs.Maps as maps
use Rattle.pfl_link.specs.Links.{Link}
use Rattle.pfl_wire.specs.Reading.{reading}
use Rattle.pfl_reasons.proofs.Arriving.{of_read}
use Rattle.pfl_reasons.proofs.explaining.reason_of_delivery.Goals as goal

pub returns : goal.returns
returns g c =
    let at = sym (c.in-Some.ensures.frame ∙ ap (λ (l : Link). maps.get l.frames c.args.ticket) c.link.ensures.link) in
    let copied = c.as_slice-2.ensures.value ∙ (c.in_ok-bytes.ensures.items ∙ (c.as_slice.ensures.bytes ∙ c.bytes.ensures.bytes)) in
    let bad = ap reading (sym copied) ∙ (sym c.read.ensures.exact ∙ c.in-Err.is) in
    record { explained = sym (of_read c.args.world.now c.args.ticket c.in-Some.frame.now (Err c.in-Err.field-0) at bad); still = refl }
