-- Why the delivery of a frame in flight has its outcome, by what was read of its bytes.
use Rattle.std.specs.Prelude.{◌≡◌, ℕ, Option, Some, Result}
use Rattle.std.specs.Option.{option_map_or}
use Rattle.std.proofs.Common.{◌∙◌, ap}
use Rattle.pfl_edits.specs.Maps as maps
use Rattle.pfl_language.specs.declared.event.FrameEvent.TheVariants as frame
use Rattle.pfl_link.specs.Links.{InFlight}
use Rattle.pfl_wire.specs.declared.fault.BadFrame.{BadFrame}
use Rattle.pfl_wire.specs.Frames.{Frame}
use Rattle.pfl_wire.specs.Reading.{reading}
use Rattle.pfl_world.specs.Worlds.{World, node_at}
use Rattle.pfl_reasons.specs.Explaining.{Plain, explained_frame, explained_of_frame}

pub of_read : (w : World) (ticket : ℕ) (f : InFlight) (r : Result Frame BadFrame) → maps.get w.link.frames ticket ≡ Some f → reading f.bytes ≡ r
    → explained_of_frame w ticket frame.Deliver ≡ explained_frame (node_at w f.to) r
of_read w ticket f r at is =
    ap (λ (o : Option InFlight). option_map_or (λ (f : InFlight). explained_frame (node_at w f.to) (reading f.bytes)) o Plain) at
    ∙ ap (explained_frame (node_at w f.to)) is
