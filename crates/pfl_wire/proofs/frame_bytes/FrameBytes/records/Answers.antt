use Rattle.std.proofs.Common.{refl, ap, ◌∙◌}
use Rattle.pfl_wire.specs.declared.action.Action.TheVariants as action
use Rattle.pfl_wire.specs.declared.subheader.Subheader.{Subheader}
use Rattle.pfl_wire.specs.Frames.{Frame, records_of}
use Rattle.pfl_wire.specs.inner.Left.{listed}
use Rattle.pfl_wire.proofs.Left.{left_all, is_ok}
use Rattle.pfl_wire.proofs.frame_bytes.FrameBytes.records.Goals as goal

abbrev none_begun : Subheader
none_begun = record { action = action.Clear; count = 0 }

pub invariant_of-result : goal.invariant_of-result
invariant_of-result c = is_ok _ _ (left_all none_begun c.self.inside.groups.now refl c.self.invariant)

pub returns : goal.returns
returns c = ap listed (left_all none_begun c.self.inside.groups.now refl c.self.invariant) ∙ ap (λ (f : Frame). records_of f) c.self.view_is
