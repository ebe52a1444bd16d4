use Rattle.std.proofs.Common.{arith, ◌≤◌, ◌∙◌, ◌∷◌, [], ◌++◌, List, ap, sym}
use Rattle.pfl_world.specs.declared.edit.WorldEdit.{WorldEdit}
use Rattle.pfl_world.specs.declared.edit.WorldEdit.TheVariants.{OfLink}
use Rattle.pfl_world.proofs.Leads.{where_ok}
use Rattle.pfl_world.proofs.Recording.{recorded_link-after}
use Rattle.pfl_world.proofs.world.World.lift_link.Goals as goal

pub push-requires : goal.push-requires
push-requires g c =
    let room : 1 ≤ g.R.Recorder.spare c.reserve.new.self = where_ok c.reserve.result (sym c.is_err.ensures.value ∙ c.if-is_err.false) c.reserve.ensures.room in
    record { room = omega (arith, room) }

pub returns-clause-recorded : goal.returns-clause-recorded
returns-clause-recorded g c =
    recorded_link-after _ _ c.args.self.now c.known.ensures.world c.args.edit c.requires.fits
    (c.push.ensures.list ∙ ap (λ (es : List (WorldEdit _)). es ++ OfLink c.args.edit ∷ []) c.reserve.ensures.list)
