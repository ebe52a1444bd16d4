use Rattle.std.specs.Prelude.{[], ◌∷◌}
use Rattle.std.proofs.Common.{◌<◌, ◌∙◌, ◌++◌, List, length, sym, ap, subst, refl, arith, length-append}
use Rattle.pfl_world.specs.declared.edit.WorldEdit.{WorldEdit}
use Rattle.pfl_world.specs.declared.edit.WorldEdit.TheVariants.{OfLink}
use Rattle.pfl_world.specs.inner.WorldEdits.{of_node}
use Rattle.pfl_world.specs.Worlds.{IsWorld, joined}
use Rattle.pfl_world.proofs.Leads.{where_ok}
use Rattle.pfl_world.proofs.Recording.{recorded_node, recorded_link, recorded-as, recorded-then, count_node}
use Rattle.pfl_world.proofs.world.World.send.Goals as goal

pub record_in-requires : goal.record_in-requires
record_in-requires g c =
    let room : c.len.result < g.R.Recorder.spare c.reserve_one_more.new.to =
    where_ok c.reserve_one_more.result (sym c.is_err.ensures.value ∙ c.if-is_err.false) c.reserve_one_more.ensures.room in
    record { room = omega (arith, room, c.len.ensures.length) }

pub push-requires : goal.push-requires
push-requires g c =
    let room : c.len.result < g.R.Recorder.spare c.reserve_one_more.new.to =
    where_ok c.reserve_one_more.result (sym c.is_err.ensures.value ∙ c.if-is_err.false) c.reserve_one_more.ensures.room in
    record { room = omega (arith, room, c.len.ensures.length, c.record_in.ensures.spare) }

pub returns-clause-recorded : goal.returns-clause-recorded
returns-clause-recorded g c =
    let w = joined c.self.inside.nodes c.self.inside.link c.self.inside.next_boot in
    let before = g.R.Recorder.list c.args.to.now in
    let mid = g.R.Recorder.list c.record_in.new.to in
    let after = g.R.Recorder.list c.push.new.self in
    let list = c.record_in.ensures.list ∙ ap (λ (es : List (WorldEdit _)). es ++ of_node c.args.node c.args.change.list) c.reserve_one_more.ensures.list in
    recorded-then
    (recorded_node before mid c.args.self.now c.known.ensures.world c.args.node c.args.change.list c.requires.fits list)
    (recorded-as (recorded_link mid after w
    (subst IsWorld (sym c.self.view_is) c.known.ensures.world) c.in-Ok.edit c.send.new.self c.in-Ok.ensures.leads_back
    c.push.ensures.list) c.self.view_is refl)

pub returns-clause-few : goal.returns-clause-few
returns-clause-few g c =
    omega (
      arith,
      count_node c.args.node c.args.change.list _ _ c.record_in.ensures.list,
      ap length c.reserve_one_more.ensures.list,
      ap length c.push.ensures.list ∙ length-append (g.R.Recorder.list c.record_in.new.to) (OfLink c.in-Ok.edit ∷ []),
    )
