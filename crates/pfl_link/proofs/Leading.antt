-- An edit of a link leads back.
use Rattle.std.specs.Prelude.{[], ◌∷◌}
use Rattle.pfl_edits.proofs.ForCallers.{LeadsBack-one}
use Rattle.pfl_link.specs.Links.{Link, IsLink}
use Rattle.pfl_link.specs.LinkEdits.{LinkEdit, Finds, FindsFormer, put_back, redone, LinkLeadsBack}
use Rattle.pfl_link.specs.inner.BothWays.{edit-both_ways}

-- an edit whose former value is in its place leads back from what it makes of the link
pub edit-leads_back : (e : LinkEdit) (l : Link) → IsLink l → FindsFormer e l → LinkLeadsBack (e ∷ []) l (redone e l)
edit-leads_back e l is former =
    LeadsBack-one Finds IsLink put_back e l (redone e l) ((edit-both_ways e).redone_finds l former) is ((edit-both_ways e).put_back_redone l former)
