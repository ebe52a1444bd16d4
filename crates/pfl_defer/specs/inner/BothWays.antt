-- An edit of the held packets knows both values of its place.
use Rattle.std.specs.Prelude.{refl}
use Rattle.pfl_edits.specs.Changes.{LeadsBothWays}
use Rattle.pfl_edits.specs.Places.{StandsAt, with_position}
use Rattle.pfl_edits.proofs.ForCallers.{position-both_ways, part-both_ways}
use Rattle.pfl_defer.specs.declared.edits.DeferEdit.{DeferEdit}
use Rattle.pfl_defer.specs.Deferring.{Deferrals}
use Rattle.pfl_defer.specs.Edits.{place_of, former, present, Finds, FindsFormer, put_back, redone}

-- each edit leads both ways
pub edit-both_ways : (e : DeferEdit) → LeadsBothWays (FindsFormer e) (Finds e) (put_back e) (redone e)
edit-both_ways e =
    part-both_ways (λ (d : Deferrals). d.list) (λ d hs. record d { list = hs }) (λ d hs. refl) (λ d. refl) (λ d hs ks. refl)
    (λ hs. StandsAt hs (place_of e) (former e)) (λ hs. StandsAt hs (place_of e) (present e))
    (λ hs. with_position hs (place_of e) (present e) (former e)) (λ hs. with_position hs (place_of e) (former e) (present e))
    (position-both_ways (place_of e) (former e) (present e))
