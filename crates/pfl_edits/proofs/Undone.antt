-- What a change that fits says of its newest edit.
use Rattle.std.proofs.Common.{◌≡◌, List, [], ◌∷◌, ◌++◌, ◌∙◌, ap, sym, subst}
use Rattle.pfl_edits.specs.Changes.{back, Fits}
use Rattle.pfl_edits.proofs.Leading.{back-append, Fits-front, Fits-rest}

-- xs are the edits of a change that is taken back from s: ys, and e as the newest
module _ {S E : Type 0} (finds : E → S → Type 0) (allows : S → Type 0) (put_back : E → S → S) (xs ys : List E) (e : E) (s : S) (is : xs ≡ ys ++ e ∷ []) where
  split : Fits finds allows put_back xs s → Fits finds allows put_back (ys ++ e ∷ []) s
  split f = subst (λ (zs : List E). Fits finds allows put_back zs s) is f

  -- the newest edit finds its new value
  pub newest_found : Fits finds allows put_back xs s → finds e s
  newest_found f = (Fits-rest finds allows put_back ys (e ∷ []) s (split f)).1

  -- the value before it is allowed
  pub newest_allowed : Fits finds allows put_back xs s → allows (put_back e s)
  newest_allowed f = (Fits-rest finds allows put_back ys (e ∷ []) s (split f)).2

  -- the older edits fit that value
  pub older_fit : Fits finds allows put_back xs s → Fits finds allows put_back ys (put_back e s)
  older_fit f = Fits-front finds allows put_back ys (e ∷ []) s (split f)

  -- and they lead where all together lead
  pub older_lead : (origin : S) → back put_back xs s ≡ origin → back put_back ys (put_back e s) ≡ origin
  older_lead origin all = sym (ap (λ (zs : List E). back put_back zs s) is ∙ back-append finds allows put_back ys (e ∷ []) s) ∙ all
