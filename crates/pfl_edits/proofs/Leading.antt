-- Edits that lead back: none, one, one way after another, and those of a part as those of the whole.
use Rattle.std.specs.Prelude.{◌≡◌, List, [], ◌∷◌, ◌++◌, refl, map}
use Rattle.std.proofs.Common.{ap, sym, subst, ◌∙◌}
use Rattle.pfl_edits.specs.Changes.{back, Fits, LeadsBack}

module _ {S E : Type 0} (finds : E → S → Type 0) (allows : S → Type 0) (put_back : E → S → S) where
  -- the later edits are put back before the earlier ones
  pub back-append : (xs ys : List E) (s : S) → back put_back (xs ++ ys) s ≡ back put_back xs (back put_back ys s)
  back-append [] ys s = refl
  back-append (x ∷ xs) ys s = ap (put_back x) (back-append xs ys s)

  -- edits fit after those that fit where they end
  pub Fits-append : (xs ys : List E) (s : S) → Fits finds allows put_back xs (back put_back ys s) → Fits finds allows put_back ys s
      → Fits finds allows put_back (xs ++ ys) s
  Fits-append [] ys s f g = g
  Fits-append (x ∷ xs) ys s f g =
      let e = sym (back-append xs ys s) in
      (Fits-append xs ys s f.0 g, subst (finds x) e f.1, subst (λ (v : S). allows (put_back x v)) e f.2)

  -- where edits fit, the earlier of them fit the value before the later
  pub Fits-front : (xs ys : List E) (s : S) → Fits finds allows put_back (xs ++ ys) s → Fits finds allows put_back xs (back put_back ys s)
  Fits-front [] ys s f = tt
  Fits-front (x ∷ xs) ys s f =
      let e = back-append xs ys s in
      (Fits-front xs ys s f.0, subst (finds x) e f.1, subst (λ (v : S). allows (put_back x v)) e f.2)

  -- and the later fit by themselves
  pub Fits-rest : (xs ys : List E) (s : S) → Fits finds allows put_back (xs ++ ys) s → Fits finds allows put_back ys s
  Fits-rest [] ys s f = f
  Fits-rest (x ∷ xs) ys s f = Fits-rest xs ys s f.0

  -- no edit leads nowhere
  pub LeadsBack-none : (s : S) → LeadsBack finds allows put_back [] s s
  LeadsBack-none s = record { fits = tt; back = refl }

  -- one way after another
  pub LeadsBack-append : (xs ys : List E) (a b c : S) → LeadsBack finds allows put_back xs a b → LeadsBack finds allows put_back ys b c
      → LeadsBack finds allows put_back (xs ++ ys) a c
  LeadsBack-append xs ys a b c f g = record {
    fits = Fits-append xs ys c (subst (Fits finds allows put_back xs) (sym g.back) f.fits) g.fits;
    back = back-append xs ys c ∙ (ap (back put_back xs) g.back ∙ f.back);
  }

  -- one edit leads back to b, if it finds its new value, and its former value in its place gives b
  pub LeadsBack-one : (e : E) (b c : S) → finds e c → allows b → put_back e c ≡ b → LeadsBack finds allows put_back (e ∷ []) b c
  LeadsBack-one e b c found allowed is = record { fits = (tt, found, subst allows (sym is) allowed); back = is }

-- Edits of a part are edits of the whole: `at s` is the whole with the part s, and `inj e` the edit e as one of the whole.
module _ {S E W F : Type 0}
    (finds : E → S → Type 0) (allows : S → Type 0) (put_back : E → S → S)
    (Finds : F → W → Type 0) (Allows : W → Type 0) (Put_back : F → W → W)
    (inj : E → F) (at : S → W)
    (found : (e : E) (s : S) → finds e s → Finds (inj e) (at s))
    (allowed : (s : S) → allows s → Allows (at s))
    (put : (e : E) (s : S) → Put_back (inj e) (at s) ≡ at (put_back e s)) where
  -- the whole goes back as its part does
  pub back-embedded : (es : List E) (s : S) → back Put_back (map inj es) (at s) ≡ at (back put_back es s)
  back-embedded [] s = refl
  back-embedded (e ∷ es) s = ap (Put_back (inj e)) (back-embedded es s) ∙ put e (back put_back es s)

  -- what fits the part fits the whole
  pub Fits-embedded : (es : List E) (s : S) → Fits finds allows put_back es s → Fits Finds Allows Put_back (map inj es) (at s)
  Fits-embedded [] s f = tt
  Fits-embedded (e ∷ es) s f =
      let b = back-embedded es s in
      let here = sym (ap (Put_back (inj e)) b ∙ put e (back put_back es s)) in
      (Fits-embedded es s f.0, subst (Finds (inj e)) (sym b) (found e _ f.1), subst Allows here (allowed _ f.2))

  -- what leads the part back leads the whole back
  pub LeadsBack-embedded : (es : List E) (a b : S) → LeadsBack finds allows put_back es a b → LeadsBack Finds Allows Put_back (map inj es) (at a) (at b)
  LeadsBack-embedded es a b l = record { fits = Fits-embedded es b l.fits; back = back-embedded es b ∙ ap at l.back }
