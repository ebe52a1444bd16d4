-- Edits that are taken back for a while, and redone from what is kept of them.
use Rattle.std.proofs.Common.{◌≡◌, List, [], ◌∷◌, ◌++◌, length, refl, ap, sym, subst, ◌∙◌, arith, append_assoc}
use Rattle.std.proofs.lemmas.List.{same_from_push, length_push}
use Rattle.pfl_edits.specs.Changes.{back, Fits, LeadsBothWays}
use Rattle.pfl_edits.specs.Redoing.{set_aside, IsUndone, AreUndone}

-- what is kept of the newest edit comes first
pub set_aside-newest : {E U : Type 0} (undone : E → U) (xs ys : List E) (e : E) → xs ≡ ys ++ e ∷ [] → set_aside undone xs ≡ undone e ∷ set_aside undone ys
set_aside-newest {E = E} {U = U} undone xs ys e is = ap (set_aside undone) is ∙ newest ys
  where
    newest : (zs : List E) → set_aside undone (zs ++ e ∷ []) ≡ undone e ∷ set_aside undone zs
    newest [] = refl
    newest (z ∷ zs) = ap (λ (us : List U). us ++ undone z ∷ []) (newest zs)

module _ {S E U : Type 0} (finds_former finds : E → S → Type 0) (allows : S → Type 0) (put_back redone : E → S → S) (undone : E → U)
    (both : (e : E) → LeadsBothWays (finds_former e) (finds e) (put_back e) (redone e)) where
  -- each value on the way back is allowed
  back-allowed : (es : List E) (s : S) → Fits finds allows put_back es s → allows s → allows (back put_back es s)
  back-allowed [] s f allowed = allowed
  back-allowed (e ∷ es) s f allowed = f.2

  -- what was kept of the oldest edit, by which the value goes one step forward
  pub record Oldest (kept : List U) (s : S) (of : AreUndone finds allows put_back undone kept s) (rest : List U) (u : U) : Type 0 where
    pub one : IsUndone finds_former allows redone undone u s
    pub later : AreUndone finds allows put_back undone rest (redone one.edit s)
    pub edits : of.edits ≡ one.edit ∷ later.edits
    pub led_to : later.led_to ≡ of.led_to

  pub oldest : (kept : List U) (s : S) (of : AreUndone finds allows put_back undone kept s) (rest : List U) (u : U) → kept ≡ rest ++ u ∷ []
      → Oldest kept s of rest u
  oldest kept s of rest u is = oldest-of of.edits refl
    where
      oldest-of : (es : List E) → of.edits ≡ es → Oldest kept s of rest u
      oldest-of [] none =
          let empty : [] ≡ rest ++ u ∷ [] = sym (ap (set_aside undone) none) ∙ of.kept_of ∙ is in
          absurd (omega (arith, ap length empty, length_push rest u))
      oldest-of (e ∷ es) some =
          let same = same_from_push (set_aside undone es) rest (undone e) u (sym (ap (set_aside undone) some) ∙ of.kept_of ∙ is) in
          let f : Fits finds allows put_back (e ∷ es) of.led_to = subst (λ (xs : List E). Fits finds allows put_back xs of.led_to) some of.fits in
          let after = back put_back es of.led_to in
          let here : put_back e after ≡ s = sym (ap (λ xs. back put_back xs of.led_to) some) ∙ of.back in
          let ways = both e in
          let forward : redone e s ≡ after = ap (redone e) (sym here) ∙ ways.redone_put_back after f.1 in
          record {
            one = record {
              edit = e;
              kept_of = same.1;
              finds = subst (finds_former e) here (ways.put_back_finds after f.1);
              allowed = subst allows (sym forward) (back-allowed es of.led_to f.0 of.allowed);
            };
            later = record { edits = es; led_to = of.led_to; kept_of = same.0; fits = f.0; back = sym forward; allowed = of.allowed };
            edits = some;
            led_to = refl;
          }

  -- nothing is kept, so the value is the one that they led to
  pub none_left : (kept : List U) (s : S) (of : AreUndone finds allows put_back undone kept s) → kept ≡ [] → (of.edits ≡ []) × (s ≡ of.led_to)
  none_left kept s of none =
      let empty : (es : List E) → set_aside undone es ≡ [] → es ≡ [] = λ es same. no_edits es same in
      let edits = empty of.edits (of.kept_of ∙ none) in
      (edits, sym of.back ∙ ap (λ xs. back put_back xs of.led_to) edits)
    where
      no_edits : (es : List E) → set_aside undone es ≡ [] → es ≡ []
      no_edits [] same = refl
      no_edits (e ∷ es) same = absurd (omega (arith, ap length same, length_push (set_aside undone es) (undone e)))

  -- one step forward: what is kept of the others leads on to the same value, and the tape has the edit
  pub one_redone : (kept : List U) (s : S) (of : AreUndone finds allows put_back undone kept s) (rest : List U) (u : U)
      → kept ≡ rest ++ u ∷ [] → (next : S) (e : E)
      → ((one : IsUndone finds_former allows redone undone u s) → next ≡ redone one.edit s)
      → ((one : IsUndone finds_former allows redone undone u s) → e ≡ one.edit) → (tape longer : List E) → longer ≡ tape ++ e ∷ []
      → (left : AreUndone finds allows put_back undone rest next) × (left.led_to ≡ of.led_to) × (longer ++ left.edits ≡ tape ++ of.edits)
  one_redone kept s of rest u is next e value edit tape longer more =
      let o = oldest kept s of rest u is in
      let here = value o.one in
      let l = o.later in (
        record { edits = l.edits; led_to = l.led_to; kept_of = l.kept_of; fits = l.fits; back = l.back ∙ sym here; allowed = l.allowed },
        o.led_to,
        ap (λ xs. xs ++ l.edits) (more ∙ ap (λ x. tape ++ x ∷ []) (edit o.one))
            ∙ (append_assoc tape (o.one.edit ∷ []) l.edits ∙ ap (λ xs. tape ++ xs) (sym o.edits)),
      )
