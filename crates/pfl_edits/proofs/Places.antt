-- The places that an edit may name: a value itself, a part of a whole, a position of a list and a key of a map.
-- Each leads both ways.
use Rattle.std.specs.Prelude.{◌≡◌, refl, ◌≤◌, ℕ, zero, suc, List, [], ◌∷◌, length, Some, slice_get, slice_set, Option, None, true, Bool, false, ◌≢◌}
use Rattle.std.specs.Prelude.{◌⊎◌, IfSome}
use Rattle.std.specs.Cmp.{IsTotalOrder, eq_by_cmp_equiv}
use Rattle.std.specs.FinMap.{IsAntisymmetric}
use Rattle.std.specs.List.{insert, remove}
use Rattle.std.specs.Ordering.{is_eq, eq_by_cmp}
use Rattle.std.specs.declared.cmp.Ordering.{Ordering}
use Rattle.std.specs.declared.cmp.Ordering.TheVariants.{Less, Equal, Greater}
use Rattle.std.proofs.Common.{sym, ◌∙◌, ap, subst, arith, T, cond, inl, inr}
use Rattle.pfl_edits.specs.Changes.{LeadsBothWays}
use Rattle.pfl_edits.specs.Places.{StandsAt, with_position}
use Rattle.pfl_edits.specs.Maps.{Map, set_at}
use Rattle.pfl_edits.specs.Maps as maps
use Rattle.pfl_edits.proofs.Maps.{get-insert, get-remove, same_map}

-- a plain value, as a clock or a counter, is its own place
pub value-both_ways : {X : Type 0} (former new : X) → LeadsBothWays (λ x. x ≡ former) (λ x. x ≡ new) (λ x. former) (λ x. new)
value-both_ways former new = record {
  put_back_finds = λ x is. refl;
  redone_finds = λ x is. refl;
  redone_put_back = λ x is. sym is;
  put_back_redone = λ x is. sym is;
}

-- A place in a part of a whole, as one table of a node: `part w` is the part, and `with_part w s` the whole with the part s.
module _ {W S : Type 0} (part : W → S) (with_part : W → S → W)
    (set_part : (w : W) (s : S) → part (with_part w s) ≡ s)
    (same_part : (w : W) → with_part w (part w) ≡ w)
    (later_part : (w : W) (s t : S) → with_part (with_part w s) t ≡ with_part w t)
    (finds_former finds : S → Type 0) (put_back redone : S → S) where
  there_and_back : (f g : S → S) (w : W) → g (f (part w)) ≡ part w → with_part (with_part w (f (part w))) (g (part (with_part w (f (part w))))) ≡ w
  there_and_back f g w is =
      later_part w (f (part w)) _ ∙ (ap (λ (s : S). with_part w (g s)) (set_part w (f (part w))) ∙ (ap (with_part w) is ∙ same_part w))

  pub part-both_ways : LeadsBothWays finds_former finds put_back redone
      → LeadsBothWays (λ w. finds_former (part w)) (λ w. finds (part w)) (λ w. with_part w (put_back (part w))) (λ w. with_part w (redone (part w)))
  part-both_ways l = record {
    put_back_finds = λ w is. subst finds_former (sym (set_part w _)) (l.put_back_finds (part w) is);
    redone_finds = λ w is. subst finds (sym (set_part w _)) (l.redone_finds (part w) is);
    redone_put_back = λ w is. there_and_back put_back redone w (l.redone_put_back (part w) is);
    put_back_redone = λ w is. there_and_back redone put_back w (l.put_back_redone (part w) is);
  }

module _ {X : Type 0} where
  get-insert_here : (xs : List X) (i : ℕ) (x : X) → i ≤ length xs → slice_get (insert xs i x) i ≡ Some x
  get-insert_here xs zero x h = refl
  get-insert_here [] (suc i) x h = absurd (omega arith)
  get-insert_here (y ∷ xs) (suc i) x h = get-insert_here xs i x (omega arith)

  remove-insert : (xs : List X) (i : ℕ) (x : X) → i ≤ length xs → remove (insert xs i x) i ≡ xs
  remove-insert xs zero x h = refl
  remove-insert [] (suc i) x h = absurd (omega arith)
  remove-insert (y ∷ xs) (suc i) x h = ap (λ (ys : List X). y ∷ ys) (remove-insert xs i x (omega arith))

  insert-remove : (xs : List X) (i : ℕ) (x : X) → slice_get xs i ≡ Some x → insert (remove xs i) i x ≡ xs
  insert-remove [] i x h = absurd (cc)
  insert-remove (y ∷ xs) zero x h = let same : x ≡ y = cc in ap (λ (z : X). z ∷ xs) same
  insert-remove (y ∷ xs) (suc i) x h = ap (λ (ys : List X). y ∷ ys) (insert-remove xs i x h)

  within-remove : (xs : List X) (i : ℕ) (x : X) → slice_get xs i ≡ Some x → i ≤ length (remove xs i)
  within-remove [] i x h = absurd (cc)
  within-remove (y ∷ xs) zero x h = omega arith
  within-remove (y ∷ xs) (suc i) x h = omega (arith, within-remove xs i x h)

  get-set_here : (xs : List X) (i : ℕ) (x y : X) → slice_get xs i ≡ Some x → slice_get (slice_set xs i y) i ≡ Some y
  get-set_here [] i x y h = absurd (cc)
  get-set_here (z ∷ xs) zero x y h = refl
  get-set_here (z ∷ xs) (suc i) x y h = get-set_here xs i x y h

  set-set_here : (xs : List X) (i : ℕ) (x y : X) → slice_get xs i ≡ Some x → slice_set (slice_set xs i y) i x ≡ xs
  set-set_here [] i x y h = absurd (cc)
  set-set_here (z ∷ xs) zero x y h = let same : x ≡ z = cc in ap (λ (w : X). w ∷ xs) same
  set-set_here (z ∷ xs) (suc i) x y h = ap (λ (ys : List X). z ∷ ys) (set-set_here xs i x y h)

  -- what a position was set to stands there
  pub with_position-stands : (xs : List X) (i : ℕ) (was new : Option X) → StandsAt xs i was → StandsAt (with_position xs i was new) i new
  with_position-stands xs i None None h = h
  with_position-stands xs i None (Some new) h = get-insert_here xs i new h
  with_position-stands xs i (Some was) None h = within-remove xs i was h
  with_position-stands xs i (Some was) (Some new) h = get-set_here xs i was new h

  -- and what was there is put back
  pub with_position-back : (xs : List X) (i : ℕ) (was new : Option X) → StandsAt xs i was → with_position (with_position xs i was new) i new was ≡ xs
  with_position-back xs i None None h = refl
  with_position-back xs i None (Some new) h = remove-insert xs i new h
  with_position-back xs i (Some was) None h = insert-remove xs i was h
  with_position-back xs i (Some was) (Some new) h = set-set_here xs i was new h

  -- a position of a list as a place
  pub position-both_ways : (i : ℕ) (former new : Option X)
      → LeadsBothWays (λ xs. StandsAt xs i former) (λ xs. StandsAt xs i new) (λ xs. with_position xs i new former) (λ xs. with_position xs i former new)
  position-both_ways i former new = record {
    put_back_finds = λ xs is. with_position-stands xs i new former is;
    redone_finds = λ xs is. with_position-stands xs i former new is;
    redone_put_back = λ xs is. with_position-back xs i new former is;
    put_back_redone = λ xs is. with_position-back xs i former new is;
  }

-- A key of a map: what stands there is a value, or none.

-- an order's answer that passes the test of equality is `Equal`
pub equal_is : (r : Ordering) → is_eq r ≡ true → r ≡ Equal
equal_is Less e = absurd (subst T (sym e) tt)
equal_is Equal e = refl
equal_is Greater e = absurd (subst T (sym e) tt)

module _ {K X : Type 0} {R : K → K → Ordering} (o : IsTotalOrder R) (exact : IsAntisymmetric R) where
  -- what is found after a key was set
  pub get-set_at : (m : Map R X) (k : K) (at : Option X) (q : K) → maps.get (set_at m k at) q ≡ cond (eq_by_cmp R q k) at (maps.get m q)
  get-set_at m k None q = get-remove o m k q
  get-set_at m k (Some v) q = get-insert o m k v q

  same_answer : (b : Bool) (x y z : Option X) → cond b x (cond b y z) ≡ cond b x z
  same_answer true x y z = refl
  same_answer false x y z = refl

  own_answer : (b : Bool) (x y : Option X) → (b ≡ true → x ≡ y) → cond b x y ≡ y
  own_answer true x y h = h refl
  own_answer false x y h = refl

  -- the later of two settings of a key stands
  pub set_at-set_at : (m : Map R X) (k : K) (was new : Option X) → set_at (set_at m k was) k new ≡ set_at m k new
  set_at-set_at m k was new = same_map o exact _ _ (λ q.
      get-set_at (set_at m k was) k new q ∙ ap (cond (eq_by_cmp R q k) new) (get-set_at m k was q)
      ∙ same_answer (eq_by_cmp R q k) new was (maps.get m q) ∙ sym (get-set_at m k new q))

  -- to set what stands there changes nothing
  pub set_at-same : (m : Map R X) (k : K) (at : Option X) → maps.get m k ≡ at → set_at m k at ≡ m
  set_at-same m k at is = same_map o exact _ _ (λ q.
      get-set_at m k at q ∙ own_answer (eq_by_cmp R q k) at (maps.get m q) (λ e. sym is ∙ ap (maps.get m) (sym (exact q k (equal_is (R q k) e)))))

  -- what was set is put back
  pub set_at-back : (m : Map R X) (k : K) (was new : Option X) → maps.get m k ≡ was → set_at (set_at m k new) k was ≡ m
  set_at-back m k was new is = set_at-set_at m k new was ∙ set_at-same m k was is

  -- what was set is found
  pub get-set_at_same : (m : Map R X) (k : K) (at : Option X) → maps.get (set_at m k at) k ≡ at
  get-set_at_same m k at = get-set_at m k at k ∙ ap (λ b. cond b at (maps.get m k)) ((eq_by_cmp_equiv o).refl k)

  -- what is found after a setting was set, at that key, or was there, at another
  pub get-set_at_cases : (m : Map R X) (k : K) (at : Option X) (q : K) (v : X) → maps.get (set_at m k at) q ≡ Some v
      → ((q ≡ k) × (at ≡ Some v)) ⊎ ((q ≢ k) × (maps.get m q ≡ Some v))
  get-set_at_cases m k at q v is = through (eq_by_cmp R q k) refl (sym (get-set_at m k at q) ∙ is)
    where
      through : (b : Bool) → eq_by_cmp R q k ≡ b → cond b at (maps.get m q) ≡ Some v → ((q ≡ k) × (at ≡ Some v)) ⊎ ((q ≢ k) × (maps.get m q ≡ Some v))
      through true t e = inl (exact q k (equal_is (R q k) t), e)
      through false t e = inr (λ same. subst T (sym ((eq_by_cmp_equiv o).refl k) ∙ (ap (λ p. eq_by_cmp R p k) (sym same) ∙ t)) tt, e)

  -- another key keeps what it had
  pub get-set_at_other : (m : Map R X) (k : K) (at : Option X) (q : K) → q ≢ k → maps.get (set_at m k at) q ≡ maps.get m q
  get-set_at_other m k at q other = get-set_at m k at q ∙ through (eq_by_cmp R q k) refl
    where
      through : (b : Bool) → eq_by_cmp R q k ≡ b → cond b at (maps.get m q) ≡ maps.get m q
      through true t = absurd (other (exact q k (equal_is (R q k) t)))
      through false t = refl

  -- where each value of a map stands under its own key, so does the one that is set
  pub set_at-keyed : (key : X → K) (m : Map R X) (k : K) (at : Option X)
      → ((q : K) (x : X) → maps.get (set_at m k at) q ≡ Some x → key x ≡ q) → IfSome at (λ x. key x ≡ k)
  set_at-keyed key m k None filed = tt
  set_at-keyed key m k (Some x) filed = filed k x (get-set_at_same m k (Some x))

  -- a key of a map as a place
  pub key-both_ways : (k : K) (former new : Option X)
      → LeadsBothWays (λ (m : Map R X). maps.get m k ≡ former) (λ (m : Map R X). maps.get m k ≡ new) (λ m. set_at m k former) (λ m. set_at m k new)
  key-both_ways k former new = record {
    put_back_finds = λ m is. get-set_at_same m k former;
    redone_finds = λ m is. get-set_at_same m k new;
    redone_put_back = λ m is. set_at-back m k new former is;
    put_back_redone = λ m is. set_at-back m k former new is;
  }

-- a key is another one, or not
pub key_cases : {K : Type 0} {R : K → K → Ordering} → IsTotalOrder R → IsAntisymmetric R → (q k : K) → (q ≡ k) ⊎ (q ≢ k)
key_cases {R = R} o exact q k = through (eq_by_cmp R q k) refl
  where
    through : (b : Bool) → eq_by_cmp R q k ≡ b → (q ≡ k) ⊎ (q ≢ k)
    through true t = inl (exact q k (equal_is (R q k) t))
    through false t = inr (λ same. subst T (sym ((eq_by_cmp_equiv o).refl k) ∙ (ap (λ p. eq_by_cmp R p k) (sym same) ∙ t)) tt)
