-- What a viewer loads, in one try and in several.
use Rattle.std.proofs.Common.{◌≡◌, ℕ, suc, ◌+◌, ◌≤◌, List, [], ◌∷◌, ◌++◌, length, ◌∙◌, refl, sym, subst, arith}
use Rattle.std.proofs.lemmas.List.{append_assoc, append-nil}
use Rattle.pfl_publish.specs.Seats.{Viewer, LoadsOn, LoadsOnce, MakesTry, AreOvertaken, MakesTries, IsRead, IsOvertaken}

-- The numbers that were loaded since the start, all in tries that were overtaken
pub record LoadsOvertaken (count : ℕ) (start now : List ℕ) : Type 0 where
  pub earlier : List ℕ
  pub loads : now ≡ start ++ earlier
  pub overtaken : AreOvertaken count earlier

-- no try was made yet
pub no_try : (start : List ℕ) → LoadsOvertaken 0 start start
no_try start = record { earlier = []; loads = sym (append-nil start); overtaken = refl }

-- one try more was overtaken
pub one_more : (count count' at now : ℕ) (start middle end : List ℕ) → count' ≡ suc count → LoadsOvertaken count start middle
    → end ≡ middle ++ at ∷ now ∷ [] → at + 3 ≤ now → LoadsOvertaken count' start end
one_more count count' at now start middle end next before loads moved = record {
  earlier = before.earlier ++ at ∷ now ∷ [];
  loads = loads ∙ ((λ z. before.loads z ++ at ∷ now ∷ []) ∙ append_assoc start before.earlier (at ∷ now ∷ []));
  overtaken = subst (λ (k : ℕ). AreOvertaken k (before.earlier ++ at ∷ now ∷ [])) (sym next)
      (before.earlier, at, now, (λ _. before.earlier ++ at ∷ now ∷ []), moved, before.overtaken);
}

module _ {H : Type 0} where
  -- nothing was loaded
  pub loads-none : (v : Viewer H) → LoadsOn v v
  loads-none v = ([], sym (append-nil v.loads))

  -- the number was loaded once
  pub loads-once : (old new : Viewer H) → LoadsOnce old new → LoadsOn old new
  loads-once old new is = (is.0 ∷ [], is.1)

  -- loads that go on from loads that go on
  pub loads-since : (a b c : Viewer H) → LoadsOn a b → LoadsOn b c → LoadsOn a c
  loads-since a b c ab bc = (ab.0 ++ bc.0, bc.1 ∙ ((λ z. ab.1 z ++ bc.0) ∙ append_assoc a.loads ab.0 bc.0))

  -- the loads of the last try after those that were overtaken
  last_try : (start middle end : Viewer H) (count count' at now : ℕ) → count ≡ count' → LoadsOvertaken count start.loads middle.loads
      → MakesTry middle end at now → MakesTries start end count' at now
  last_try start middle end count count' at now same before try = record {
    earlier = before.earlier;
    overtaken = subst (λ (k : ℕ). AreOvertaken k before.earlier) same before.overtaken;
    loads = try.0 ∙ (λ z. before.loads z ++ at ∷ now ∷ []);
    floor = try.1;
  }

  -- what is read in the last try
  pub last_read : (start middle end : Viewer H) (words : List ℕ) (count most : ℕ) → length start.seen ≤ length middle.seen
      → LoadsOvertaken count start.loads middle.loads → count ≤ most
      → (n : ℕ) × (now : ℕ) × IsRead middle end words n × MakesTry middle end n now → (n : ℕ) × (now : ℕ) × (count : ℕ)
      × IsRead start end words n × MakesTries start end count n now × (count ≤ most)
  last_read start middle end words count most older before within is = (
    is.0,
    is.1,
    count,
    record { is = is.2.is; revision = is.2.revision; fresh = omega (arith, is.2.fresh); within = is.2.within; recent = is.2.recent },
    last_try start middle end count count is.0 is.1 refl before is.3,
    within,
  )

  -- the last try is overtaken
  pub last_overtaken : (start middle end : Viewer H) (count count' at now : ℕ) → length start.seen ≤ length middle.seen
      → LoadsOvertaken count start.loads middle.loads → count ≡ count'
      → IsOvertaken middle end at now × MakesTry middle end at now → IsOvertaken start end at now × MakesTries start end count' at now
  last_overtaken start middle end count count' at now older before same is =
      (record { fresh = omega (arith, is.0.fresh); moved = is.0.moved; reached = is.0.reached }, last_try start middle end count count' at now same before is.1)
