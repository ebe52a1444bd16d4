-- A look at an earlier world: what is above the mark is taken back for a while, and redone.
use Rattle.std.specs.Prelude.{◌≡◌, ℕ, ◌+◌, ◌-◌, ◌≤◌, List, [], ◌∷◌, ◌++◌, length, take, Some, refl}
use Rattle.std.proofs.Common.{sym, ◌∙◌, ap, subst, arith}
use Rattle.std.proofs.lemmas.List.{take-append-drop, length-drop, length_push}
use Rattle.pfl_edits.specs.Changes.{back}
use Rattle.pfl_edits.specs.Redoing.{set_aside, AreUndone}
use Rattle.pfl_edits.specs.Tapes.{above, below}
use Rattle.pfl_language.specs.declared.event.Event.{Event}
use Rattle.pfl_search.specs.world.declared.edit.WorldEdit.{WorldEdit}
use Rattle.pfl_search.specs.world.declared.undone.WorldUndone.{WorldUndone}
use Rattle.pfl_search.specs.world.Runs.{run}
use Rattle.pfl_search.specs.world.WorldEdits.{Finds, put_back, undone}
use Rattle.pfl_search.specs.world.Worlds.{World, IsWorld}
use Rattle.pfl_timeline.specs.Histories.{History, reached}
use Rattle.pfl_timeline.specs.inner.Histories.{standing_at}
use Rattle.pfl_timeline.specs.inner.Looking.{IsSeen}
use Rattle.pfl_timeline.specs.Kept.{IsKept, mark_at, history}
use Rattle.pfl_timeline.specs.Replies.{Reply, Shown}
use Rattle.pfl_timeline.proofs.Copying.{fits-copied}
use Rattle.pfl_timeline.proofs.Runs.{reached-kept}

-- something is kept of each edit
length-set_aside : {E U : Type 0} (of : E → U) (es : List E) → length (set_aside of es) ≡ length es
length-set_aside of [] = refl
length-set_aside of (e ∷ es) = omega (arith, length_push (set_aside of es) (of e), length-set_aside of es)

-- p of the events that stand are looked back to, and m is the mark that was read for them
module _ {M : Type 0} (w : World) (events : List Event) (tape : List (WorldEdit M)) (marks : List ℕ) (k : IsKept w events tape marks)
    (h : History) (view : history w events tape marks ≡ h)
    (p : ℕ) (few : p ≤ h.cursor) (m : ℕ) (read : m ≡ mark_at tape marks p) where
  in_marks : p ≤ length marks
  in_marks = omega (arith, few, ap (λ (r : History). r.cursor) view)

  -- as much is above the mark as was counted
  pub as-many : (n : ℕ) → n ≡ length tape - m → length (above m tape) ≡ n
  as-many n counted = omega (arith, counted, length-drop m tape)

  -- and there is room for all that is kept, which is as much
  pub room-again : (n spare : ℕ) → n ≡ length tape - m → n ≤ spare → (us : List (WorldUndone M)) → us ≡ set_aside undone (above m tape) → length us ≤ spare
  room-again n spare counted enough us kept =
      omega (arith, enough, as-many n counted, ap (λ (xs : List (WorldUndone M)). length xs) kept, length-set_aside (undone {M = M}) (above m tape))

  -- what is kept is kept of edits that led to the world
  pub all-undone : IsWorld w → (v : World) (us : List (WorldUndone M)) → v ≡ back put_back (above m tape) w
      → us ≡ set_aside undone (above m tape) → AreUndone Finds IsWorld put_back undone us v
  all-undone is v us world kept = record {
    edits = above m tape;
    led_to = w;
    kept_of = sym kept;
    fits = fits-copied w events tape marks k h view p few m read w refl;
    back = sym world;
    allowed = is;
  }

  -- the tape is whole again
  whole-again : (rest all : List (WorldEdit M)) → rest ≡ below m tape → all ≡ rest ++ above m tape → all ≡ tape
  whole-again rest all front is = is ∙ (ap (λ (es : List (WorldEdit M)). es ++ above m tape) front ∙ take-append-drop m tape)

  -- and the world is the one that they led to
  pub led-again : IsWorld w → (v : World) (us : List (WorldUndone M)) → v ≡ back put_back (above m tape) w
      → us ≡ set_aside undone (above m tape) → (rest : List (WorldEdit M)) → rest ≡ below m tape
      → (new : World) (all : List (WorldEdit M)) → ((of : AreUndone Finds IsWorld put_back undone us v) → new ≡ of.led_to)
      → ((of : AreUndone Finds IsWorld put_back undone us v) → all ≡ rest ++ of.edits)
      → (new ≡ w) × (all ≡ tape)
  unfolding all-undone
  led-again is v us world kept rest front new all value list =
      let of = all-undone is v us world kept in
      (value of, whole-again rest all front (list of))

  -- the world that was looked at is that of the first p events
  there : (v : World) → v ≡ back put_back (above m tape) w → run h.opening (take p h.events) ≡ Some v
  there v world =
      ap (λ (r : History). run r.opening (take p r.events)) (sym view)
      ∙ (k.each p in_marks ∙ ap Some (ap (λ n. back put_back (above n tape) w) (sym read) ∙ sym world))

  -- and this was seen of it
  pub seen-there : {W S : Type 0} (sees : Reply → W → W → S → Type 0) (name : List ℕ) (n : ℕ) (v : World) (old new : W) (seen : S)
      → n ≡ length events → v ≡ back put_back (above m tape) w
      → sees (Shown name n p v) old new seen → IsSeen sees name h.opening h.events p old new seen
  seen-there sees name n v old new seen many world saw = record {
    world = v;
    run_to = there v world;
    sees_it = subst (λ i. sees (Shown name i p v) old new seen) (many ∙ ap (λ (r : History). length r.events) view) saw;
  }

-- this was seen of the world that is kept, which those that stand give
pub seen-here : {M W S : Type 0} (w : World) (events : List Event) (tape : List (WorldEdit M)) (marks : List ℕ)
    → IsKept w events tape marks → (h : History) → history w events tape marks ≡ h
    → (sees : Reply → W → W → S → Type 0) (name : List ℕ) (n c : ℕ) (old new : W) (seen : S) → n ≡ length events → c ≡ length marks
    → sees (Shown name n c w) old new seen
    → IsSeen sees name h.opening h.events h.cursor old new seen
seen-here w events tape marks k h view sees name n c old new seen many stand saw = record {
  world = w;
  run_to = ap reached (sym view) ∙ reached-kept w events tape marks k;
  sees_it = subst (λ i. sees (Shown name (length h.events) i w) old new seen) (stand ∙ ap (λ (r : History). r.cursor) view)
      (subst (λ i. sees (Shown name i c w) old new seen) (many ∙ ap (λ (r : History). length r.events) view) saw);
}

-- the events up to p happened again, and this was seen then
pub seen-forward : {W S : Type 0} (sees : Reply → W → W → S → Type 0) (name : List ℕ) (h g : History) (p c : ℕ) → c ≡ h.cursor → c ≤ p
    → g ≡ standing_at h (h.cursor + (p - c))
    → (old new : W) (seen : S) → IsSeen sees name g.opening g.events g.cursor old new seen → IsSeen sees name h.opening h.events p old new seen
seen-forward sees name h g p c is few at old new seen saw =
    let end : h.cursor + (p - c) ≡ p = omega (arith, is, few) in
    subst (λ n. IsSeen sees name h.opening h.events n old new seen) end
    (subst (λ (r : History). IsSeen sees name r.opening r.events r.cursor old new seen) at saw)
