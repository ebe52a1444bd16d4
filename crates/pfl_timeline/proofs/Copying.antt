-- The first events of a history, with the tape below the mark of those that are to stand, and the world taken back to it.
use Rattle.std.specs.Prelude.{◌≡◌, ℕ, ◌≤◌, List, length, take, drop, is_some, IsTrue, refl}
use Rattle.std.proofs.Common.{sym, ◌∙◌, ap, subst, arith, length-take-le, take-take}
use Rattle.std.proofs.lemmas.List.{take-append-drop}
use Rattle.pfl_edits.specs.Changes.{back, Fits}
use Rattle.pfl_edits.specs.Tapes.{above, below}
use Rattle.pfl_language.specs.declared.event.Event.{Event}
use Rattle.pfl_search.specs.world.declared.edit.WorldEdit.{WorldEdit}
use Rattle.pfl_search.specs.world.Runs.{run}
use Rattle.pfl_search.specs.world.WorldEdits.{Finds, put_back}
use Rattle.pfl_search.specs.world.Worlds.{World, IsWorld}
use Rattle.pfl_timeline.specs.Histories.{History}
use Rattle.pfl_timeline.specs.inner.Histories.{standing_at, first_of}
use Rattle.pfl_timeline.specs.Kept.{IsKept, mark_at, history}
use Rattle.pfl_timeline.proofs.Prefixes.{run-front}
use Rattle.pfl_timeline.proofs.Runs.{kept_as, history_as, of_parts, fits-above, mark-there, kept-back, history-back}

-- the first n events alone, those that stand among them
kept-fewer : {M : Type 0} (w : World) (events : List Event) (tape : List (WorldEdit M)) (marks : List ℕ) (n : ℕ) → length marks ≤ n
    → n ≤ length events → IsKept w events tape marks → IsKept w (take n events) tape marks
kept-fewer w events tape marks n enough within k = record {
  opening = k.opening;
  within = omega (arith, length-take-le n events within, enough);
  fits = k.fits;
  rising = k.rising;
  each = λ i h. ap (run (back put_back tape w)) (take-take i n events (omega (arith, h, enough))) ∙ k.each i h;
  whole = run-front (back put_back tape w) (take n events) (drop n events)
      (subst (λ (es : List Event). IsTrue (is_some (run (back put_back tape w) es))) (sym (take-append-drop n events)) k.whole);
}

-- p events are to stand, and m is the mark that was read for them
module _ {M : Type 0} (w : World) (events : List Event) (tape : List (WorldEdit M)) (marks : List ℕ) (k : IsKept w events tape marks)
    (h : History) (view : history w events tape marks ≡ h)
    (p : ℕ) (few : p ≤ h.cursor) (m : ℕ) (read : m ≡ mark_at tape marks p) where
  in_marks : p ≤ length marks
  in_marks = omega (arith, few, ap (λ (r : History). r.cursor) view)

  pub mark-kept : m ≤ length tape
  mark-kept = subst (λ i. i ≤ length tape) (sym read) (mark-there w events tape marks k p in_marks)

  -- what is above it fits a copy of the world
  pub fits-copied : (copied : World) → copied ≡ w → Fits Finds IsWorld put_back (above m tape) copied
  fits-copied copied same =
      subst (λ (v : World). Fits Finds IsWorld put_back (above m tape) v) (sym same)
      (subst (λ i. Fits Finds IsWorld put_back (above i tape) w) (sym read) (fits-above w events tape marks k p in_marks))

  -- n of the events are copied
  module _ (n : ℕ) (within : n ≤ length h.events) (enough : p ≤ n) (copied v : World) (same : copied ≡ w) (world : v ≡ back put_back (above m tape) copied)
      (rest : List (WorldEdit M)) (list : rest ≡ below m tape) (ns : List ℕ) (items : ns ≡ take p marks) (fs : List Event) (some : fs ≡ take n events) where
    in_events : n ≤ length events
    in_events = omega (arith, within, ap (λ (r : History). length r.events) view)

    as_many : length ns ≤ n
    as_many = omega (arith, enough, ap (λ (is : List ℕ). length is) items, length-take-le p marks in_marks)

    world_is : v ≡ back put_back (above m tape) w
    world_is = world ∙ ap (back put_back (above m tape)) same

    pub kept-copied : IsKept v fs rest ns
    kept-copied =
        kept_as v v (take n events) fs rest rest ns ns refl some refl refl
        (kept-fewer v events rest ns n as_many in_events (kept-back w events tape marks k p in_marks m read v rest ns world_is list items))

    pub history-copied : history v fs rest ns ≡ standing_at (first_of h n) p
    history-copied =
        history_as v v (take n events) fs rest rest ns ns refl some refl refl
        ∙ ap (λ (r : History). of_parts r.opening (take n events) r.cursor) (history-back w events tape marks k p in_marks m read v rest ns world_is list items)
        ∙ ap (λ (r : History). standing_at (first_of r n) p) view
