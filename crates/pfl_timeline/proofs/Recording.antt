-- An event whose edits go onto the tape of a history, and is taken back to the mark below them.
use Rattle.std.specs.Prelude.{◌≡◌, ℕ, ◌+◌, ◌<◌, ◌≤◌, List, [], ◌∷◌, ◌++◌, length, get_or, take, Ok, refl}
use Rattle.std.proofs.Common.{sym, ◌∙◌, subst, arith}
use Rattle.pfl_edits.specs.Changes.{back, Fits}
use Rattle.pfl_edits.specs.Tapes.{above, below}
use Rattle.pfl_language.specs.declared.event.Event.{Event}
use Rattle.pfl_language.specs.declared.outcome.Outcome.{Outcome}
use Rattle.pfl_search.specs.world.declared.edit.WorldEdit.{WorldEdit}
use Rattle.pfl_search.specs.world.Events.{step}
use Rattle.pfl_search.specs.world.WorldEdits.{Finds, put_back}
use Rattle.pfl_search.specs.world.Worlds.{World, IsWorld}
use Rattle.pfl_search.proofs.ForCallers.world.{split, no_shorter}
use Rattle.pfl_timeline.specs.Kept.{IsKept, history}
use Rattle.pfl_timeline.proofs.Runs.{of_parts, kept_as, history_as, kept-more, history-more, kept-again, history-again}

-- `after` is the tape after the event: below the mark it is what it was, and what is above leads from the new world to the old
module _ {M : Type 0} (w new : World) (events : List Event) (tape after : List (WorldEdit M)) (marks : List ℕ) (e : Event) (out : Outcome)
    (k : IsKept w events tape marks) (stepped : step w e ≡ Ok (record { world = new; outcome = out })) (taped : below (length tape) after ≡ tape)
    (fits : Fits Finds IsWorld put_back (above (length tape) after) new) (back_is : back put_back (above (length tape) after) new ≡ w)
    (fs : List Event) (ns : List ℕ) (items : ns ≡ marks ++ length tape ∷ []) where
  -- after those that stand
  module _ (all : fs ≡ take (length marks) events ++ e ∷ []) where
    pub kept-extended : IsKept new fs after ns
    kept-extended = kept_as new new _ fs _ after _ ns refl all (split tape after taped) items
        (kept-more w new events tape (above (length tape) after) marks e out k stepped fits back_is)

    pub history-extended : history new fs after ns ≡ of_parts (back put_back tape w) (take (length marks) events ++ e ∷ []) (length marks + 1)
    history-extended =
        history_as new new _ fs _ after _ ns refl all (split tape after taped) items
        ∙ history-more w new events tape (above (length tape) after) marks e out k stepped fits back_is

  -- as the first of those that had been undone
  module _ (all : fs ≡ events) (within : length marks < length events) (next : e ≡ get_or events (length marks) e) where
    pub kept-redone : IsKept new fs after ns
    kept-redone = kept_as new new _ fs _ after _ ns refl all (split tape after taped) items
        (kept-again w new events tape (above (length tape) after) marks e out k stepped fits back_is within next)

    pub history-redone : history new fs after ns ≡ of_parts (back put_back tape w) events (length marks + 1)
    history-redone =
        history_as new new _ fs _ after _ ns refl all (split tape after taped) items
        ∙ history-again w new events tape (above (length tape) after) marks e out k stepped fits back_is within next

-- the mark is the length that the tape had
module _ {M : Type 0} (w new : World) (tape after : List (WorldEdit M)) (taped : below (length tape) after ≡ tape)
    (fits : Fits Finds IsWorld put_back (above (length tape) after) new) (back_is : back put_back (above (length tape) after) new ≡ w)
    (mark : ℕ) (is : mark ≡ length tape) where
  pub mark_on : mark ≤ length after
  mark_on = omega (arith, no_shorter tape after taped, is)

  pub fits_on : Fits Finds IsWorld put_back (above mark after) new
  fits_on = subst (λ n. Fits Finds IsWorld put_back (above n after) new) (sym is) fits
