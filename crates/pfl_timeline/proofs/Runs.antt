-- What one event more, or fewer events, do to a history that is kept.
use Rattle.std.specs.Prelude.{◌≡◌, ℕ, zero, suc, ◌+◌, ◌<◌, ◌≤◌, List, [], ◌∷◌, ◌++◌, length, get_or, take, Option, Some, is_some, IsTrue, Ok, refl}
use Rattle.std.specs.Option.{option_and_then}
use Rattle.std.proofs.Common.{inl, inr, sym, ◌∙◌, ap, subst, le_refl, arith, length-append, length-take-le, take_all, take-take}
use Rattle.std.proofs.Math.Seq.{drop-length}
use Rattle.std.proofs.lemmas.List.{take-append-le, take-append-drop, take_more}
use Rattle.std.proofs.lemmas.List.Sums.{fold_push}
use Rattle.std.proofs.lemmas.Bool.{cases_lt}
use Rattle.pfl_edits.specs.Changes.{back, Fits}
use Rattle.pfl_edits.specs.Tapes.{above, below}
use Rattle.pfl_edits.proofs.ForCallers.{back-append, Fits-append, Fits-front, Fits-rest}
use Rattle.pfl_language.specs.declared.event.Event.{Event}
use Rattle.pfl_language.specs.declared.outcome.Outcome.{Outcome}
use Rattle.pfl_search.specs.world.declared.edit.WorldEdit.{WorldEdit}
use Rattle.pfl_search.specs.world.Events.{step}
use Rattle.pfl_search.specs.world.Runs.{run, world_after}
use Rattle.pfl_search.specs.world.WorldEdits.{Finds, put_back}
use Rattle.pfl_search.specs.world.Worlds.{World, IsWorld}
use Rattle.pfl_timeline.specs.Histories.{History, reached}
use Rattle.pfl_timeline.specs.Kept.{IsKept, mark_at, history}
use Rattle.pfl_timeline.proofs.Marks.{mark-past, mark-within, mark-cut, rising-cut, above-cut, mark-more, mark-all, rising-more, above-more}

abbrev no_events : List Event
no_events = []

take_none : (k : ℕ) → take k no_events ≡ no_events
take_none zero = refl
take_none (suc k) = refl

-- one event more
pub run-last : (w : World) (es : List Event) (e : Event) → run w (es ++ e ∷ []) ≡ option_and_then (λ v. world_after (step v e)) (run w es)
unfolding run
run-last w es e = fold_push (λ at e. option_and_then (λ v. world_after (step v e)) at) (Some w) es e

-- no event
run-none : (w : World) → run w [] ≡ Some w
unfolding run
run-none w = refl

-- the world that those that stand give is the one that is kept
pub reached-kept : {M : Type 0} (w : World) (events : List Event) (tape : List (WorldEdit M)) (marks : List ℕ) → IsKept w events tape marks
    → reached (history w events tape marks) ≡ Some w
reached-kept {M = M} w events tape marks k =
    k.each (length marks) (le_refl (length marks))
    ∙ ap (λ n. Some (back put_back (above n tape) w)) (mark-past tape marks (length marks) (le_refl (length marks)))
    ∙ ap (λ (es : List (WorldEdit M)). Some (back put_back es w)) (drop-length tape)

-- a history without events
pub kept-new : {M : Type 0} (w : World) → IsWorld w → IsKept {M = M} w [] [] []
kept-new {M = M} w is = record {
  opening = is;
  within = omega arith;
  fits = tt;
  rising = λ j k h. le_refl 0;
  each = λ k h. ap (run w) (take_none k) ∙ run-none w;
  whole = subst (λ o. IsTrue (is_some o)) (sym (run-none w)) refl;
}

-- of equal ones
pub kept_as : {M : Type 0} (w v : World) (es fs : List Event) (tape copied : List (WorldEdit M)) (ms ns : List ℕ) → v ≡ w → fs ≡ es
    → copied ≡ tape → ns ≡ ms → IsKept w es tape ms → IsKept v fs copied ns
kept_as w v es fs tape copied ms ns a b c d k = rw (a, b, c, d) k

pub history_as : {M : Type 0} (w v : World) (es fs : List Event) (tape copied : List (WorldEdit M)) (ms ns : List ℕ) → v ≡ w → fs ≡ es
    → copied ≡ tape → ns ≡ ms → history v fs copied ns ≡ history w es tape ms
history_as {M = M} w v es fs tape copied ms ns a b c d =
    ap (λ (x : World). history x fs copied ns) a
    ∙ ap (λ (xs : List Event). history w xs copied ns) b
    ∙ ap (λ (xs : List (WorldEdit M)). history w es xs ns) c
    ∙ ap (history w es tape) d

abbrev pub of_parts : World → List Event → ℕ → History
of_parts o es n = record { opening = o; events = es; cursor = n }

-- The tape is taken back to where the first p events stood.
module _ {M : Type 0} (w : World) (events : List Event) (tape : List (WorldEdit M)) (marks : List ℕ) (k : IsKept w events tape marks)
    (p : ℕ) (few : p ≤ length marks) where
  abbrev mark : ℕ
  mark = mark_at tape marks p

  abbrev earlier : World
  earlier = back put_back (above mark tape) w

  both : below mark tape ++ above mark tape ≡ tape
  both = take-append-drop mark tape

  fits_both : Fits Finds IsWorld put_back (below mark tape ++ above mark tape) w
  fits_both = subst (λ (es : List (WorldEdit M)). Fits Finds IsWorld put_back es w) (sym both) k.fits

  pub fits-above : Fits Finds IsWorld put_back (above mark tape) w
  fits-above = Fits-rest Finds IsWorld put_back (below mark tape) (above mark tape) w fits_both

  pub mark-there : mark ≤ length tape
  mark-there = mark-within tape marks k.rising p

  same_opening : back put_back tape w ≡ back put_back (below mark tape) earlier
  same_opening =
      ap (λ (es : List (WorldEdit M)). back put_back es w) (sym both)
      ∙ back-append Finds IsWorld put_back (below mark tape) (above mark tape) w

  -- it leads where it led
  leads : (n : ℕ) → n ≤ mark → back put_back (above n tape) w ≡ back put_back (above n (below mark tape)) earlier
  leads n h =
      ap (λ (es : List (WorldEdit M)). back put_back es w) (above-cut tape marks k.rising p few n h)
      ∙ back-append Finds IsWorld put_back (above n (below mark tape)) (above mark tape) w

  as_many : length (take p marks) ≡ p
  as_many = length-take-le p marks few

  pub kept-cut : IsKept (back put_back (above (mark_at tape marks p) tape) w) events (below (mark_at tape marks p) tape) (take p marks)
  kept-cut = record {
    opening = subst IsWorld same_opening k.opening;
    within = omega (arith, k.within, as_many, few);
    fits = Fits-front Finds IsWorld put_back (below mark tape) (above mark tape) w fits_both;
    rising = rising-cut tape marks k.rising p few;
    each = λ i h.
        let early : i ≤ p = omega (arith, h, as_many) in
        ap (λ (o : World). run o (take i events)) (sym same_opening)
        ∙ k.each i (omega (arith, early, few))
        ∙ ap Some (leads (mark_at tape marks i) (k.rising i p early))
        ∙ ap (λ n. Some (back put_back (above n (below mark tape)) earlier)) (sym (mark-cut tape marks k.rising p few i early));
    whole = subst (λ (o : World). IsTrue (is_some (run o events))) same_opening k.whole;
  }

  -- the history then
  pub history-cut : history (back put_back (above (mark_at tape marks p) tape) w) events (below (mark_at tape marks p) tape) (take p marks)
      ≡ of_parts (back put_back tape w) events p
  history-cut =
      ap (λ (o : World). of_parts o events (length (take p marks))) (sym same_opening)
      ∙ ap (of_parts (back put_back tape w) events) as_many

  -- so too with the mark that was read, and what it was taken back to
  module _ (m : ℕ) (read : m ≡ mark_at tape marks p) (v : World) (rest : List (WorldEdit M)) (ns : List ℕ)
      (world : v ≡ back put_back (above m tape) w) (list : rest ≡ below m tape) (items : ns ≡ take p marks) where
    world_as : v ≡ back put_back (above (mark_at tape marks p) tape) w
    world_as = world ∙ ap (λ n. back put_back (above n tape) w) read

    list_as : rest ≡ below (mark_at tape marks p) tape
    list_as = list ∙ ap (λ n. below n tape) read

    pub kept-back : IsKept v events rest ns
    kept-back = kept_as _ v events events _ rest _ ns world_as refl list_as items kept-cut

    pub history-back : history v events rest ns ≡ of_parts (back put_back tape w) events p
    history-back = history_as _ v events events _ rest _ ns world_as refl list_as items ∙ history-cut

-- An event happened, and stands after those that stood: `more` is what it changed, and `fs` are all events then.
module _ {M : Type 0} (w new : World) (events fs : List Event) (tape more : List (WorldEdit M)) (marks : List ℕ) (e : Event) (out : Outcome)
    (k : IsKept w events tape marks) (stepped : step w e ≡ Ok (record { world = new; outcome = out }))
    (fits : Fits Finds IsWorld put_back more new) (back_is : back put_back more new ≡ w)
    (front : take (length marks + 1) fs ≡ take (length marks) events ++ e ∷ []) (within : length marks + 1 ≤ length fs) where
  abbrev opening : World
  opening = back put_back tape w

  same : back put_back (tape ++ more) new ≡ opening
  same = back-append Finds IsWorld put_back tape more new ∙ ap (back put_back tape) back_is

  at_end : run opening (take (length marks + 1) fs) ≡ Some new
  at_end =
      ap (run opening) front
      ∙ run-last opening (take (length marks) events) e
      ∙ ap (λ (o : Option World). option_and_then (λ v. world_after (step v e)) o) (reached-kept w events tape marks k)
      ∙ ap world_after stepped

  -- the events that stood stand
  early : (i : ℕ) → i ≤ length marks → take i fs ≡ take i events
  early i h =
      sym (take-take i (length marks + 1) fs (omega (arith, h)))
      ∙ ap (take i) front
      ∙ take-append-le i (take (length marks) events) (e ∷ []) (omega (arith, h, length-take-le (length marks) events k.within))
      ∙ take-take i (length marks) events h

  -- the tape leads from the new world where it led from the old one
  led : (i : ℕ) → i ≤ length marks
      → back put_back (above (mark_at (tape ++ more) (marks ++ length tape ∷ []) i) (tape ++ more)) new
      ≡ back put_back (above (mark_at tape marks i) tape) w
  led i h =
      ap (λ n. back put_back (above n (tape ++ more)) new) (mark-more tape marks k.rising more i h)
      ∙ ap (λ (es : List (WorldEdit M)). back put_back es new) (above-more tape more (mark_at tape marks i) (mark-within tape marks k.rising i))
      ∙ back-append Finds IsWorld put_back (above (mark_at tape marks i) tape) more new
      ∙ ap (back put_back (above (mark_at tape marks i) tape)) back_is

  -- nothing is above the end
  none_led : (i : ℕ) → length marks + 1 ≤ i → back put_back (above (mark_at (tape ++ more) (marks ++ length tape ∷ []) i) (tape ++ more)) new ≡ new
  none_led i h =
      ap (λ n. back put_back (above n (tape ++ more)) new) (mark-all tape marks k.rising more i h)
      ∙ ap (λ (es : List (WorldEdit M)). back put_back es new) (drop-length (tape ++ more))

  marks_more : length (marks ++ length tape ∷ []) ≡ length marks + 1
  marks_more = length-append marks (length tape ∷ [])

  pub kept-step : IsTrue (is_some (run (back put_back tape w) fs)) → IsKept new fs (tape ++ more) (marks ++ length tape ∷ [])
  kept-step whole = record {
    opening = subst IsWorld (sym same) k.opening;
    within = omega (arith, within, marks_more);
    fits = Fits-append Finds IsWorld put_back tape more new (subst (Fits Finds IsWorld put_back tape) (sym back_is) k.fits) fits;
    rising = rising-more tape marks k.rising more;
    each = λ i h. elim (cases_lt (length marks) i) [
      | inl last ↦
          let is : i ≡ length marks + 1 = omega (arith, last, h, marks_more) in
          ap (λ (o : World). run o (take i fs)) same
          ∙ ap (λ n. run opening (take n fs)) is
          ∙ at_end
          ∙ ap Some (sym (none_led i (omega (arith, last))))
      | inr less ↦
          ap (λ (o : World). run o (take i fs)) same
          ∙ ap (run opening) (early i less)
          ∙ k.each i less
          ∙ ap Some (sym (led i less))
    ];
    whole = subst (λ (o : World). IsTrue (is_some (run o fs))) (sym same) whole;
  }

  -- the history then
  pub history-step : history new fs (tape ++ more) (marks ++ length tape ∷ []) ≡ of_parts (back put_back tape w) fs (length marks + 1)
  history-step =
      ap (λ (o : World). of_parts o fs (length (marks ++ length tape ∷ []))) same
      ∙ ap (of_parts opening fs) marks_more

-- The event stands in place of those that had been undone.
module _ {M : Type 0} (w new : World) (events : List Event) (tape more : List (WorldEdit M)) (marks : List ℕ) (e : Event) (out : Outcome)
    (k : IsKept w events tape marks) (stepped : step w e ≡ Ok (record { world = new; outcome = out }))
    (fits : Fits Finds IsWorld put_back more new) (back_is : back put_back more new ≡ w) where
  abbrev longer : List Event
  longer = take (length marks) events ++ e ∷ []

  one_more : length longer ≡ length marks + 1
  one_more = omega (arith, length-append (take (length marks) events) (e ∷ []), length-take-le (length marks) events k.within)

  all_of_it : take (length marks + 1) longer ≡ longer
  all_of_it = take_all (length marks + 1) longer (omega (arith, one_more))

  runs : IsTrue (is_some (run (back put_back tape w) longer))
  runs =
      subst (λ (fs : List Event). IsTrue (is_some (run (back put_back tape w) fs))) all_of_it
      (subst (λ (o : Option World). IsTrue (is_some o))
      (sym (at_end w new events longer tape more marks e out k stepped fits back_is all_of_it (omega (arith, one_more)))) refl)

  pub kept-more : IsKept new (take (length marks) events ++ e ∷ []) (tape ++ more) (marks ++ length tape ∷ [])
  kept-more = kept-step w new events longer tape more marks e out k stepped fits back_is all_of_it (omega (arith, one_more)) runs

  pub history-more : history new (take (length marks) events ++ e ∷ []) (tape ++ more) (marks ++ length tape ∷ [])
      ≡ of_parts (back put_back tape w) (take (length marks) events ++ e ∷ []) (length marks + 1)
  history-more = history-step w new events longer tape more marks e out k stepped fits back_is all_of_it (omega (arith, one_more))

-- The event is the first of those that had been undone, all of which stay.
module _ {M : Type 0} (w new : World) (events : List Event) (tape more : List (WorldEdit M)) (marks : List ℕ) (e : Event) (out : Outcome)
    (k : IsKept w events tape marks) (stepped : step w e ≡ Ok (record { world = new; outcome = out }))
    (fits : Fits Finds IsWorld put_back more new) (back_is : back put_back more new ≡ w)
    (within : length marks < length events) (next : e ≡ get_or events (length marks) e) where
  next_of_all : take (length marks + 1) events ≡ take (length marks) events ++ e ∷ []
  next_of_all = take_more events (length marks) e within ∙ ap (λ (x : Event). take (length marks) events ++ x ∷ []) (sym next)

  pub kept-again : IsKept new events (tape ++ more) (marks ++ length tape ∷ [])
  kept-again = kept-step w new events events tape more marks e out k stepped fits back_is next_of_all (omega (arith, within)) k.whole

  pub history-again : history new events (tape ++ more) (marks ++ length tape ∷ []) ≡ of_parts (back put_back tape w) events (length marks + 1)
  history-again = history-step w new events events tape more marks e out k stepped fits back_is next_of_all (omega (arith, within))

pub parts_as : (o o' : World) (es es' : List Event) (n n' : ℕ) → o ≡ o' → es ≡ es' → n ≡ n' → of_parts o es n ≡ of_parts o' es' n'
parts_as o o' es es' n n' a b c = ap (λ (x : World). of_parts x es n) a ∙ ap (λ (x : List Event). of_parts o' x n) b ∙ ap (of_parts o' es') c
