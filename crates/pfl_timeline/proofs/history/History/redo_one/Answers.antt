use Rattle.std.specs.Prelude.{◌+◌, ◌<◌, ◌∷◌, [], ◌++◌, length, get_or, refl, ℕ, List}
use Rattle.std.proofs.Common.{◌∙◌, ap, sym, subst}
use Rattle.std.proofs.lemmas.Option.{get_or_from_slice_get}
use Rattle.pfl_timeline.specs.Histories.{History}
use Rattle.pfl_timeline.specs.inner.Histories.{standing_at}
use Rattle.pfl_timeline.proofs.Recording.{kept-redone, history-redone}
use Rattle.pfl_timeline.proofs.history.History.redo_one.Goals as goal

pub invariant_of-self-in-Ok : goal.invariant_of-self-in-Ok
invariant_of-self-in-Ok g c =
    let within = subst (λ (r : History). r.cursor < length r.events) (sym c.self.view_is) c.requires.within in
    let e = c.get-event.result in
    let next = sym (get_or_from_slice_get c.self.inside.events c.cursor.result e e c.get-event.ensures.event)
    ∙ ap (λ n. get_or c.self.inside.events n e) (c.cursor.ensures.cursor ∙ sym (ap (λ (r : History). r.cursor) c.self.view_is)) in
    let items = (rw c.unwrap.ensures at c.push.ensures.items) ∙ ap (λ (ns : List ℕ). ns ++ c.len-mark.result ∷ []) c.reserve.ensures.items
    ∙ ap (λ n. c.self.inside.marks.items ++ n ∷ []) c.len-mark.ensures.length in
    kept-redone _ _ _ _ _ _ e _ c.self.invariant c.in-Ok.ensures.step c.apply_on.ensures.taped c.in-Ok.ensures.fits c.in-Ok.ensures.back _
    _ items refl within next

pub returns-in-Ok-clause-history : goal.returns-in-Ok-clause-history
returns-in-Ok-clause-history g c =
    let within = subst (λ (r : History). r.cursor < length r.events) (sym c.self.view_is) c.requires.within in
    let e = c.get-event.result in
    let next = sym (get_or_from_slice_get c.self.inside.events c.cursor.result e e c.get-event.ensures.event)
    ∙ ap (λ n. get_or c.self.inside.events n e) (c.cursor.ensures.cursor ∙ sym (ap (λ (r : History). r.cursor) c.self.view_is)) in
    let items = (rw c.unwrap.ensures at c.push.ensures.items) ∙ ap (λ (ns : List ℕ). ns ++ c.len-mark.result ∷ []) c.reserve.ensures.items
    ∙ ap (λ n. c.self.inside.marks.items ++ n ∷ []) c.len-mark.ensures.length in
    history-redone _ _ _ _ _ _ e _ c.self.invariant c.in-Ok.ensures.step c.apply_on.ensures.taped c.in-Ok.ensures.fits c.in-Ok.ensures.back
    _ _ items refl within next
    ∙ ap (λ (r : History). standing_at r (r.cursor + 1)) c.self.view_is
