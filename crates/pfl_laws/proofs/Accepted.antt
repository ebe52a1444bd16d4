-- What the events of a run that were accepted say of it, and what one that is refused does.
use Rattle.std.specs.Prelude.{◌≡◌, ◌≤◌, ◌<◌, ◌+◌, ◌++◌, ℕ, List, [], ◌∷◌, length, drop, Option, Some, IsSome, IsSomeAnd, is_some}
use Rattle.std.specs.Prelude.{fold, option_and_then, refl}
use Rattle.std.proofs.Common.{◌∙◌, ap, sym, subst, inr, get_or}
use Rattle.std.proofs.lemmas.List.{drop_all, drop_more}
use Rattle.pfl_base.specs.declared.refusal.Refusal.{Refusal}
use Rattle.pfl_edits.specs.Changes.{Fits, back}
use Rattle.pfl_edits.proofs.ForCallers.{LeadsBack-append}
use Rattle.pfl_language.specs.declared.event.Event.{Event}
use Rattle.pfl_world.specs.declared.edit.WorldEdit.{WorldEdit}
use Rattle.pfl_world.specs.Events.{step}
use Rattle.pfl_world.specs.Runs.{run, world_after}
use Rattle.pfl_world.specs.WorldEdits.{Finds, put_back, WorldLeadsBack}
use Rattle.pfl_world.specs.Worlds.{World, IsWorld}
use Rattle.pfl_laws.specs.Reverting.{IsRefusalAlong}
use Rattle.pfl_laws.specs.inner.Reverting.{LeadsOn}

-- no event is accepted
run-none : (w : World) → IsSome (run w [])
unfolding run
run-none w = refl

-- ---- events, one after the other

-- after the first i events the pair is v, the rest of the run goes on from there, and the edits lead back
pub record Along {M : Type 0} (w : World) (events : List Event) (i : ℕ) (v : World) (edits : List (WorldEdit M)) : Type 0 where
  pub ran : run w events ≡ run v (drop i events)
  pub refused : (r : Refusal) → IsRefusalAlong v (drop i events) r → IsRefusalAlong w events r
  pub back : WorldLeadsBack edits w v

-- after an event that is accepted a run goes on
run-on : (v u : World) (e : Event) (es : List Event) → world_after (step v e) ≡ Some u → run v (e ∷ es) ≡ run u es
unfolding run
run-on v u e es is = ap (λ (at : Option World). fold (λ at e. option_and_then (λ w. world_after (step w e)) at) at es) is

-- an event is the first of those from it on
left-from : (events : List Event) (i : ℕ) (e : Event) → i < length events → e ≡ get_or events i e → drop i events ≡ e ∷ drop (i + 1) events
left-from events i e within is = drop_more events i e within ∙ ap (λ (x : Event). x ∷ drop (i + 1) events) (sym is)

-- one event more
pub along-next : {M : Type 0} (w : World) (events : List Event) (i : ℕ) (v : World) (edits : List (WorldEdit M)) → Along w events i v edits
    → (e : Event) → i < length events → e ≡ get_or events i e → (u : World) (later : List (WorldEdit M)) → world_after (step v e) ≡ Some u
    → LeadsOn edits later v u → Along w events (i + 1) u later
along-next w events i v edits a e within here u later is on =
    let cut = left-from events i e within here in
    record {
      ran = a.ran ∙ (ap (run v) cut ∙ run-on v u e (drop (i + 1) events) is);
      refused = λ r after_it.
          a.refused r (subst (λ (xs : List Event). IsRefusalAlong v xs r) (sym cut)
          (inr (subst (λ (at : Option World). IsSomeAnd at (λ x. IsRefusalAlong x (drop (i + 1) events) r)) (sym is) after_it)));
      back = on w a.back;
    }

-- all were accepted
pub along-all : {M : Type 0} (w : World) (events : List Event) (i : ℕ) (v : World) (edits : List (WorldEdit M)) → Along w events i v edits
    → length events ≤ i → IsSome (run w events)
along-all w events i v edits a all = ap is_some (a.ran ∙ ap (run v) (drop_all i events all)) ∙ run-none v

-- edits that lead back, after others
pub leads-on : {M : Type 0} (former mid later added : List (WorldEdit M)) (w v : World) → later ≡ mid ++ added → mid ≡ former
    → Fits Finds IsWorld put_back added v → back put_back added v ≡ w → LeadsOn former later w v
leads-on {M = M} former mid later added w v lists same fits is origin before =
    subst (λ (es : List (WorldEdit M)). WorldLeadsBack es origin v) (sym (lists ∙ ap (λ (xs : List (WorldEdit M)). xs ++ added) same))
    (LeadsBack-append Finds IsWorld put_back former added origin w v before (record { fits = fits; back = is }))
