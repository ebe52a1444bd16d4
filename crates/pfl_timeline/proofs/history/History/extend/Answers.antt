use Rattle.std.specs.Prelude.{◌∷◌, [], ◌++◌}
use Rattle.std.proofs.Common.{◌∙◌, ap, sym}
use Rattle.pfl_timeline.specs.Histories.{History, reached, continued}
use Rattle.pfl_timeline.proofs.Recording.{kept-extended, history-extended, mark_on, fits_on}
use Rattle.pfl_timeline.proofs.Runs.{reached-kept}
use Rattle.pfl_search.proofs.ForCallers.world.{event_wants}
use Rattle.pfl_timeline.proofs.history.History.extend.Goals as goal

pub returns-in-Err-clause-refused : goal.returns-in-Err-clause-refused
returns-in-Err-clause-refused g c =
    (c.self.inside.world, ap reached (sym c.self.view_is) ∙ reached-kept _ _ _ _ c.self.invariant, c.in-Err.ensures.refused)

pub undo_to-requires : goal.undo_to-requires
undo_to-requires g c = record {
  within = mark_on _ _ _ _ c.apply_on.ensures.taped c.in-Ok.ensures.fits c.in-Ok.ensures.back _ c.len-mark.ensures.length;
  fits = fits_on _ _ _ _ c.apply_on.ensures.taped c.in-Ok.ensures.fits c.in-Ok.ensures.back _ c.len-mark.ensures.length;
}

pub returns-in-Err-put-clause-refused : goal.returns-in-Err-put-clause-refused
returns-in-Err-put-clause-refused g c = (
  c.self.inside.world,
  ap reached (sym c.self.view_is)
      ∙ reached-kept _ _ _ _ c.self.invariant,
  event_wants c.self.inside.world c.args.event.now _ c.in-Ok.ensures.step,
)

pub returns-in-Ok-put-clause-stepped : goal.returns-in-Ok-put-clause-stepped
returns-in-Ok-put-clause-stepped g c =
    (c.self.inside.world, c.apply_on.new.self, ap reached (sym c.self.view_is) ∙ reached-kept _ _ _ _ c.self.invariant, c.in-Ok.ensures.step)

pub invariant_of-self-in-Ok-put : goal.invariant_of-self-in-Ok-put
invariant_of-self-in-Ok-put g c =
    let events = c.in-Ok-put.ensures.events in
    let items = c.in-Ok-put.ensures.marks ∙ ap (λ n. c.self.inside.marks.items ++ n ∷ []) c.len-mark.ensures.length in
    kept-extended _ _ _ _ _ _ c.args.event.now _ c.self.invariant c.in-Ok.ensures.step c.apply_on.ensures.taped c.in-Ok.ensures.fits
    c.in-Ok.ensures.back _ _ items events

pub returns-in-Ok-put-clause-extended : goal.returns-in-Ok-put-clause-extended
returns-in-Ok-put-clause-extended g c =
    let events = c.in-Ok-put.ensures.events in
    let items = c.in-Ok-put.ensures.marks ∙ ap (λ n. c.self.inside.marks.items ++ n ∷ []) c.len-mark.ensures.length in
    history-extended _ _ _ _ _ _ c.args.event.now _ c.self.invariant c.in-Ok.ensures.step c.apply_on.ensures.taped c.in-Ok.ensures.fits
    c.in-Ok.ensures.back _ _ items events
    ∙ ap (λ (v : History). continued v c.args.event.now) c.self.view_is
