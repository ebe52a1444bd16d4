use Rattle.std.proofs.Common.{◌∙◌}
use Rattle.pfl_edits.specs.Changes.{back}
use Rattle.pfl_edits.proofs.Undone.{newest_found, newest_allowed, older_fit, older_lead}
use Rattle.pfl_edits.proofs.reversible.take_back.Goals as goal

pub undo-requires-clause-found : goal.undo-requires-clause-found
undo-requires-clause-found g c =
    let r = g.T.Reversible in
    newest_found r.finds r.allows r.put_back _ _ _ c.loop-edit.value c.in-Some.ensures.edit c.loop-edit.invariant.fits

pub undo-requires-clause-allowed : goal.undo-requires-clause-allowed
undo-requires-clause-allowed g c =
    let r = g.T.Reversible in
    newest_allowed r.finds r.allows r.put_back _ _ _ c.loop-edit.value c.in-Some.ensures.edit c.loop-edit.invariant.fits

pub loop-edit-preserved : goal.loop-edit-preserved
loop-edit-preserved g c =
    let r = g.T.Reversible in
    rw c.undo.ensures.undone (record {
      room = c.pop.ensures.room ∙ c.loop-edit.invariant.room;
      fits = older_fit r.finds r.allows r.put_back _ _ _ c.loop-edit.value c.in-Some.ensures.edit c.loop-edit.invariant.fits;
      rest = older_lead r.finds r.allows r.put_back _ _ _ c.loop-edit.value c.in-Some.ensures.edit
          (back r.put_back c.args.change.now.list c.args.value.now) c.loop-edit.invariant.rest;
    })
