use Rattle.std.proofs.Common.{◌<◌, length, ◌∙◌, sym, arith}
use Rattle.pfl_edits.specs.Changes.{back}
use Rattle.pfl_edits.specs.Tapes.{above}
use Rattle.pfl_edits.proofs.Taped.{length_newest, above_newest, below_newest}
use Rattle.pfl_edits.proofs.Undone.{newest_found, newest_allowed, older_fit, older_lead}
use Rattle.pfl_edits.proofs.tapes.undo_to.Goals as goal

pub undo-requires-clause-found : goal.undo-requires-clause-found
undo-requires-clause-found g c =
    let r = g.T.Reversible in
    let under : c.args.mark < length c.loop-tape.tape.list = omega arith in
    newest_found r.finds r.allows r.put_back _ _ _ c.loop-tape.value (above_newest _ _ _ c.in-Some.ensures.edit c.args.mark under) c.loop-tape.invariant.fits

pub undo-requires-clause-allowed : goal.undo-requires-clause-allowed
undo-requires-clause-allowed g c =
    let r = g.T.Reversible in
    let under : c.args.mark < length c.loop-tape.tape.list = omega arith in
    newest_allowed r.finds r.allows r.put_back _ _ _ c.loop-tape.value (above_newest _ _ _ c.in-Some.ensures.edit c.args.mark under) c.loop-tape.invariant.fits

pub loop-tape-preserved-in-Some : goal.loop-tape-preserved-in-Some
loop-tape-preserved-in-Some g c =
    let r = g.T.Reversible in
    let under : c.args.mark < length c.loop-tape.tape.list = omega arith in
    let is = c.in-Some.ensures.edit in
    let more = above_newest _ _ _ is c.args.mark under in
    rw c.undo.ensures.undone (record {
      within = omega (arith, length_newest _ _ _ is);
      kept = sym (below_newest _ _ _ is c.args.mark under) ∙ c.loop-tape.invariant.kept;
      room = c.in-Some.ensures.room ∙ c.loop-tape.invariant.room;
      fits = older_fit r.finds r.allows r.put_back _ _ _ c.loop-tape.value more c.loop-tape.invariant.fits;
      rest = older_lead r.finds r.allows r.put_back _ _ _ c.loop-tape.value more
          (back r.put_back (above c.args.mark c.args.tape.now.list) c.args.value.now) c.loop-tape.invariant.rest;
    })
