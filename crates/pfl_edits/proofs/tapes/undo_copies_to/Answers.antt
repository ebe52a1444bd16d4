use Rattle.std.proofs.Common.{◌<◌, length, ◌∙◌, ap, sym, arith}
use Rattle.pfl_edits.specs.Changes.{back}
use Rattle.pfl_edits.specs.Tapes.{above}
use Rattle.pfl_edits.proofs.Taped.{length_newest, above_newest, below_older, above_older}
use Rattle.pfl_edits.proofs.Undone.{newest_found, newest_allowed, older_fit, older_lead}
use Rattle.pfl_edits.proofs.tapes.undo_copies_to.Goals as goal

pub undo-requires-clause-found : goal.undo-requires-clause-found
undo-requires-clause-found g c =
    let r = g.T.Reversible in
    let under : c.args.mark < length c.loop-front.front = omega arith in
    newest_found r.finds r.allows r.put_back _ _ _ c.loop-front.value
    (above_newest _ _ _ c.in_ok-pop_copied.ensures.edit c.args.mark under) c.loop-front.invariant.fits

pub undo-requires-clause-allowed : goal.undo-requires-clause-allowed
undo-requires-clause-allowed g c =
    let r = g.T.Reversible in
    let under : c.args.mark < length c.loop-front.front = omega arith in
    newest_allowed r.finds r.allows r.put_back _ _ _ c.loop-front.value
    (above_newest _ _ _ c.in_ok-pop_copied.ensures.edit c.args.mark under) c.loop-front.invariant.fits

pub loop-front-preserved : goal.loop-front-preserved
loop-front-preserved g c =
    let r = g.T.Reversible in
    let tape = c.args.tape.now.list in
    let under : c.args.mark < length c.loop-front.front = omega arith in
    let is = c.in_ok-pop_copied.ensures.edit in
    let edit = c.in_ok-pop_copied.field-0 in
    let more = above_newest _ _ _ is c.args.mark under in
    rw c.undo.ensures.undone (record {
      oldest = below_older tape _ _ _ is c.loop-front.invariant.oldest;
      few = omega (arith, length_newest _ _ _ is);
      within = omega (arith, length_newest _ _ _ is);
      so_far = ap (r.put_back edit) c.loop-front.invariant.so_far
          ∙ sym (ap (λ es. back r.put_back es c.args.value.now) (above_older tape _ _ _ is c.loop-front.invariant.oldest));
      fits = older_fit r.finds r.allows r.put_back _ _ _ c.loop-front.value more c.loop-front.invariant.fits;
      rest = older_lead r.finds r.allows r.put_back _ _ _ c.loop-front.value more
          (back r.put_back (above c.args.mark tape) c.args.value.now) c.loop-front.invariant.rest;
    })
