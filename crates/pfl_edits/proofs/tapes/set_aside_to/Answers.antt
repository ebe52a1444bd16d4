use Rattle.std.proofs.Common.{◌<◌, ◌∷◌, ◌++◌, [], length, ◌∙◌, ap, sym, arith, append_assoc}
use Rattle.pfl_edits.specs.Changes.{back}
use Rattle.pfl_edits.specs.Redoing.{set_aside}
use Rattle.pfl_edits.specs.Tapes.{above}
use Rattle.pfl_edits.proofs.Taped.{length_newest, above_newest, below_newest}
use Rattle.pfl_edits.proofs.Undone.{newest_found, newest_allowed, older_fit, older_lead}
use Rattle.pfl_edits.proofs.Redoing.{set_aside-newest}
use Rattle.pfl_edits.proofs.tapes.set_aside_to.Goals as goal

pub set_aside-requires-clause-found : goal.set_aside-requires-clause-found
set_aside-requires-clause-found g c =
    let r = g.T.Reversible in
    let under : c.args.mark < length c.loop-tape.tape.list = omega arith in
    newest_found r.finds r.allows r.put_back _ _ _ c.loop-tape.value (above_newest _ _ _ c.in-Some.ensures.edit c.args.mark under) c.loop-tape.invariant.fits

pub set_aside-requires-clause-allowed : goal.set_aside-requires-clause-allowed
set_aside-requires-clause-allowed g c =
    let r = g.T.Reversible in
    let under : c.args.mark < length c.loop-tape.tape.list = omega arith in
    newest_allowed r.finds r.allows r.put_back _ _ _ c.loop-tape.value (above_newest _ _ _ c.in-Some.ensures.edit c.args.mark under) c.loop-tape.invariant.fits

pub loop-tape-preserved-in-Some : goal.loop-tape-preserved-in-Some
loop-tape-preserved-in-Some g c =
    let r = g.T.Reversible in
    let u = g.T.Redoable.undone in
    let under : c.args.mark < length c.loop-tape.tape.list = omega arith in
    let is = c.in-Some.ensures.edit in
    let more = above_newest _ _ _ is c.args.mark under in
    let rest = above c.args.mark c.pop.new.self.list in
    let had = c.loop-tape.undone.list in
    let pushed = c.push.ensures.list ∙ ap (λ x. had ++ x ∷ []) c.set_aside.ensures.kept in
    let aside = ap (λ us. us ++ set_aside u rest) pushed
    ∙ (append_assoc had (u c.in-Some.edit ∷ []) (set_aside u rest)
    ∙ (ap (λ us. had ++ us) (sym (set_aside-newest u _ _ _ more)) ∙ c.loop-tape.invariant.aside)) in
    rw c.set_aside.ensures.value (record {
      within = omega (arith, length_newest _ _ _ is);
      kept = sym (below_newest _ _ _ is c.args.mark under) ∙ c.loop-tape.invariant.kept;
      room = c.in-Some.ensures.room ∙ c.loop-tape.invariant.room;
      fits = older_fit r.finds r.allows r.put_back _ _ _ c.loop-tape.value more c.loop-tape.invariant.fits;
      rest = older_lead r.finds r.allows r.put_back _ _ _ c.loop-tape.value more
          (back r.put_back (above c.args.mark c.args.tape.now.list) c.args.value.now) c.loop-tape.invariant.rest;
      left = omega (arith, length_newest _ _ _ more, c.loop-tape.invariant.left, c.push.ensures.spare);
      enough = omega (arith, length_newest _ _ _ more, c.loop-tape.invariant.enough, c.push.ensures.spare);
      aside = aside;
    })
