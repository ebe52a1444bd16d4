use Rattle.std.proofs.Common.{◌++◌, length, refl, ap, sym, arith, ◌∙◌, append-nil}
use Rattle.std.proofs.lemmas.List.{length_push}
use Rattle.pfl_edits.proofs.Redoing.{oldest, none_left, one_redone}
use Rattle.pfl_edits.proofs.tapes.redo_all.Goals as goal

pub loop-kept-init : goal.loop-kept-init
loop-kept-init g c = record { room = c.requires.room; spare = refl; some = c.requires.undone; same = λ of. (of, refl, refl) }

pub redo-requires : goal.redo-requires
redo-requires g c =
    let r = g.T.Reversible in
    record {
      undone = (oldest r.finds_former r.finds r.allows r.put_back r.redone g.T.Redoable.undone g.met.T.Reversible.both_ways _ _
          c.loop-kept.invariant.some _ _ c.in-Some.ensures.edit).one;
    }

pub loop-kept-preserved : goal.loop-kept-preserved
loop-kept-preserved g c =
    let r = g.T.Reversible in
    let is = c.in-Some.ensures.edit in
    let some = c.loop-kept.invariant.some in
    let first = one_redone r.finds_former r.finds r.allows r.put_back r.redone g.T.Redoable.undone g.met.T.Reversible.both_ways _ _ some _
    _ is _ _ c.redo.ensures.value c.redo.ensures.edit _ _ c.push.ensures.list in
    record {
      room = omega (arith, ap length is, length_push c.pop.new.self.list c.in-Some.kept, c.loop-kept.invariant.room, c.push.ensures.spare);
      spare = omega (arith, ap length is, length_push c.pop.new.self.list c.in-Some.kept, c.loop-kept.invariant.spare, c.push.ensures.spare);
      some = first.0;
      same = λ of.
          let left = c.loop-kept.invariant.same of in
          let next = one_redone r.finds_former r.finds r.allows r.put_back r.redone g.T.Redoable.undone g.met.T.Reversible.both_ways _ _
          left.0 _ _ is _ _ c.redo.ensures.value c.redo.ensures.edit _ _ c.push.ensures.list in
          (next.0, next.1 ∙ left.1, next.2 ∙ left.2);
    }

pub returns-clause-value : goal.returns-clause-value
returns-clause-value g c = λ of.
    let r = g.T.Reversible in
    let left = c.loop-kept.invariant.same of in
    let none = none_left r.finds_former r.finds r.allows r.put_back r.redone g.T.Redoable.undone g.met.T.Reversible.both_ways _ _ left.0
    c.in_default.ensures.edit.0 in
    none.1 ∙ left.1

pub returns-clause-list : goal.returns-clause-list
returns-clause-list g c = λ of.
    let r = g.T.Reversible in
    let left = c.loop-kept.invariant.same of in
    let none = none_left r.finds_former r.finds r.allows r.put_back r.redone g.T.Redoable.undone g.met.T.Reversible.both_ways _ _ left.0
    c.in_default.ensures.edit.0 in
    sym (append-nil c.loop-kept.tape.list) ∙ (ap (λ es. c.loop-kept.tape.list ++ es) (sym none.0) ∙ left.2)
