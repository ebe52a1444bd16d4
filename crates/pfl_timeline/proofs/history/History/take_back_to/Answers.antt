use Rattle.std.specs.Prelude.{◌<◌, ◌≤◌, length}
use Rattle.std.proofs.Common.{◌∙◌, ap, arith, subst, sym}
use Rattle.pfl_edits.specs.Changes.{Fits}
use Rattle.pfl_edits.specs.Tapes.{above}
use Rattle.pfl_search.specs.world.WorldEdits.{Finds, put_back}
use Rattle.pfl_search.specs.world.Worlds.{IsWorld}
use Rattle.pfl_timeline.specs.Histories.{History}
use Rattle.pfl_timeline.specs.inner.Histories.{standing_at}
use Rattle.pfl_timeline.proofs.Marks.{mark-read}
use Rattle.pfl_timeline.proofs.Runs.{fits-above, mark-there, kept-back, history-back}
use Rattle.pfl_timeline.proofs.history.History.take_back_to.Goals as goal

pub undo_to-requires : goal.undo_to-requires
undo_to-requires g c =
    let under : c.args.place < length c.self.inside.marks.items = omega arith in
    let is = mark-read c.self.inside.tape.list c.self.inside.marks.items c.args.place _ _ under c.index.ensures in
    record {
      within = subst (λ n. n ≤ length c.self.inside.tape.list) (sym is) (mark-there _ _ _ _ c.self.invariant c.args.place (omega (arith, under)));
      fits = subst (λ n. Fits Finds IsWorld put_back (above n c.self.inside.tape.list) c.self.inside.world) (sym is)
          (fits-above _ _ _ _ c.self.invariant c.args.place (omega (arith, under)));
    }

pub invariant_of-self : goal.invariant_of-self
invariant_of-self g c =
    let under : c.args.place < length c.self.inside.marks.items = omega arith in
    let is = mark-read c.self.inside.tape.list c.self.inside.marks.items c.args.place _ _ under c.index.ensures in
    kept-back _ _ _ _ c.self.invariant c.args.place (omega (arith, under)) _ is _ _ _ c.undo_to.ensures.value c.undo_to.ensures.list c.truncate.ensures.items

pub returns-then-place-len : goal.returns-then-place-len
returns-then-place-len g c =
    let under : c.args.place < length c.self.inside.marks.items = omega arith in
    let is = mark-read c.self.inside.tape.list c.self.inside.marks.items c.args.place _ _ under c.index.ensures in
    record {
      history = history-back _ _ _ _ c.self.invariant c.args.place
          (omega (arith, under)) _ is _ _ _ c.undo_to.ensures.value c.undo_to.ensures.list c.truncate.ensures.items
          ∙ ap (λ (r : History). standing_at r c.args.place) c.self.view_is;
    }
