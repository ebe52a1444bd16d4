use Rattle.std.specs.Prelude.{◌≡◌, ℕ, List, length, take}
use Rattle.std.proofs.Common.{◌∙◌, ap, arith, sym}
use Rattle.std.proofs.lemmas.List.{length-take-le}
use Rattle.pfl_timeline.specs.Histories.{History}
use Rattle.pfl_timeline.specs.Kept.{mark_at}
use Rattle.pfl_timeline.proofs.Copying.{mark-kept, fits-copied, kept-copied, history-copied}
use Rattle.pfl_timeline.proofs.history.History.copy_front.Goals as goal

pub slice_bounds-from_slice-end : goal.slice_bounds-from_slice-end
slice_bounds-from_slice-end g c =
    let cursor : length c.self.inside.marks.items ≡ c.args.self.now.cursor = ap (λ (r : History). r.cursor) c.self.view_is in
    sym (length-take-le c.args.standing c.deref-2.result.now (omega (arith, c.requires.few, cursor, ap length c.deref-2.ensures.value)))

pub copy_below-requires : goal.copy_below-requires
copy_below-requires g c =
    let h = c.self.inside in
    let read = c.mark_of-mark.ensures.mark ∙ ap (λ (ns : List ℕ). mark_at h.tape.list ns c.args.standing) c.deref.ensures.value in
    record {
      within = mark-kept h.world h.events h.tape.list h.marks.items c.self.invariant c.args.self.now c.self.view_is c.args.standing
          c.requires.few c.mark_of-mark.result read;
    }

pub undo_copies_to-requires-clause-within : goal.undo_copies_to-requires-clause-within
undo_copies_to-requires-clause-within g c =
    let h = c.self.inside in
    let read = c.mark_of-mark.ensures.mark ∙ ap (λ (ns : List ℕ). mark_at h.tape.list ns c.args.standing) c.deref.ensures.value in
    mark-kept h.world h.events h.tape.list h.marks.items c.self.invariant c.args.self.now c.self.view_is c.args.standing c.requires.few
    c.mark_of-mark.result read

pub undo_copies_to-requires-clause-fits : goal.undo_copies_to-requires-clause-fits
undo_copies_to-requires-clause-fits g c =
    let h = c.self.inside in
    let read = c.mark_of-mark.ensures.mark ∙ ap (λ (ns : List ℕ). mark_at h.tape.list ns c.args.standing) c.deref.ensures.value in
    fits-copied h.world h.events h.tape.list h.marks.items c.self.invariant c.args.self.now c.self.view_is c.args.standing c.requires.few
    c.mark_of-mark.result read c.in_ok-world.world c.in_ok-world.ensures.same

pub invariant_of-result : goal.invariant_of-result
invariant_of-result g c =
    let h = c.self.inside in
    let read = c.mark_of-mark.ensures.mark ∙ ap (λ (ns : List ℕ). mark_at h.tape.list ns c.args.standing) c.deref.ensures.value in
    let events = c.in_ok-events.ensures.events in
    let marks = c.in_ok-marks.ensures.items ∙ ap (take c.args.standing) c.deref-2.ensures.value in
    kept-copied h.world h.events h.tape.list h.marks.items c.self.invariant c.args.self.now c.self.view_is c.args.standing c.requires.few
    c.mark_of-mark.result read c.args.count c.requires.within c.requires.enough c.in_ok-world.world c.undo_copies_to.new.value
    c.in_ok-world.ensures.same c.in_ok-undo_copies_to.ensures.value
    c.in_ok-tape.tape.list c.in_ok-tape.ensures.edits c.in_ok-marks.marks.items marks c.in_ok-events.events events

pub returns : goal.returns
returns g c =
    let h = c.self.inside in
    let read = c.mark_of-mark.ensures.mark ∙ ap (λ (ns : List ℕ). mark_at h.tape.list ns c.args.standing) c.deref.ensures.value in
    let events = c.in_ok-events.ensures.events in
    let marks = c.in_ok-marks.ensures.items ∙ ap (take c.args.standing) c.deref-2.ensures.value in
    record {
      history = history-copied h.world h.events h.tape.list h.marks.items c.self.invariant c.args.self.now c.self.view_is c.args.standing
          c.requires.few c.mark_of-mark.result read c.args.count c.requires.within c.requires.enough c.in_ok-world.world
          c.undo_copies_to.new.value c.in_ok-world.ensures.same c.in_ok-undo_copies_to.ensures.value
          c.in_ok-tape.tape.list c.in_ok-tape.ensures.edits c.in_ok-marks.marks.items marks c.in_ok-events.events events;
    }
