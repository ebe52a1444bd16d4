use Rattle.std.specs.Prelude.{◌-◌, ◌≤◌, ◌++◌, ℕ, List, length, refl}
use Rattle.std.proofs.Common.{◌∙◌, ap, subst, sym, le_refl}
use Rattle.pfl_edits.specs.Changes.{back, Fits}
use Rattle.pfl_edits.specs.Redoing.{set_aside}
use Rattle.pfl_edits.specs.Tapes.{above, below}
use Rattle.pfl_search.specs.world.WorldEdits.{Finds, put_back, undone}
use Rattle.pfl_search.specs.world.Worlds.{IsWorld}
use Rattle.pfl_timeline.specs.Kept.{mark_at}
use Rattle.pfl_timeline.proofs.Copying.{mark-kept, fits-copied}
use Rattle.pfl_timeline.proofs.Looking.{all-undone, room-again, led-again, seen-there, as-many}
use Rattle.pfl_timeline.proofs.Runs.{kept_as, history_as}
use Rattle.pfl_timeline.proofs.history.History.look_back.Goals as goal

pub overflow_sub-count : goal.overflow_sub-count
overflow_sub-count g c =
    let h = c.self.inside in
    let read = c.mark_of-mark.ensures.mark ∙ ap (λ (ns : List ℕ). mark_at h.tape.list ns c.args.place) c.deref.ensures.value in
    subst (λ n. c.mark_of-mark.result ≤ n) (sym c.len.ensures.length)
    (mark-kept h.world h.events h.tape.list h.marks.items c.self.invariant c.args.self.now c.self.view_is c.args.place c.requires.within
    c.mark_of-mark.result read)

pub set_aside_to-requires-clause-within : goal.set_aside_to-requires-clause-within
set_aside_to-requires-clause-within g c =
    let h = c.self.inside in
    let read = c.mark_of-mark.ensures.mark ∙ ap (λ (ns : List ℕ). mark_at h.tape.list ns c.args.place) c.deref.ensures.value in
    subst (λ es. c.mark_of-mark.result ≤ length es) (sym c.reserve.ensures.list)
    (mark-kept h.world h.events h.tape.list h.marks.items c.self.invariant c.args.self.now c.self.view_is c.args.place c.requires.within
    c.mark_of-mark.result read)

pub set_aside_to-requires-clause-fits : goal.set_aside_to-requires-clause-fits
set_aside_to-requires-clause-fits g c =
    let h = c.self.inside in
    let read = c.mark_of-mark.ensures.mark ∙ ap (λ (ns : List ℕ). mark_at h.tape.list ns c.args.place) c.deref.ensures.value in
    subst (λ es. Fits Finds IsWorld put_back (above c.mark_of-mark.result es) h.world) (sym c.reserve.ensures.list)
    (fits-copied h.world h.events h.tape.list h.marks.items c.self.invariant c.args.self.now c.self.view_is c.args.place c.requires.within
    c.mark_of-mark.result read h.world refl)

pub set_aside_to-requires-clause-room : goal.set_aside_to-requires-clause-room
set_aside_to-requires-clause-room g c =
    let h = c.self.inside in
    let m = c.mark_of-mark.result in
    let read = c.mark_of-mark.ensures.mark ∙ ap (λ (ns : List ℕ). mark_at h.tape.list ns c.args.place) c.deref.ensures.value in
    let counted = ap (λ n. n - m) c.len.ensures.length in
    let many = as-many h.world h.events h.tape.list h.marks.items c.self.invariant c.args.self.now c.self.view_is c.args.place
    c.requires.within m read (c.len.result - m) counted in
    subst (λ es. length (above m es) ≤ c.in_ok-undone.undone.spare) (sym c.reserve.ensures.list)
    (subst (λ n. n ≤ c.in_ok-undone.undone.spare) (sym many) (subst (λ n. c.len.result - m ≤ n) (sym c.in_ok-undone.ensures.spare) (le_refl _)))

pub redo_all-requires-clause-room : goal.redo_all-requires-clause-room
redo_all-requires-clause-room g c =
    let h = c.self.inside in
    let m = c.mark_of-mark.result in
    let read = c.mark_of-mark.ensures.mark ∙ ap (λ (ns : List ℕ). mark_at h.tape.list ns c.args.place) c.deref.ensures.value in
    let counted = ap (λ n. n - m) c.len.ensures.length in
    let kept = c.set_aside_to.ensures.kept
    ∙ ap (λ us. us ++ set_aside undone (above m c.reserve.new.self.list)) c.in_ok-undone.ensures.list
    ∙ ap (λ es. set_aside undone (above m es)) c.reserve.ensures.list in
    room-again h.world h.events h.tape.list h.marks.items c.self.invariant c.args.self.now c.self.view_is c.args.place c.requires.within m
    read (c.len.result - m) c.set_aside_to.new.tape.spare counted
    (subst (λ n. c.len.result - m ≤ n) (sym c.set_aside_to.ensures.tape_room) c.in_ok-reserve.ensures.room) c.set_aside_to.new.undone.list kept

pub redo_all-requires-clause-undone : goal.redo_all-requires-clause-undone
redo_all-requires-clause-undone g c =
    let h = c.self.inside in
    let m = c.mark_of-mark.result in
    let read = c.mark_of-mark.ensures.mark ∙ ap (λ (ns : List ℕ). mark_at h.tape.list ns c.args.place) c.deref.ensures.value in
    let kept = c.set_aside_to.ensures.kept
    ∙ ap (λ us. us ++ set_aside undone (above m c.reserve.new.self.list)) c.in_ok-undone.ensures.list
    ∙ ap (λ es. set_aside undone (above m es)) c.reserve.ensures.list in
    all-undone h.world h.events h.tape.list h.marks.items c.self.invariant c.args.self.now c.self.view_is c.args.place c.requires.within m
    read c.known.ensures.world _ _
    (c.look-seen.ensures.still ∙ c.set_aside_to.ensures.value ∙ ap (λ es. back put_back (above m es) h.world) c.reserve.ensures.list) kept

pub invariant_of-self-2 : goal.invariant_of-self-2
invariant_of-self-2 g c =
    let h = c.self.inside in
    let m = c.mark_of-mark.result in
    let read = c.mark_of-mark.ensures.mark ∙ ap (λ (ns : List ℕ). mark_at h.tape.list ns c.args.place) c.deref.ensures.value in
    let kept = c.set_aside_to.ensures.kept
    ∙ ap (λ us. us ++ set_aside undone (above m c.reserve.new.self.list)) c.in_ok-undone.ensures.list
    ∙ ap (λ es. set_aside undone (above m es)) c.reserve.ensures.list in
    let led = led-again h.world h.events h.tape.list h.marks.items c.self.invariant c.args.self.now c.self.view_is c.args.place
    c.requires.within m read c.known.ensures.world _ _
    (c.look-seen.ensures.still ∙ c.set_aside_to.ensures.value
    ∙ ap (λ es. back put_back (above m es) h.world) c.reserve.ensures.list) kept _ (c.set_aside_to.ensures.list
    ∙ ap (below m) c.reserve.ensures.list) _ _ c.redo_all.ensures.value c.redo_all.ensures.list in
    kept_as h.world _ h.events h.events h.tape.list _ h.marks.items h.marks.items led.0 refl led.1 refl c.self.invariant

pub returns-clause-unchanged : goal.returns-clause-unchanged
returns-clause-unchanged g c =
    let h = c.self.inside in
    let m = c.mark_of-mark.result in
    let read = c.mark_of-mark.ensures.mark ∙ ap (λ (ns : List ℕ). mark_at h.tape.list ns c.args.place) c.deref.ensures.value in
    let kept = c.set_aside_to.ensures.kept
    ∙ ap (λ us. us ++ set_aside undone (above m c.reserve.new.self.list)) c.in_ok-undone.ensures.list
    ∙ ap (λ es. set_aside undone (above m es)) c.reserve.ensures.list in
    let led = led-again h.world h.events h.tape.list h.marks.items c.self.invariant c.args.self.now c.self.view_is c.args.place
    c.requires.within m read c.known.ensures.world _ _
    (c.look-seen.ensures.still ∙ c.set_aside_to.ensures.value
    ∙ ap (λ es. back put_back (above m es) h.world) c.reserve.ensures.list) kept _ (c.set_aside_to.ensures.list
    ∙ ap (below m) c.reserve.ensures.list) _ _ c.redo_all.ensures.value c.redo_all.ensures.list in
    history_as h.world _ h.events h.events h.tape.list _ h.marks.items h.marks.items led.0 refl led.1 refl ∙ c.self.view_is

pub returns-clause-seen : goal.returns-clause-seen
returns-clause-seen g c =
    let h = c.self.inside in
    let m = c.mark_of-mark.result in
    let read = c.mark_of-mark.ensures.mark ∙ ap (λ (ns : List ℕ). mark_at h.tape.list ns c.args.place) c.deref.ensures.value in
    seen-there h.world h.events h.tape.list h.marks.items c.self.invariant c.args.self.now c.self.view_is c.args.place c.requires.within m read _ _ _ _ _ _ _
    c.len-2.ensures.length (c.set_aside_to.ensures.value ∙ ap (λ es. back put_back (above m es) h.world) c.reserve.ensures.list) c.look-seen.ensures.sees
