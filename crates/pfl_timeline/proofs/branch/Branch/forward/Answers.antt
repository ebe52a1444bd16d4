use Rattle.std.specs.Prelude.{◌≡◌, ◌+◌, ◌<◌, ◌≤◌, length, box_value}
use Rattle.std.specs.Option.{option_map}
use Rattle.std.proofs.Common.{◌∙◌, ap, arith, sym}
use Rattle.pfl_timeline.specs.Answers.{undone}
use Rattle.pfl_timeline.specs.Histories.{History}
use Rattle.pfl_timeline.specs.Rooted.{Rooted}
use Rattle.pfl_timeline.specs.inner.Histories.{standing_at}
use Rattle.pfl_timeline.proofs.Giving.{forward-accepts, gave-forward, gave-not_forward, moved-to}
use Rattle.pfl_timeline.proofs.Results.{anyway}
use Rattle.pfl_timeline.proofs.branch.Branch.forward.Goals as goal

pub returns-then-len-cursor-clause-gave : goal.returns-then-len-cursor-clause-gave
returns-then-len-cursor-clause-gave g c =
    let far : undone c.args.self.now.branch < c.args.n =
    omega (arith, c.if-len-cursor.true, c.len.ensures.length, ap length c.events.ensures.events, c.cursor-cursor.ensures.cursor) in
    gave-not_forward c.args.self.now c.args.n far

pub returns-in_err-redo-clause-memory : goal.returns-in_err-redo-clause-memory
returns-in_err-redo-clause-memory g c =
    let near : c.args.n ≤ undone c.args.self.now.branch =
    omega (arith, c.if-len-cursor.false, c.len.ensures.length, ap length c.events.ensures.events, c.cursor-cursor.ensures.cursor) in
    anyway _ (forward-accepts c.args.self.now c.args.n near)

pub returns-clause-gave : goal.returns-clause-gave
returns-clause-gave g c =
    let near : c.args.n ≤ undone c.args.self.now.branch =
    omega (arith, c.if-len-cursor.false, c.len.ensures.length, ap length c.events.ensures.events, c.cursor-cursor.ensures.cursor) in
    let stood : c.deref_mut.result.now.cursor ≡ c.cursor-cursor.result =
    ap (λ (h : History). h.cursor) c.deref_mut.ensures.value ∙ ap (λ (r : Rooted). r.branch.cursor) c.self.view_is ∙ sym c.cursor-cursor.ensures.cursor in
    gave-forward c.args.self.now _ c.args.n _ c.cursor-cursor.ensures.cursor near
    (moved-to c.self.inside.name c.self.inside.history.value c.redo.new.self (option_map box_value c.self.inside.former) c.args.self.now
    (c.cursor-cursor.result + c.args.n) c.self.view_is
    (c.in_ok-redo.ensures.history ∙ ap (λ k. standing_at c.deref_mut.result.now (k + c.args.n)) stood
    ∙ ap (λ (h : History). standing_at h (c.cursor-cursor.result + c.args.n)) c.deref_mut.ensures.value))
