use Rattle.std.specs.Prelude.{◌≡◌, ◌-◌, ◌≤◌, List, length, slice_get, Some, box_value}
use Rattle.std.specs.Option.{option_map}
use Rattle.std.proofs.Common.{◌∙◌, ap, arith, sym}
use Rattle.pfl_language.specs.declared.event.Event.{Event}
use Rattle.pfl_timeline.proofs.Results.{anyway}
use Rattle.pfl_timeline.proofs.Sieving.{has-event}
use Rattle.pfl_timeline.proofs.Whys.{explained-is, explained-by}
use Rattle.pfl_timeline.proofs.branch.Branch.why.Goals as goal

pub returns-in_err-look_at-clause-memory : goal.returns-in_err-look_at-clause-memory
returns-in_err-look_at-clause-memory g c =
    let b = c.args.self.now.branch in
    let within : c.args.place ≤ length b.events = omega (arith, c.if-place-count.false, c.len-count.ensures.length, ap length c.events.ensures.events) in
    anyway _ (explained-is c.args.place b (has-event c.args.place b c.if-place-eq0.false within) c.args.self.now.opening c.known.ensures.branch)

pub returns-clause-memory : goal.returns-clause-memory
returns-clause-memory g c =
    let b = c.args.self.now.branch in
    let within : c.args.place ≤ length b.events = omega (arith, c.if-place-count.false, c.len-count.ensures.length, ap length c.events.ensures.events) in
    anyway _ (explained-is c.args.place b (has-event c.args.place b c.if-place-eq0.false within) c.args.self.now.opening c.known.ensures.branch)

pub returns-clause-answer : goal.returns-clause-answer
returns-clause-answer g c =
    let b = c.args.self.now.branch in
    let k = c.args.place in
    let e = c.get.result in
    let within : k ≤ length b.events = omega (arith, c.if-place-count.false, c.len-count.ensures.length, ap length c.events.ensures.events) in
    let there : slice_get b.events (k - 1) ≡ Some e =
    ap (λ (es : List Event). slice_get es (k - 1)) (sym c.events-2.ensures.events)
    ∙ c.get.ensures.event in
    explained-by k c.args.self.now c.self.inside.name c.self.inside.history.value c.deref_mut.result.now
    (option_map box_value c.self.inside.former) c.self.view_is c.deref_mut.ensures.value
    (has-event k b c.if-place-eq0.false within) e there _ _ c.in_ok-look_at.field-0 c.in_ok-look_at.ensures.seen
