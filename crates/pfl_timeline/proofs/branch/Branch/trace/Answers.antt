use Rattle.std.specs.Prelude.{◌≡◌, ◌+◌, ◌-◌, List, length, drop, slice_get, Some, box_value}
use Rattle.std.specs.Option.{option_map}
use Rattle.std.proofs.Common.{◌∙◌, ap, sym}
use Rattle.std.proofs.lemmas.Result.{IfOk-weaker}
use Rattle.pfl_language.specs.declared.event.Event.{Event}
use Rattle.pfl_reasons.specs.Senders.{steps_of}
use Rattle.pfl_timeline.specs.Histories.{History}
use Rattle.pfl_timeline.specs.Rooted.{Rooted}
use Rattle.pfl_timeline.proofs.Traces.{frame-seen, traced_as}
use Rattle.pfl_timeline.proofs.branch.Branch.trace.Goals as goal

pub returns-clause-answer : goal.returns-clause-answer
returns-clause-answer g c =
    let r = c.args.self.now in
    let k = c.args.place in
    let ticket = c.args.ticket in
    let f = c.in-Some.frame in
    let e = c.get.result in
    let still = c.look_at.ensures.unchanged ∙ c.deref_mut.ensures.value in
    let events : c.events-events.result.now ≡ r.branch.events = c.events-events.ensures.events ∙ ap (λ (h : History). h.events) still
    ∙ ap (λ (q : Rooted). q.branch.events) c.self.view_is in
    let there : slice_get r.branch.events (k - 1) ≡ Some e =
    ap (λ (es : List Event). slice_get es (k - 1)) (sym events)
    ∙ c.get.ensures.event in
    let later : c.in_ok-later.later.items ≡ steps_of ticket (ticket + 1) (k + 1) f (drop k r.branch.events) =
    c.in_ok-later.ensures ∙ ap (λ (es : List Event). steps_of ticket (ticket + 1) (k + 1) f (drop k es)) events in
    let answer =
    frame-seen r c.self.inside.name c.self.inside.history.value c.deref_mut.result.now
    (option_map box_value c.self.inside.former) c.self.view_is c.deref_mut.ensures.value
    ticket k c.known.ensures.opening c.known.ensures.branch c.requires.sent c.frames_are_counted.ensures.traces e there f _ _
    c.in_ok-look_at.field-0 c.in_ok-seen.seen c.in_ok-seen.was c.in-Some.is c.in_ok-look_at.ensures.seen in
    let same = traced_as c.self.inside.name r.branch.name ticket k e c.len-len.result (length f.bytes) f c.in_ok-later.later.items
    (steps_of ticket (ticket + 1) (k + 1) f (drop k r.branch.events))
    (ap (λ (q : Rooted). q.branch.name) c.self.view_is) (c.len-len.ensures.length ∙ ap length c.bytes.ensures.bytes) later in
    IfOk-weaker c.reply.result _ _ (λ reply told. told ∙ same ∙ sym answer) c.reply.ensures
