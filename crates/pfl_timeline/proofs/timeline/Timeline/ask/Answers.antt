use Rattle.std.specs.Prelude.{◌≡◌}
use Rattle.std.proofs.Common.{◌∙◌, ap}
use Rattle.std.proofs.lemmas.Result.{IfOk-weaker, on_err_weaker}
use Rattle.pfl_timeline.specs.Memory.{is_refusal}
use Rattle.pfl_timeline.specs.Replies.{Replied}
use Rattle.pfl_timeline.specs.Rooted.{Rooted}
use Rattle.pfl_timeline.proofs.Places.{asked-at, asked-still, gave_name, gave_opening, kept-at, same_there, told-at}
use Rattle.pfl_timeline.proofs.Results.{either}
use Rattle.pfl_timeline.proofs.timeline.Timeline.ask.Goals as goal

pub returns-in_default-clause-step : goal.returns-in_default-clause-step
returns-in_default-clause-step g c =
    asked-still c.args.name.now _ _ _ c.self.view_is c.self.invariant c.in_default.ensures.value (ap (λ m. m.entries) c.get_mut.follows.holds-at-none)
    c.args.ask.now

pub invariant_of-self-2 : goal.invariant_of-self-2
invariant_of-self-2 g c =
    let w = c.get_mut.follows.holds c.answer-answered.new.self in
    let r = c.in-Some.branch.now in
    let s = c.answer-answered.new.self in
    let kept : (s.opening ≡ r.opening) × (s.branch.name ≡ r.branch.name) =
    either c.answer-answered.result _ c.answer-answered.ensures.gave
    (λ reply gave. (gave_opening r s c.args.ask.now _ gave, gave_name r s c.args.ask.now _ gave))
    (on_err_weaker c.answer-answered.result (λ same. (ap (λ (x : Rooted). x.opening) same, ap (λ (x : Rooted). x.branch.name) same))
    c.answer-answered.ensures.unchanged) in
    kept-at c.args.name.now _ _ _ c.self.view_is c.self.invariant c.in-Some.ensures.value _ _ w.0 kept.0 kept.1 c.known.ensures.branch

pub returns-clause-step : goal.returns-clause-step
returns-clause-step g c =
    let w = c.get_mut.follows.holds c.answer-answered.new.self in
    IfOk-weaker c.answer-answered.result _ _
    (λ reply gave. told-at c.args.name.now _ _ _ c.self.view_is c.self.invariant c.in-Some.ensures.value _ _ w.0 c.args.ask.now _ gave)
    c.answer-answered.ensures.gave

pub returns-clause-memory : goal.returns-clause-memory
returns-clause-memory g c =
    on_err_weaker c.answer-answered.result
    (λ wants. record {
      makes = wants.0;
      not_refused = ap (λ (done : Replied). is_refusal done.reply)
          (asked-at c.args.name.now _ _ _ c.self.view_is c.self.invariant c.in-Some.ensures.value c.args.ask.now) ∙ wants.1;
    })
    c.answer-answered.ensures.memory

pub returns-clause-unchanged : goal.returns-clause-unchanged
returns-clause-unchanged g c =
    let w = c.get_mut.follows.holds c.answer-answered.new.self in
    on_err_weaker c.answer-answered.result
    (λ same. same_there c.args.name.now _ _ _ c.self.view_is c.self.invariant c.in-Some.ensures.value _ _ w.0 same)
    c.answer-answered.ensures.unchanged
