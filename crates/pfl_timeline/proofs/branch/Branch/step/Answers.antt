use Rattle.std.proofs.lemmas.Result.{IfOk-weaker, on_err_weaker}
use Rattle.pfl_timeline.proofs.Giving.{gave-refusal, gave-stepped}
use Rattle.pfl_timeline.proofs.Wants.{step_accepts}
use Rattle.pfl_timeline.proofs.branch.Branch.step.Goals as goal

pub returns-in-Ok-clause-gave : goal.returns-in-Ok-clause-gave
returns-in-Ok-clause-gave g c =
    let done = c.in-Ok.ensures.stepped in
    gave-stepped c.args.self.now _ c.args.event.now done.0 done.1 _ _ done.2 done.3 c.in-Ok.ensures.dropped c.in-Ok.ensures.extended

pub returns-in-Err-clause-gave : goal.returns-in-Err-clause-gave
returns-in-Err-clause-gave g c =
    let why = c.in-Err.ensures.refused in
    IfOk-weaker c.refused.result _ _
    (λ reply h. gave-refusal c.args.self.now _ c.args.event.now why.0 _ _ why.1 why.2 h.0 c.in-Err.ensures.unchanged h.1) c.refused.ensures.reply

pub returns-in-Err-clause-memory : goal.returns-in-Err-clause-memory
returns-in-Err-clause-memory g c =
    let why = c.in-Err.ensures.refused in
    on_err_weaker c.refused.result (λ wants. step_accepts c.args.self.now c.args.event.now why.0 _ why.1 why.2 wants) c.refused.ensures.memory
