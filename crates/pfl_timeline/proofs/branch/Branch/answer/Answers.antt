use Rattle.std.specs.Prelude.{refl}
use Rattle.std.proofs.lemmas.Result.{IfOk-weaker, on_err_weaker}
use Rattle.pfl_timeline.proofs.Giving.{frame-wants, gave-frame, gave-log, gave-show, gave-why, gave-why_step, log-wants, show-wants, why-wants}
use Rattle.pfl_timeline.proofs.Giving.{why_step-wants}
use Rattle.pfl_timeline.proofs.Results.{anyway}
use Rattle.pfl_timeline.proofs.branch.Branch.answer.Goals as goal

pub returns-in-Show-clause-gave : goal.returns-in-Show-clause-gave
returns-in-Show-clause-gave g c =
    IfOk-weaker c.show.result _ _ (λ reply told. gave-show c.args.self.now _ c.args.ask.now _ c.in-Show.is refl told) c.show.ensures.answer

pub returns-in-Show-clause-memory : goal.returns-in-Show-clause-memory
returns-in-Show-clause-memory g c = anyway _ (show-wants c.args.self.now c.args.ask.now c.in-Show.is c.known.ensures.branch)

pub returns-in-Why-clause-gave : goal.returns-in-Why-clause-gave
returns-in-Why-clause-gave g c =
    IfOk-weaker c.why.result _ _ (λ reply told. gave-why c.args.self.now _ c.args.ask.now _ c.in-Why.place c.in-Why.is c.why.ensures.unchanged told)
    c.why.ensures.answer

pub returns-in-Why-clause-memory : goal.returns-in-Why-clause-memory
returns-in-Why-clause-memory g c =
    on_err_weaker c.why.result (λ accepted. why-wants c.args.self.now c.args.ask.now c.in-Why.place c.in-Why.is accepted) c.why.ensures.memory

pub returns-in-WhyStep-clause-gave : goal.returns-in-WhyStep-clause-gave
returns-in-WhyStep-clause-gave g c =
    IfOk-weaker c.why_step.result _ _
    (λ reply told. gave-why_step c.args.self.now _ c.args.ask.now _ c.in-WhyStep.event c.in-WhyStep.is c.why_step.ensures.unchanged told)
    c.why_step.ensures.answer

pub returns-in-WhyStep-clause-memory : goal.returns-in-WhyStep-clause-memory
returns-in-WhyStep-clause-memory g c = anyway _ (why_step-wants c.args.self.now c.args.ask.now _ c.in-WhyStep.is c.known.ensures.branch)

pub returns-in-Frame-clause-gave : goal.returns-in-Frame-clause-gave
returns-in-Frame-clause-gave g c =
    IfOk-weaker c.frame.result _ _ (λ reply told. gave-frame c.args.self.now _ c.args.ask.now _ c.in-Frame.ticket c.in-Frame.is c.frame.ensures.unchanged told)
    c.frame.ensures.answer

pub returns-in-Frame-clause-memory : goal.returns-in-Frame-clause-memory
returns-in-Frame-clause-memory g c =
    on_err_weaker c.frame.result (λ accepted. frame-wants c.args.self.now c.args.ask.now c.in-Frame.ticket c.in-Frame.is accepted) c.frame.ensures.memory

pub returns-in-Log-clause-gave : goal.returns-in-Log-clause-gave
returns-in-Log-clause-gave g c =
    IfOk-weaker c.log.result _ _ (λ reply told. gave-log c.args.self.now _ c.args.ask.now _ c.in-Log.is refl told) c.log.ensures.answer

pub returns-in-Log-clause-memory : goal.returns-in-Log-clause-memory
returns-in-Log-clause-memory g c = anyway _ (log-wants c.args.self.now c.args.ask.now c.in-Log.is)
