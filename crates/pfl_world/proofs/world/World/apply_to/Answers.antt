use Rattle.std.specs.Prelude.{◌≡◌, Result, IfErr}
use Rattle.std.proofs.Common.{sym, subst}
use Rattle.pfl_base.specs.declared.refusal.Refusal.{Refusal}
use Rattle.pfl_language.specs.declared.event.Event.{Event}
use Rattle.pfl_world.specs.Events.{step, IsRefusalOf, IsEventRefusal}
use Rattle.pfl_world.specs.Meanings.{Stepped}
use Rattle.pfl_world.specs.Values.{MayHold}
use Rattle.pfl_world.specs.Worlds.{World}
use Rattle.pfl_world.specs.inner.Recording.{Recorded}
use Rattle.pfl_world.proofs.Recording.{on_ok, recorded-kind}
use Rattle.pfl_world.proofs.Restarted.{step_restart}
use Rattle.pfl_world.proofs.Sending.{flush_refused, flush_accepted, flush_weight}
use Rattle.pfl_world.proofs.Stepping.{step_at, step_of}
use Rattle.pfl_world.proofs.world.World.apply_to.Goals as goal

-- the refusal is that of the event's part
as_step : {X : Type 0} (w : World) (e : Event) (at : Result Stepped Refusal) → step w e ≡ at → (result : Result X Refusal)
    → IfErr result (IsRefusalOf at) → IfErr result (IsEventRefusal w e)
as_step w e at is result why = subst (λ (v : Result Stepped Refusal). IfErr result (IsRefusalOf v)) (sym is) why

pub returns-in-At-clause-refused : goal.returns-in-At-clause-refused
returns-in-At-clause-refused g c =
    as_step c.args.self.now c.args.event.now _
    (step_at c.args.self.now c.args.event.now c.in-At.node c.in-At.event c.in-At.is) c.at_node.result c.at_node.ensures.refused

pub returns-in-At-clause-step : goal.returns-in-At-clause-step
returns-in-At-clause-step g c = rw (step_at c.args.self.now c.args.event.now c.in-At.node c.in-At.event c.in-At.is) c.at_node.ensures.step

pub returns-in-At-clause-recorded : goal.returns-in-At-clause-recorded
returns-in-At-clause-recorded g c =
    on_ok c.at_node.result (λ (r : Recorded _ _ _ _ _). recorded-kind
    (λ x little. subst (λ (v : Event). MayHold v x) (sym c.in-At.is) little) r) c.at_node.ensures.recorded

pub returns-in-At-clause-few : goal.returns-in-At-clause-few
returns-in-At-clause-few g c = rw c.in-At.is c.at_node.ensures.few

pub returns-in-Of-clause-refused : goal.returns-in-Of-clause-refused
returns-in-Of-clause-refused g c =
    as_step c.args.self.now c.args.event.now _
    (step_of c.args.self.now c.args.event.now c.in-Of.ticket c.in-Of.event c.in-Of.is) c.of_frame.result c.of_frame.ensures.refused

pub returns-in-Of-clause-step : goal.returns-in-Of-clause-step
returns-in-Of-clause-step g c = rw (step_of c.args.self.now c.args.event.now c.in-Of.ticket c.in-Of.event c.in-Of.is) c.of_frame.ensures.step

pub returns-in-Of-clause-recorded : goal.returns-in-Of-clause-recorded
returns-in-Of-clause-recorded g c =
    on_ok c.of_frame.result (λ (r : Recorded _ _ _ _ _). recorded-kind
    (λ x little. subst (λ (v : Event). MayHold v x) (sym c.in-Of.is) little) r) c.of_frame.ensures.recorded

pub returns-in-Of-clause-few : goal.returns-in-Of-clause-few
returns-in-Of-clause-few g c = rw c.in-Of.is c.of_frame.ensures.few

pub returns-in-Restart-clause-refused : goal.returns-in-Restart-clause-refused
returns-in-Restart-clause-refused g c =
    as_step c.args.self.now c.args.event.now _
    (step_restart c.args.self.now c.args.event.now c.in-Restart.node c.in-Restart.is) c.restart.result c.restart.ensures.refused

pub returns-in-Restart-clause-step : goal.returns-in-Restart-clause-step
returns-in-Restart-clause-step g c = rw (step_restart c.args.self.now c.args.event.now c.in-Restart.node c.in-Restart.is) c.restart.ensures.step

pub returns-in-Restart-clause-recorded : goal.returns-in-Restart-clause-recorded
returns-in-Restart-clause-recorded g c =
    on_ok c.restart.result (λ (r : Recorded _ _ _ _ _). recorded-kind
    (λ x whole. subst (λ (v : Event). MayHold v x) (sym c.in-Restart.is) whole) r) c.restart.ensures.recorded

pub returns-in-Flush-clause-refused : goal.returns-in-Flush-clause-refused
returns-in-Flush-clause-refused g c = flush_refused c.args.self.now c.args.event.now c.in-Flush.node c.in-Flush.is c.flush.result c.flush.ensures.refused

pub returns-in-Flush-clause-step : goal.returns-in-Flush-clause-step
returns-in-Flush-clause-step g c =
    flush_accepted c.args.self.now c.flush.new.self c.args.event.now c.in-Flush.node c.in-Flush.is c.flush.result
    c.flush.ensures.not_refused c.flush.ensures.world c.flush.ensures.outcome

pub returns-in-Flush-clause-recorded : goal.returns-in-Flush-clause-recorded
returns-in-Flush-clause-recorded g c =
    on_ok c.flush.result (λ (r : Recorded _ _ _ _ _). recorded-kind
    (λ x little. subst (λ (v : Event). MayHold v x) (sym c.in-Flush.is) little) r) c.flush.ensures.recorded

pub returns-in-Flush-clause-few : goal.returns-in-Flush-clause-few
returns-in-Flush-clause-few g c = flush_weight c.args.self.now c.args.event.now c.in-Flush.node _ _ c.in-Flush.is c.flush.result c.flush.ensures.few
