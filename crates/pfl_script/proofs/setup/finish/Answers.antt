use Rattle.std.proofs.Common.{◌≡◌, List, None, subst}
use Rattle.std.proofs.lemmas.Result.{err_from_is_err_and}
use Rattle.pfl_rules.specs.declared.rule.Rule.{Rule}
use Rattle.pfl_rules.specs.Rules.{rule_fault}
use Rattle.pfl_script.specs.inner.Setups.{IsRuleStop}
use Rattle.pfl_script.proofs.Setting.{finish-a, finish-b}
use Rattle.pfl_script.proofs.setup.finish.Goals as goal

pub returns-in_err-rules_a-clause-fault : goal.returns-in_err-rules_a-clause-fault
returns-in_err-rules_a-clause-fault g c =
    let p = err_from_is_err_and c.from_residual.result c.from_residual.ensures.1 in
    let e = c.in_err-rules_a.field-0.0 in
    let a : c.draft.inside.a.items ≡ c.args.draft.a = cc in
    rw (p.1, p.2) (finish-a e c.args.number c.args.draft
    (subst (λ (l : List Rule). IsRuleStop e c.args.number (rule_fault l)) a c.in_err-rules_a.ensures.fault))

pub returns-in_err-rules_b-clause-fault : goal.returns-in_err-rules_b-clause-fault
returns-in_err-rules_b-clause-fault g c =
    let p = err_from_is_err_and c.from_residual-in_err-rules_b.result c.from_residual-in_err-rules_b.ensures.1 in
    let e = c.in_err-rules_b.field-0.0 in
    let a : c.draft.inside.a.items ≡ c.args.draft.a = cc in
    let b : c.draft.inside.b.items ≡ c.args.draft.b = cc in
    let none = subst (λ (l : List Rule). rule_fault l ≡ None) a c.in_ok-rules_a.ensures.faultless in
    rw (p.1, p.2) (finish-b e c.args.number c.args.draft none
    (subst (λ (l : List Rule). IsRuleStop e c.args.number (rule_fault l)) b c.in_err-rules_b.ensures.fault))
