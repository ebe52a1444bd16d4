use Rattle.std.proofs.Common.{◌≡◌, None, Some, true, rules, ◌∙◌, ap, refl, sym}
use Rattle.pfl_rules.specs.declared.verdict.Verdict.{Verdict}
use Rattle.pfl_node.specs.declared.packet.ruling.Ruling.TheVariants.{Unmatched}
use Rattle.pfl_node.proofs.Matched.{judged-fits}
use Rattle.pfl_node.proofs.Ruled.{blocked, passed, rule-is, unmatched, verdict-is}
use Rattle.pfl_node.proofs.packet.start.ask_rules.Goals as goal

pub returns-in_default-clause-ruled : goal.returns-in_default-clause-ruled
returns-in_default-clause-ruled g c =
    let n = c.args.parts.now in
    let v = c.verdict-verdict.result in
    let is = verdict-is n.rules c.rules-rules.result.now c.args.dir c.args.packet.now v c.verdict-verdict.ensures c.rules-rules.ensures.rules in
    unmatched n c.args.dir c.args.packet.now v is c.in_default.is

pub returns-then-not-verdict-clause-ruled : goal.returns-then-not-verdict-clause-ruled
returns-then-not-verdict-clause-ruled g c =
    let n = c.args.parts.now in
    let v = c.verdict-verdict.result in
    let is = verdict-is n.rules c.rules-rules.result.now c.args.dir c.args.packet.now v c.verdict-verdict.ensures c.rules-rules.ensures.rules in
    blocked n c.args.dir c.args.packet.now v is c.in-Some.number c.in-Some.is (search rules)

pub start-requires-clause-fits : goal.start-requires-clause-fits
start-requires-clause-fits g c =
    let n = c.args.parts.now in
    let v = c.verdict-verdict.result in
    let is = verdict-is n.rules c.rules-rules.result.now c.args.dir c.args.packet.now v c.verdict-verdict.ensures c.rules-rules.ensures.rules in
    let passes : v.pass ≡ true = search rules in
    let there = rule-is n.rules c.rules-rules.result.now c.in-Some.number c.rule.result
    (Some c.in-Some-rule.rule) c.rule.ensures c.rules-rules.ensures.rules c.in-Some-rule.is in
    judged-fits n.rules.list c.args.packet.now c.args.dir c.in-Some.number c.in-Some-rule.rule c.requires.packet.family
    (ap (λ (x : Verdict). x.pass) (sym is) ∙ passes) (ap (λ (x : Verdict). x.rule) (sym is) ∙ c.in-Some.is) there

pub returns-in-Some-rule-clause-ruled : goal.returns-in-Some-rule-clause-ruled
returns-in-Some-rule-clause-ruled g c =
    let n = c.args.parts.now in
    let v = c.verdict-verdict.result in
    let is = verdict-is n.rules c.rules-rules.result.now c.args.dir c.args.packet.now v c.verdict-verdict.ensures c.rules-rules.ensures.rules in
    let passes : v.pass ≡ true = search rules in
    let there = rule-is n.rules c.rules-rules.result.now c.in-Some.number c.rule.result
    (Some c.in-Some-rule.rule) c.rule.ensures c.rules-rules.ensures.rules c.in-Some-rule.is in
    passed n c.args.dir c.args.packet.now v is c.in-Some.number c.in-Some.is (Some c.in-Some-rule.rule) c.start.result passes there c.start.ensures.ruled

pub returns-in-None-clause-ruled : goal.returns-in-None-clause-ruled
returns-in-None-clause-ruled g c =
    let n = c.args.parts.now in
    let v = c.verdict-verdict.result in
    let is = verdict-is n.rules c.rules-rules.result.now c.args.dir c.args.packet.now v c.verdict-verdict.ensures c.rules-rules.ensures.rules in
    let passes : v.pass ≡ true = search rules in
    let gone = rule-is n.rules c.rules-rules.result.now c.in-Some.number c.rule.result None c.rule.ensures c.rules-rules.ensures.rules c.in-None.is in
    passed n c.args.dir c.args.packet.now v is c.in-Some.number c.in-Some.is None Unmatched passes gone refl
