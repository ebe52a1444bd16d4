use Rattle.std.proofs.Common.{◌≡◌, sym, ◌∙◌, ap}
use Rattle.pfl_rules.proofs.Verdicts.{rest-whole, passed_by, taken, quick, ended, few}
use Rattle.pfl_rules.proofs.rule_set.RuleSet.verdict.Goals as goal
use Rattle.pfl_rules.proofs.rule_set.RuleSet.verdict.Goals.{then-matches+else-rule, else-matches}

pub loop-number-init : goal.loop-number-init
loop-number-init g c =
    let items : c.deref-rule-items.result.now ≡ c.args.self.now.list = c.deref-rule-items.ensures.value ∙ ap (λ s. s.list) c.self.view_is in
    record {
      items = items;
      few = rw c.deref-rule-items.ensures.value (few c.self.inside.rules.items c.self.invariant.faultless);
      whole = rw items (rest-whole c.args.packet.now c.args.dir c.args.self.now.list);
    }

pub returns-then-rule : goal.returns-then-rule
returns-then-rule g c =
    rw c.is_pass.ensures
    (quick c.args.packet.now c.args.dir _ _ _ _ c.rule-item.is c.loop-number-test.true (sym c.matches.ensures
    ∙ c.if-matches.true) c.if-rule.true ∙ c.loop-number.invariant.whole)

pub loop-number-preserved : goal.loop-number-preserved
loop-number-preserved g c = record {
  items = c.loop-number.invariant.items;
  few = c.loop-number.invariant.few;
  whole =
      elim c.if-matches.branch [
        | then-matches+else-rule w ↦
            rw (w.verdict-is, w.is_pass.ensures)
            (taken c.args.packet.now c.args.dir _ _ _ _ c.rule-item.is c.loop-number-test.true (sym c.matches.ensures
            ∙ w.if-matches.true) w.if-rule.false ∙ c.loop-number.invariant.whole)
        | else-matches w ↦
            rw w.verdict-is
            (passed_by c.args.packet.now c.args.dir _ _ _ _ c.rule-item.is c.loop-number-test.true (sym c.matches.ensures
            ∙ w.if-matches.false) ∙ c.loop-number.invariant.whole)
      ];
}

pub returns : goal.returns
returns g c = ended c.args.packet.now c.args.dir _ _ _ c.loop-number-test.false ∙ c.loop-number.invariant.whole
