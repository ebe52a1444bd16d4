use Rattle.std.proofs.Common.{◌≡◌, ℕ, List, [], ◌∷◌, Bor, ap, sym, ◌∙◌, arith, subst}
use Rattle.std.specs.Prelude.{Option, Some}
use Rattle.std.specs.Option.{option_map}
use Rattle.std.proofs.lemmas.Result.{err_from_is_err_and}
use Rattle.pfl_language.specs.declared.choice.Choice.{Choice}
use Rattle.pfl_lines.specs.inner.Parts.{parts_behind}
use Rattle.pfl_lines.specs.Search.{parts_of}
use Rattle.pfl_lines.proofs.Searched.{AreLeft, none-taken, all-taken, next-phase, phase_too_many, choice_too_many, choice-fault, next-choice}
use Rattle.pfl_lines.proofs.search.choices_of.Goals as goal

-- the parts of what is left
abbrev parts_left : Option (Bor (List ℕ)) → List (List ℕ)
parts_left rest = parts_behind (option_map (λ x. x.now) rest)

-- what is left begins with a part
are_cut : (all parts : List (List ℕ)) (taken : List Choice) (phase : ℕ) (rest : Option (Bor (List ℕ))) (text : Bor (List ℕ)) (part : List ℕ) →
    AreLeft all (parts_left rest) taken phase → rest ≡ Some text → parts_of text.now ≡ part ∷ parts → AreLeft all (part ∷ parts) taken phase
are_cut all parts taken phase rest text part are is cut = subst (λ ps. AreLeft all ps taken phase) (ap parts_left is ∙ cut) are

pub loop-rest-init : goal.loop-rest-init
loop-rest-init c = record {
  are = rw c.new-choices.ensures (none-taken (parts_left c.args.behind));
  begun = omega arith;
}

pub returns-then-phase-eq-LAST_PHASE : goal.returns-then-phase-eq-LAST_PHASE
returns-then-phase-eq-LAST_PHASE c =
    let are = are_cut _ (parts_left c.part_at.result.1) _ _ _ _ _ c.loop-rest.invariant.are c.in-Some.is c.part_at.ensures.parts in
    phase_too_many _ _ _ _ _ are (sym c.says_then.ensures ∙ c.if-says_then.true) c.if-phase-eq-LAST_PHASE.true

pub loop-rest-preserved-else-phase-eq-LAST_PHASE : goal.loop-rest-preserved-else-phase-eq-LAST_PHASE
loop-rest-preserved-else-phase-eq-LAST_PHASE c =
    let are = are_cut _ (parts_left c.part_at.result.1) _ _ _ _ _ c.loop-rest.invariant.are c.in-Some.is c.part_at.ensures.parts in
    record {
      are = next-phase _ _ _ _ _ are (sym c.says_then.ensures ∙ c.if-says_then.true) c.if-phase-eq-LAST_PHASE.false;
      begun = omega arith;
    }

pub returns-then-is_full : goal.returns-then-is_full
returns-then-is_full c =
    let are = are_cut _ (parts_left c.part_at.result.1) _ _ _ _ _ c.loop-rest.invariant.are c.in-Some.is c.part_at.ensures.parts in
    choice_too_many _ _ _ _ _ are (sym c.says_then.ensures ∙ c.if-says_then.false) (sym c.is_full.ensures.value ∙ c.if-is_full.true)

pub returns-in_err-choice : goal.returns-in_err-choice
returns-in_err-choice c =
    let p = err_from_is_err_and c.from_residual.result c.from_residual.ensures.1 in
    let are = are_cut _ (parts_left c.part_at.result.1) _ _ _ _ _ c.loop-rest.invariant.are c.in-Some.is c.part_at.ensures.parts in
    rw (p.1, p.2) (choice-fault _ _ _ _ _ _ are (sym c.says_then.ensures ∙ c.if-says_then.false) (sym c.is_full.ensures.value ∙ c.if-is_full.false)
    (sym c.choice_of.ensures ∙ c.in_err-choice.was))

pub loop-rest-preserved : goal.loop-rest-preserved
loop-rest-preserved c =
    let are = are_cut _ (parts_left c.part_at.result.1) _ _ _ _ _ c.loop-rest.invariant.are c.in-Some.is c.part_at.ensures.parts in
    record {
      are = rw c.push.ensures.items (next-choice _ _ _ _ _ _ are (sym c.says_then.ensures ∙ c.if-says_then.false)
          (sym c.is_full.ensures.value ∙ c.if-is_full.false) (sym c.choice_of.ensures ∙ c.in_ok-choice.was));
      begun = c.loop-rest.invariant.begun;
    }

pub returns : goal.returns
returns c =
    let are : AreLeft (parts_left c.args.behind) [] c.loop-rest.choices.items c.loop-rest.phase = rw (← ap parts_left c.in_default.is) c.loop-rest.invariant.are in
    all-taken _ _ _ are
