use Rattle.std.proofs.Common.{◌∙◌, ap, ne_eqb}
use Rattle.pfl_lines.specs.Numbers.{cut_at}
use Rattle.pfl_lines.specs.inner.Numbers.{number_before}
use Rattle.pfl_lines.proofs.Before.{said_before, before_stop, first_none, first_stop}
use Rattle.pfl_lines.proofs.numbers.number_before.Goals as goal

pub returns-in_default-clause-exact : goal.returns-in_default-clause-exact
returns-in_default-clause-exact c = first_none c.args.separator c.args.greatest c.args.word.now c.in_default.ensures.cases

pub returns-in-Err-clause-exact : goal.returns-in-Err-clause-exact
returns-in-Err-clause-exact c =
    ap (number_before c.args.separator c.args.greatest) c.in-Some.ensures.cases.0
    ∙ first_stop c.args.separator c.args.greatest c.in-Some.first.now c.in-Err.fault c.in-Some.rest.now c.requires c.in-Err.ensures.exact

pub returns-in-Err-with_digit-clause-exact : goal.returns-in-Err-with_digit-clause-exact
returns-in-Err-with_digit-clause-exact c =
    c.loop-byte.invariant.same
    ∙ ap (λ bytes. said_before c.args.greatest c.loop-byte.n (cut_at c.args.separator bytes)) c.in-Some-split_first.ensures.cases.0
    ∙ before_stop c.args.separator c.args.greatest c.loop-byte.n c.in-Some-split_first.byte.now c.in-Err-with_digit.fault
    c.in-Some-split_first.others.now
    (ne_eqb c.in-Some-split_first.byte.now c.args.separator c.if-byte-separator.false) c.in-Err-with_digit.ensures.exact
