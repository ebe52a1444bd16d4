use Rattle.std.proofs.Common.{◌∙◌, ap, sym}
use Rattle.pfl_lines.proofs.Before.{number_said, said, said_stop}
use Rattle.pfl_lines.proofs.numbers.number_of.Goals as goal

pub returns-in-Err-clause-exact : goal.returns-in-Err-clause-exact
returns-in-Err-clause-exact c =
    sym (number_said c.args.greatest c.args.word.now c.is_empty.result c.is_empty.ensures c.if-is_empty.false
    ∙ c.loop-digit.invariant.same
    ∙ ap (said c.args.greatest c.loop-digit.n) c.in-Some.ensures.cases.0
    ∙ said_stop c.args.greatest c.loop-digit.n c.in-Some.digit.now c.in-Err.fault c.in-Some.others.now c.in-Err.ensures.exact)
