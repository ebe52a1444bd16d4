use Rattle.std.proofs.Common.{arith, ◌∙◌, length-set}
use Rattle.std.proofs.lemmas.Result.{err_from_is_err_and}
use Rattle.pfl_base.specs.declared.class.Class.TheVariants.{TcpFirst}
use Rattle.pfl_base.specs.Classes.{classes}
use Rattle.pfl_lines.specs.Words.{words}
use Rattle.pfl_lines.proofs.Timeouts.{read-next, read-fault, read-all}
use Rattle.pfl_lines.proofs.rules.timeouts_at.Goals as goal

pub loop-i-preserved : goal.loop-i-preserved
loop-i-preserved c = record {
  read = read-next classes TcpFirst (words c.args.line.now) (words c.loop-i.rest.now)
      (words c.in_ok-seconds.others.now) c.loop-i.timeouts c.loop-i.i c.in_ok-seconds.seconds
      c.loop-i-test.true (omega (arith, c.loop-i-test.true, c.loop-i.invariant.all)) c.loop-i.invariant.read c.in_ok-seconds.ensures;
  all = length-set c.loop-i.timeouts c.loop-i.i c.in_ok-seconds.seconds ∙ c.loop-i.invariant.all;
}

pub returns-in_err-seconds : goal.returns-in_err-seconds
returns-in_err-seconds c =
    let p = err_from_is_err_and c.from_residual.result c.from_residual.ensures.1 in
    let read = read-fault classes TcpFirst (words c.args.line.now) (words c.loop-i.rest.now) c.loop-i.timeouts c.loop-i.i c.in_err-seconds.field-0.0
    c.loop-i-test.true c.loop-i.invariant.read c.in_err-seconds.ensures in
    rw (p.1, p.2) read

pub returns : goal.returns
returns c = read-all classes (words c.args.line.now) (words c.loop-i.rest.now) c.loop-i.timeouts c.loop-i.i
    c.loop-i-test.false (omega (arith, c.loop-i-test.false, c.loop-i.invariant.all)) c.loop-i.invariant.read
