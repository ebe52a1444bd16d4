use Rattle.std.proofs.Common.{lit≤, arith}
use Rattle.pfl_receive.specs.inner.Deciding.{MayDo}
use Rattle.pfl_receive.proofs.Paying.{few-merged, few-released, few-taken_over, paid-as, paid-forgotten, paid-more, paid-on}
use Rattle.std.proofs.Common.{subst}
use Rattle.pfl_receive.proofs.records.carry_out.Goals as goal

pub returns-in-Import-clause-paid : goal.returns-in-Import-clause-paid
returns-in-Import-clause-paid g c =
    let few = few-taken_over c.args.desk.now.node c.in-Import.state c.in-Import.ack_wanted in
    paid-on _ 3 1 _ _ c.args.desk.now c.take_over.new.desk _ c.in-Import.is (lit≤ tt) c.take_over.ensures.node few c.take_over.ensures.writes

pub returns-in-Merge-clause-paid : goal.returns-in-Merge-clause-paid
returns-in-Merge-clause-paid g c =
    let few = few-merged c.args.desk.now.node c.in-Merge.merged in
    paid-on _ 7 1 _ _ c.args.desk.now c.put_merged.new.desk _ c.in-Merge.is (lit≤ tt) c.put_merged.ensures.node few c.put_merged.ensures.writes

pub returns-in-Release-clause-paid : goal.returns-in-Release-clause-paid
returns-in-Release-clause-paid g c =
    let few = few-released c.args.desk.now.node c.in-Release.name c.known.ensures.parts.states in
    paid-as 3 0 _ _ c.args.desk.now c.release.new.self _ c.in-Release.is (lit≤ tt) c.release.ensures.node (omega (arith, few)) c.release.ensures.writes

pub returns-in-Delete-clause-paid : goal.returns-in-Delete-clause-paid
returns-in-Delete-clause-paid g c =
    let known = subst (MayDo c.args.desk.now.node) c.in-Delete.is c.requires.may in
    paid-more 0 _ c.args.desk.now c.forget.new.self (omega arith)
    (paid-forgotten c.args.desk.now c.forget.new.self c.in-Delete.name known c.forget.ensures.node c.forget.ensures.writes)
