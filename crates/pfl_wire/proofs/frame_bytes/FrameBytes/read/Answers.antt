use Rattle.std.proofs.Common.{arith, sym}
use Rattle.std.proofs.lemmas.Result.{err_from_is_err_and}
use Rattle.pfl_wire.proofs.Left.{groups_checked, frame_read, header_fault, groups_fault, frame_len_is}
use Rattle.pfl_wire.proofs.frame_bytes.FrameBytes.read.Goals as goal

pub returns-in_err-print-clause-exact : goal.returns-in_err-print-clause-exact
returns-in_err-print-clause-exact c =
    let p = err_from_is_err_and c.from_residual.result c.from_residual.ensures.1 in
    rw (p.1, p.2) (sym (header_fault c.args.bytes.now c.in_err-print.field-0.0 c.in_err-print.ensures))

pub returns-in_err-check_groups-clause-exact : goal.returns-in_err-check_groups-clause-exact
returns-in_err-check_groups-clause-exact c =
    let p = err_from_is_err_and c.from_residual-in_err-check_groups.result c.from_residual-in_err-check_groups.ensures.1 in
    rw (p.1, p.2) (sym (groups_fault c.args.bytes.now
    (c.in_ok-print.print, c.in_ok-print.groups.now) c.in_err-check_groups.field-0.0 c.in_ok-print.ensures c.in_err-check_groups.ensures))

pub invariant_of-result : goal.invariant_of-result
invariant_of-result c = groups_checked c.in_ok-print.groups.now c.in_ok-check_groups.ensures

pub returns-clause-exact : goal.returns-clause-exact
returns-clause-exact c =
    sym (frame_read c.args.bytes.now (c.in_ok-print.print, c.in_ok-print.groups.now) c.in_ok-print.ensures
    (groups_checked c.in_ok-print.groups.now c.in_ok-check_groups.ensures))

pub returns-clause-len : goal.returns-clause-len
returns-clause-len c =
    frame_len_is c.args.bytes.now _ (λ i. omega (arith, c.type_inv.bytes i))
    (frame_read c.args.bytes.now (c.in_ok-print.print, c.in_ok-print.groups.now) c.in_ok-print.ensures
    (groups_checked c.in_ok-print.groups.now c.in_ok-check_groups.ensures))
