use Rattle.std.proofs.Common.{arith, length, ◌<◌, ◌≡◌, None}
use Rattle.std.proofs.lemmas.Result.{err_from_is_err_and}
use Rattle.pfl_wire.specs.Reading.{groups_at}
use Rattle.pfl_wire.proofs.Loop.{groups_shrink, groups_after, groups_go_on, groups_end, groups_done}
use Rattle.pfl_wire.proofs.frame_bytes.check_groups.Goals as goal

pub returns-in_err-rest : goal.returns-in_err-rest
returns-in_err-rest c =
    let p = err_from_is_err_and c.from_residual.result c.from_residual.ensures.1 in
    let some : 0 < length c.loop-rest.rest.now = grind arith in
    rw (p.1, p.2) (groups_end None c.loop-rest.rest.now c.in_err-rest.field-0.0
    (groups_at (length c.args.bytes.now) c.args.bytes.now) some c.in_err-rest.ensures c.loop-rest.invariant.goes)

pub loop-rest-smaller : goal.loop-rest-smaller
loop-rest-smaller c = omega (arith, groups_shrink None c.in_ok-rest.rest.now c.loop-rest.rest.now c.loop-rest.invariant.fits c.in_ok-rest.ensures)

pub loop-rest-preserved : goal.loop-rest-preserved
loop-rest-preserved c =
    let some : 0 < length c.loop-rest.rest.now = grind arith in
    record {
      fits = groups_after None c.in_ok-rest.rest.now c.loop-rest.rest.now c.loop-rest.invariant.fits c.in_ok-rest.ensures;
      goes = groups_go_on None None None c.loop-rest.rest.now c.in_ok-rest.rest.now
          (groups_at (length c.args.bytes.now) c.args.bytes.now) c.loop-rest.invariant.fits some c.in_ok-rest.ensures tt c.loop-rest.invariant.goes;
    }

pub returns : goal.returns
returns c =
    let none : length c.loop-rest.rest.now ≡ 0 = grind arith in
    groups_done None c.loop-rest.rest.now (groups_at (length c.args.bytes.now) c.args.bytes.now) none c.loop-rest.invariant.goes
