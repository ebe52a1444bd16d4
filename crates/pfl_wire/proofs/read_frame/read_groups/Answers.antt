use Rattle.std.proofs.Common.{arith, length, ◌<◌, ◌≡◌}
use Rattle.std.proofs.lemmas.Result.{err_from_is_err_and}
use Rattle.pfl_wire.specs.Reading.{groups_at}
use Rattle.pfl_wire.specs.inner.Answers.{kept_items, kept_lists}
use Rattle.pfl_wire.proofs.Loop.{Joins-lists, groups_shrink, groups_after, groups_go_on, groups_end, groups_done}
use Rattle.pfl_wire.proofs.read_frame.read_groups.Goals as goal

pub returns-in_err-group : goal.returns-in_err-group
returns-in_err-group g c =
    let p = err_from_is_err_and c.from_residual.result c.from_residual.ensures.1 in
    let some : 0 < length c.loop-rest.rest.now = grind arith in
    rw (p.1, p.2) (groups_end (kept_lists c.loop-rest.kept) c.loop-rest.rest.now c.in_err-group.field-0.0
    (groups_at (length c.args.bytes.now) c.args.bytes.now) some c.in_err-group.ensures c.loop-rest.invariant.goes)

pub loop-rest-smaller : goal.loop-rest-smaller
loop-rest-smaller g c = omega (
  arith,
  groups_shrink
      (kept_items c.in_ok-group.group) c.in_ok-group.after.now c.loop-rest.rest.now c.loop-rest.invariant.fits c.in_ok-group.ensures,
)

pub loop-rest-preserved : goal.loop-rest-preserved
loop-rest-preserved g c =
    let some : 0 < length c.loop-rest.rest.now = grind arith in
    record {
      fits = groups_after (kept_items c.in_ok-group.group) c.in_ok-group.after.now c.loop-rest.rest.now c.loop-rest.invariant.fits c.in_ok-group.ensures;
      goes = groups_go_on (kept_lists c.loop-rest.kept) (kept_items c.in_ok-group.group)
          (kept_lists c.keep-kept.result) c.loop-rest.rest.now c.in_ok-group.after.now
          (groups_at (length c.args.bytes.now) c.args.bytes.now) c.loop-rest.invariant.fits some c.in_ok-group.ensures
          (Joins-lists c.loop-rest.kept c.in_ok-group.group c.keep-kept.result c.keep-kept.ensures) c.loop-rest.invariant.goes;
    }

pub returns : goal.returns
returns g c =
    let none : length c.loop-rest.rest.now ≡ 0 = grind arith in
    groups_done (kept_lists c.loop-rest.kept) c.loop-rest.rest.now (groups_at (length c.args.bytes.now) c.args.bytes.now) none c.loop-rest.invariant.goes
