use Rattle.std.proofs.Common.{arith}
use Rattle.pfl_link.proofs.Setting.{empty_is, empty_kept}
use Rattle.pfl_link.proofs.link.Link.new_at.Goals as goal

pub invariant_of-result : goal.invariant_of-result
invariant_of-result g c = empty_kept c.args.limit c.args.mtu c.args.next c.in_ok-rows.rows c.in_ok-rows.ensures.empty c.in_ok-rows.ensures.limit (omega arith)

pub returns : goal.returns
returns g c = record { empty = empty_is c.args.limit c.args.mtu c.args.next c.in_ok-rows.rows c.in_ok-rows.ensures.empty }
