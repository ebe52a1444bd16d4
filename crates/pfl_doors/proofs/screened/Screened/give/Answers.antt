use Rattle.std.proofs.Common.{◌≡◌, ◌≤◌, [], length, drop, sym, arith, Some, false, rules}
use Rattle.std.proofs.Math.ListN.{drop_of_length-le}
use Rattle.pfl_doors.proofs.Screening.{device_read}
use Rattle.pfl_doors.proofs.screened.Screened.give.Goals as goal

-- the device gives the rest
pub returns-else-self-len-clause-bytes : goal.returns-else-self-len-clause-bytes
returns-else-self-len-clause-bytes g c =
    let known : c.self.inside.verdict ≡ Some false = search rules in
    let over : length c.self.inside.front.items ≤ c.self.inside.given = omega (arith, c.len.ensures.value, c.if-self-len.false) in
    let none : drop c.self.inside.given c.self.inside.front.items ≡ [] = drop_of_length-le c.self.inside.front.items over in
    rw (sym c.self.view_is) (device_read _ _ _ _ c.read.result c.read.new.buf known none c.read.ensures.bytes)
