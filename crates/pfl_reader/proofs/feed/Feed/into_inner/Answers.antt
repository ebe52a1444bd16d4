use Rattle.std.proofs.Common.{◌≡◌, ◌≤◌, ◌-◌, length, drop, arith, ap, sym, length-take}
use Rattle.std.specs.Prelude.{slice_range}
use Rattle.pfl_reader.specs.inner.Feeds.{Fed}
use Rattle.pfl_reader.proofs.feed.Feed.into_inner.Goals as goal

-- what of the block was not taken
pub returns-clause-left : goal.returns-clause-left
returns-clause-left g c =
    let f = c.self.inside in
    let waiting = slice_range f.block f.start f.end in
    let few : length waiting ≤ 65536 = omega (arith, length-take (f.end - f.start) (drop f.start f.block), c.self.invariant) in
    (waiting, few, sym (ap (λ (fed : Fed). fed.left) c.self.view_is))
