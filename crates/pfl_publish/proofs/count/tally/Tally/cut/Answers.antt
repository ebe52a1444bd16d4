use Rattle.std.proofs.Common.{ap, arith}
use Rattle.pfl_publish.specs.declared.count.view.View.{View}
use Rattle.pfl_publish.proofs.KeepsCount.{splits}
use Rattle.pfl_publish.proofs.count.tally.Tally.cut.Goals as goal

pub split_seat-other-requires : goal.split_seat-other-requires
split_seat-other-requires g c = let wide = c.self.invariant in (cc, omega arith, splits _ _ (ap (λ (v : View). v.parts) c.requires.whole.1))
