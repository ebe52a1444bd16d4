use Rattle.std.proofs.Common.{List, sym, subst}
use Rattle.pfl_defer.specs.declared.Held.{Held}
use Rattle.pfl_defer.specs.Deferring.{IsDeferrals}
use Rattle.pfl_defer.proofs.Kept.{no_deferrals-keeps}
use Rattle.pfl_defer.proofs.deferrals.Deferrals.new.Goals as goal

pub invariant_of-result : goal.invariant_of-result
invariant_of-result g c = (
  c.in_ok-list.ensures.capacity,
  subst (λ (hs : List Held). IsDeferrals (record { limit = c.args.limit; list = hs })) (sym c.in_ok-list.ensures.items) (no_deferrals-keeps c.args.limit),
)
