use Rattle.std.proofs.Common.{◌≤◌, length, sym, subst}
use Rattle.pfl_link.specs.Links.{InFlight}
use Rattle.pfl_link.proofs.link.Link.copy.Goals as goal

pub add-requires-clause-short : goal.add-requires-clause-short
add-requires-clause-short g c =
    let short = c.known.ensures.link.short c.args.ticket _ (sym c.in-Some.ensures.frame) in
    subst (λ (f : InFlight). length f.bytes ≤ c.args.self.now.mtu) (sym c.in_ok-copied.ensures.same) short
