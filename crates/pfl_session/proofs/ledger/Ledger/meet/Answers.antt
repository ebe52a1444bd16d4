use Rattle.std.proofs.Common.{◌≡◌, List, length, refl, ap, sym, subst, ◌∙◌, arith}
use Rattle.pfl_publish.specs.Revisions.{Log, StartsWith}
use Rattle.pfl_publish.specs.Seats.{Writer}
use Rattle.pfl_session.specs.declared.entry.Entry.{Entry}
use Rattle.pfl_session.specs.declared.mark.Mark.{Mark}
use Rattle.pfl_session.proofs.Replays.{some_same, length-history, seen-on}
use Rattle.pfl_session.proofs.ledger.Ledger.meet.Goals as goal

pub invariant_of-pass : goal.invariant_of-pass
invariant_of-pass g c =
    let begun : StartsWith c.meet-writer.result.1.seen c.in-Some-take.viewer.seen =
    subst (λ (l : Log (Mark g.row.A.Denot)). StartsWith l c.in-Some-take.viewer.seen) (sym c.meet-writer.ensures.seen.0) c.meet-writer.ensures.seen.1 in (
      c.meet-writer.result.1,
      c.pass.invariant.1,
      refl,
      c.pass.invariant.3,
      c.meet-writer.ensures.closed,
      seen-on _ _ c.in-Some-take.viewer c.pass.invariant.0 _ (sym c.in-Some-take.is ∙ (c.take-2.ensures.value ∙ c.pass.invariant.2)) begun c.pass.invariant.5,
      c.pass.invariant.6,
    )

pub returns-clause-number : goal.returns-clause-number
returns-clause-number g c =
    let same : c.in-Some.writer ≡ c.self.invariant.0.0 = some_same _ _ (sym c.in-Some.is ∙ (c.take.ensures.value ∙ c.self.invariant.0.1)) in
    omega (
      arith,
      c.meet-writer.ensures.number,
      ap (λ (w : Writer (Mark g.row.A.Denot)). length w.list) same,
      ap (λ (l : Log (Mark g.row.A.Denot)). length l) c.self.invariant.0.3,
      length-history g.J.Which.opening c.self.inside.journal.items,
      ap (λ (l : List (Entry g.row.A.Denot)). length l) c.self.view_is,
    )
