use Rattle.std.proofs.Common.{◌≡◌, ◌+◌, ◌-◌, ℕ, List, Some, refl, ap, sym, ◌∙◌, arith}
use Rattle.std.specs.Prelude.{slice_get}
use Rattle.pfl_publish.specs.Count.{Count}
use Rattle.pfl_session.specs.Journals.{count_of}
use Rattle.pfl_session.specs.Passes.{Seen, half_in}
use Rattle.pfl_session.proofs.Replays.{some_same, counts-get, set-same}
use Rattle.pfl_session.proofs.ledger.Ledger.compare.Goals as goal

pub compare_one-mine-requires-clause-kept : goal.compare_one-mine-requires-clause-kept
compare_one-mine-requires-clause-kept g c =
    let named : c.pass.inside.session ≡ c.args.pass.now.session = ap (λ (s : Seen g.row.A.Denot). s.session) c.pass.view_is in
    let there : slice_get g.J.Which.tallies (c.pass.inside.session - 1) ≡ Some c.args.tally.now =
    ap (λ (n : ℕ). slice_get g.J.Which.tallies (n - 1)) named ∙ c.requires.place in (
      record { table = c.args.tally.now; count = count_of (1 + (c.pass.inside.session - 1)) c.self.inside.journal.items },
      ap (λ (l : List Count). slice_get l (c.pass.inside.session - 1)) c.self.invariant.1
          ∙ counts-get 1 (c.pass.inside.session - 1) g.J.Which.tallies c.self.inside.journal.items c.args.tally.now there,
      refl,
    )

pub invariant_of-self : goal.invariant_of-self
invariant_of-self g c = (
  c.self.invariant.0,
  c.compare_one-mine.ensures.kept
      ∙ (set-same _ _ _ c.compare_one-mine.ensures.same ∙ c.self.invariant.1),
  c.self.invariant.2,
)

pub returns-clause-counted : goal.returns-clause-counted
returns-clause-counted g c =
    let named : c.pass.inside.session ≡ c.args.pass.now.session = ap (λ (s : Seen g.row.A.Denot). s.session) c.pass.view_is in
    let there : slice_get g.J.Which.tallies (c.pass.inside.session - 1) ≡ Some c.args.tally.now =
    ap (λ (n : ℕ). slice_get g.J.Which.tallies (n - 1)) named ∙ c.requires.place in
    let had = counts-get 1 (c.pass.inside.session - 1) g.J.Which.tallies c.self.inside.journal.items c.args.tally.now there in
    let mine : c.in-Some.mine ≡ record { table = c.args.tally.now; count = count_of (1 + (c.pass.inside.session - 1)) c.self.inside.journal.items } =
    some_same _ _ (sym c.compare_one-mine.ensures.same ∙ (ap (λ (l : List Count). slice_get l (c.pass.inside.session - 1)) c.self.invariant.1 ∙ had)) in
    let half_is : c.in-Some.mine ≡ c.args.pass.now.half = ap half_in (sym c.in-Some.is ∙ c.take.ensures.value)
    ∙ ap (λ (s : Seen g.row.A.Denot). s.half) c.pass.view_is in
    let first = c.pass.invariant.6 in
    let place : 1 + (c.pass.inside.session - 1) ≡ c.args.pass.now.session = omega (arith, first, named) in
    ap (λ (h : Count). h.count) (sym half_is ∙ mine) ∙ (λ z. count_of (place z) (c.self.view_is z))
