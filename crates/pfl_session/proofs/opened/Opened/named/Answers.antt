use Rattle.std.proofs.Common.{◌≡◌, ◌+◌, List, [], length, refl, ap, sym, subst, ◌∙◌, arith}
use Rattle.std.specs.List.{AllByRecursion}
use Rattle.atomic_table.specs.Seated.{TableId}
use Rattle.pfl_timeline.specs.Timelines.{Timeline}
use Rattle.pfl_session.specs.Journals.{IsJournal, replay, revisions_of, counts_of}
use Rattle.pfl_session.specs.Labs.{Setup}
use Rattle.pfl_session.specs.Passes.{IsPassOf}
use Rattle.pfl_session.proofs.Growth.{more_room}
use Rattle.pfl_session.proofs.Seatings.{passes-of}
use Rattle.pfl_session.proofs.opened.Opened.named.Goals as goal

pub invariant_of-ledger : goal.invariant_of-ledger
invariant_of-ledger g c =
    let is = c.self.invariant in
    let js = c.self.inside.journal.items in
    let none : js ≡ [] = is.1 in
    let publisher : c.self.inside.publisher ≡ g.J.Which.publisher = ap (λ (s : Setup). s.publisher) c.self.view_is ∙ c.requires.tables.0 in
    let tallies : c.self.inside.tallies.items ≡ g.J.Which.tallies = ap (λ (s : Setup). s.tallies) c.self.view_is ∙ c.requires.tables.1 in
    let opening : c.self.inside.timeline ≡ g.J.Which.opening = ap (λ (s : Setup). s.opening) c.self.view_is ∙ c.requires.opening.0 in
    let limit : c.self.inside.limit ≡ g.J.Which.limit = ap (λ (s : Setup). s.limit) c.self.view_is ∙ c.requires.opening.2 in
    let small = is.7 in (
      (c.self.inside.writer, refl, is.2 ∙ publisher, is.3 ∙ ap (λ (t : Timeline). revisions_of t js) opening),
      is.4 ∙ ap (λ (ts : List TableId). counts_of 1 ts js) tallies,
      record {
        journal = subst (IsJournal g.J.Which.opening (length g.J.Which.tallies) g.J.Which.limit) (sym none)
            (record { legal = tt; sessions = tt; short = omega arith });
        timeline_is = opening ∙ sym (ap (replay g.J.Which.opening) none);
        few = more_room 4294967295 (length js + 4294967295) c.self.inside.timeline (omega arith) is.6;
        bound_is = limit;
        small = omega (arith, limit, small);
      },
    )

pub returns-clause-lab : goal.returns-clause-lab
returns-clause-lab g c =
    let ps = c.self.inside.passes.items in
    let publisher : c.self.inside.publisher ≡ g.J.Which.publisher = ap (λ (s : Setup). s.publisher) c.self.view_is ∙ c.requires.tables.0 in
    let tallies : c.self.inside.tallies.items ≡ g.J.Which.tallies = ap (λ (s : Setup). s.tallies) c.self.view_is ∙ c.requires.tables.1 in
    subst (λ (ts : List TableId). AllByRecursion (IsPassOf g.J.Which.publisher ts) ps) tallies
    (subst (λ (p : TableId). AllByRecursion (IsPassOf p c.self.inside.tallies.items) ps) publisher
    (passes-of c.self.inside.publisher _ c.self.inside.tallies.items ps c.self.invariant.5))
