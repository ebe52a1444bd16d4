use Rattle.std.proofs.Common.{◌≡◌, List, [], ◌∷◌, ◌++◌, length, Some, refl, ap, sym, ◌∙◌, arith}
use Rattle.atomic_table.specs.Seated.{TableId}
use Rattle.pfl_publish.specs.Count.{Count}
use Rattle.pfl_publish.specs.Seats.{Viewer}
use Rattle.pfl_session.specs.declared.mark.Mark.{Mark}
use Rattle.pfl_session.specs.Labs.{Setup}
use Rattle.pfl_session.specs.Passes.{Seen, seen_of}
use Rattle.pfl_session.proofs.Replays.{some_same}
use Rattle.pfl_session.proofs.Seatings.{counts-kept, passes-kept, counts-added, passes-added}
use Rattle.pfl_session.proofs.opened.Opened.add.Goals as goal

pub invariant_of-self : goal.invariant_of-self
invariant_of-self g c =
    let is = c.self.invariant in
    let same = c.in_err-reserve.ensures.items in
    (is.0, is.1, is.2, is.3, counts-kept _ _ _ _ _ same refl is.4, passes-kept _ _ _ _ _ _ same refl is.5, is.6, is.7)

pub invariant_of-self-in_err-reserve-2 : goal.invariant_of-self-in_err-reserve-2
invariant_of-self-in_err-reserve-2 g c =
    let is = c.self.invariant in
    let same = c.in_ok-reserve.ensures.items in
    (is.0, is.1, is.2, is.3, counts-kept _ _ _ _ _ same c.in_err-reserve-2.ensures.items is.4, passes-kept _ _ _ _ _ _ same refl is.5, is.6, is.7)

pub invariant_of-self-in_err-reserve-3 : goal.invariant_of-self-in_err-reserve-3
invariant_of-self-in_err-reserve-3 g c =
    let is = c.self.invariant in
    let same = c.in_ok-reserve.ensures.items in (
      is.0,
      is.1,
      is.2,
      is.3,
      counts-kept _ _ _ _ _ same c.in_ok-reserve-2.ensures.items is.4,
      passes-kept _ _ _ _ _ _ same
          c.in_err-reserve-3.ensures.items is.5,
      is.6,
      is.7,
    )

pub invariant_of-self-in_err-tally : goal.invariant_of-self-in_err-tally
invariant_of-self-in_err-tally g c =
    let is = c.self.invariant in
    let same = c.in_ok-reserve.ensures.items in (
      is.0,
      is.1,
      is.2,
      is.3,
      counts-kept _ _ _ _ _ same c.in_ok-reserve-2.ensures.items is.4,
      passes-kept _ _ _ _ _ _ same
          c.in_ok-reserve-3.ensures.items is.5,
      is.6,
      is.7,
    )

pub invariant_of-pass : goal.invariant_of-pass
invariant_of-pass g c =
    let none = c.in_ok-tally.ensures.counts.1 in
    let next = c.requires.next in
    (c.split-viewer.result.1, c.in_ok-tally.mine, refl, refl, c.split-viewer.ensures.closed.1, omega (arith, none), omega (arith, next))

pub invariant_of-self-2 : goal.invariant_of-self-2
invariant_of-self-2 g c =
    let is = c.self.invariant in
    let made = c.in_ok-tally.ensures in
    let next = c.requires.next in
    let many = ap (λ (s : Setup). length s.tallies) c.self.view_is in
    let tallies : c.push_reserved.new.self.items ≡ c.self.inside.tallies.items ++ c.in_ok-tally.tally ∷ [] =
    c.push_reserved.ensures.items ∙ ap (λ (l : List TableId). l ++ c.in_ok-tally.tally ∷ []) c.in_ok-reserve.ensures.items in
    let halves : c.push_reserved-2.new.self.items ≡ c.self.inside.halves.items ++ c.in_ok-tally.kept ∷ [] =
    c.push_reserved-2.ensures.items ∙ ap (λ (l : List Count). l ++ c.in_ok-tally.kept ∷ []) c.in_ok-reserve-2.ensures.items in
    let new : Seen g.row.A.Denot = seen_of c.args.session (Some c.in_ok-tally.mine) (Some c.split-viewer.result.1) in
    let passes = c.push_reserved-3.ensures.items ∙ ap (λ (l : List (Seen g.row.A.Denot)). l ++ new ∷ []) c.in_ok-reserve-3.ensures.items in
    let viewer : c.in-Some.viewer ≡ is.0.0 = some_same _ _ (sym c.in-Some.is ∙ (c.take.ensures.value ∙ is.0.1)) in
    let table = ap (λ (v : Viewer (Mark g.row.A.Denot)). v.table) viewer ∙ is.0.2 in
    let seen = ap (λ (v : Viewer (Mark g.row.A.Denot)). v.seen) viewer ∙ is.0.3 in
    let split = c.split-viewer.ensures in (
      (c.split-viewer.result.0, refl, split.tables.0 ∙ table, split.seen.0 ∙ seen, split.closed.0),
      is.1,
      is.2,
      is.3,
      counts-added _ _ _ _ _ _ _ is.1 is.4 made.tables.0 made.counts.0 tallies halves,
      passes-added _ _ _ _ _ _ c.in_ok-tally.tally new is.5
          (record {
            session_is = omega (arith, next, many);
            tally_is = made.tables.1;
            publisher_is = split.tables.1 ∙ table;
            seen_is = split.seen.1 ∙ seen;
            called = made.counts.1;
            loaded = split.loads.1;
          }) tallies passes,
      is.6,
      is.7,
    )

pub returns : goal.returns
returns g c =
    let is = c.self.view_is in
    let tallies : c.push_reserved.new.self.items ≡ c.args.self.now.tallies ++ c.in_ok-tally.tally ∷ [] =
    c.push_reserved.ensures.items
    ∙ (ap (λ (l : List TableId). l ++ c.in_ok-tally.tally ∷ []) c.in_ok-reserve.ensures.items ∙ ap (λ (s : Setup). s.tallies ++ c.in_ok-tally.tally ∷ []) is) in
    record {
      added = (
        c.in_ok-tally.tally,
        λ z. record {
          publisher = (is z).publisher;
          tallies = tallies z;
          opening = (is z).opening;
          setup = (is z).setup;
          limit = (is z).limit;
        },
      );
    }
