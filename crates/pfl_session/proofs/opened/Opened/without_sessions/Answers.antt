use Rattle.std.proofs.Common.{◌≡◌, List, [], ◌∷◌, refl, ap, sym, ◌∙◌, arith}
use Rattle.atomic_table.specs.Seated.{TableId}
use Rattle.pfl_publish.specs.Revisions.{published}
use Rattle.pfl_session.specs.declared.mark.Mark.TheVariants.{Start}
use Rattle.pfl_session.specs.Journals.{revisions_of, counts_of}
use Rattle.pfl_session.proofs.Seatings.{passes-kept}
use Rattle.pfl_session.proofs.Growth.{more_room}
use Rattle.pfl_session.proofs.opened.Opened.without_sessions.Goals as goal

pub revision_of-first-requires : goal.revision_of-first-requires
revision_of-first-requires g c = record { few = more_room 4294967295 8589934592 c.args.timeline (omega arith) c.requires.few }

pub invariant_of-result : goal.invariant_of-result
invariant_of-result g c =
    let none : c.new-3.result.items ≡ [] = c.new-3.ensures.items in
    let made = c.in_ok-publisher.ensures in
    let list : c.in_ok-publisher.writer.list ≡ revisions_of c.args.timeline c.new-3.result.items =
    made.list ∙ ((λ z. published (c.revision_of-first.ensures.words z) (Start c.args.timeline) ∷ []) ∙ ap (revisions_of c.args.timeline) (sym none)) in (
      (c.in_ok-publisher.viewer, refl, made.tables.1, made.seen.0 ∙ list, made.seen.1),
      none,
      made.tables.0,
      list,
      c.new-5.ensures.items ∙ ap (λ (ts : List TableId). counts_of 1 ts c.new-3.result.items) (sym c.new-4.ensures.items),
      passes-kept _ _ [] _ [] _ c.new-4.ensures.items c.new-6.ensures.items tt,
      c.requires.few,
      c.requires.small,
    )
