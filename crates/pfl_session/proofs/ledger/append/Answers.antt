use Rattle.std.proofs.Common.{rules, ◌≡◌, ◌+◌, length, ap, ◌∙◌, arith}
use Rattle.pfl_publish.proofs.ForCallers.{loads-once}
use Rattle.pfl_publish.specs.Revisions.{Log}
use Rattle.pfl_session.specs.declared.mark.Mark.{Mark}
use Rattle.pfl_session.proofs.Replays.{extends, length-history}
use Rattle.pfl_session.proofs.ledger.append.Goals as goal

pub publish-requires-clause-number : goal.publish-requires-clause-number
publish-requires-clause-number g c =
    let count : c.len.result ≡ length c.args.journal.now.items = search rules in
    omega (
      arith,
      c.revision_of-revision.ensures.number,
      count,
      ap
          (λ (l : Log (Mark g.row.A.Denot)). length l) c.requires.list,
      length-history g.J.Which.opening c.args.journal.now.items,
    )

pub returns-clause-list : goal.returns-clause-list
returns-clause-list g c =
    let count : c.len.result ≡ length c.args.journal.now.items = search rules in
    let number : c.len.result + 1 ≡ length c.args.journal.now.items + 1 = omega (arith, count) in
    c.meet-writer.ensures.list
    ∙ extends g.J.Which.opening c.args.timeline.now c.args.journal.now.items c.push_reserved.new.self.items c.args.entry _ _
    c.args.writer.list c.publish.new.writer.list c.requires.list c.requires.executed c.revision_of-revision.ensures.words number
    c.publish.ensures.list c.push_reserved.ensures.items

pub returns-clause-loads : goal.returns-clause-loads
returns-clause-loads g c = loads-once c.args.viewer c.meet-writer.result.1 c.meet-writer.ensures.loaded
