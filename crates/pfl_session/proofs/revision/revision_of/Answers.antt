use Rattle.std.proofs.Common.{[], ◌∷◌, List, length, ◌∙◌, ap, arith}
use Rattle.std.proofs.lemmas.List.{length-map}
use Rattle.pfl_timeline.specs.Rooted.{Rooted}
use Rattle.pfl_timeline.specs.Timelines.{Branch}
use Rattle.pfl_session.specs.declared.counts.Counts.{Counts}
use Rattle.pfl_session.proofs.Sums.{few-rooted, summary-is}
use Rattle.pfl_session.proofs.revision.revision_of.Goals as goal

pub of_branches-counts-requires-clause-few : goal.of_branches-counts-requires-clause-few
of_branches-counts-requires-clause-few g c = few-rooted _ _ _ c.branches-branches.ensures.branches c.requires.few

pub of_branches-counts-requires-clause-short : goal.of_branches-counts-requires-clause-short
of_branches-counts-requires-clause-short g c =
    let few = c.known.ensures.timeline.few in
    omega (
      arith,
      few,
      ap (λ (bs : List Branch). length bs) c.branches-branches.ensures.branches,
      length-map c.branches-branches.result.now
          (λ (r : Rooted). r.branch),
    )

pub returns-clause-words : goal.returns-clause-words
returns-clause-words g c =
    ap (λ (s : Counts). c.args.number ∷ length c.branches-branches.result.now ∷ s.events ∷ s.cursors ∷ s.states_a ∷ s.states_b ∷ s.frames
    ∷ s.pending ∷ []) c.of_branches-counts.ensures
    ∙ summary-is _ _ c.branches-branches.ensures.branches c.branches-branches.ensures.openings c.args.number
