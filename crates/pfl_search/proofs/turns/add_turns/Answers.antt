use Rattle.std.specs.Prelude.{◌≡◌, ◌++◌, List, OnOk}
use Rattle.std.proofs.Common.{◌∙◌, ap, subst}
use Rattle.pfl_edits.specs.Maps as maps
use Rattle.pfl_link.specs.Links.{Link}
use Rattle.pfl_search.proofs.Turning.{frame_turns}
use Rattle.pfl_search.specs.Visits.{in_turn}
use Rattle.pfl_search.specs.declared.turns.Candidate.{Candidate}
use Rattle.pfl_search.proofs.turns.add_turns.Goals as goal

pub returns-in-AnyFrame : goal.returns-in-AnyFrame
returns-in-AnyFrame g c =
    let all = c.frames-frames.ensures.frames ∙ ap (λ (l : Link). maps.entries l.frames) c.link.ensures.link in
    subst (λ (ts : List Candidate). OnOk c.add_frames.result (c.add_frames.new.turns.items ≡ c.args.turns.now.items ++ in_turn c.args.last c.args.begun c.args.world.now ts))
    (frame_turns c.args.place c.args.phase c.args.world.now c.in-AnyFrame.event c.args.what.now c.frames-frames.result c.in-AnyFrame.is all) c.add_frames.ensures
