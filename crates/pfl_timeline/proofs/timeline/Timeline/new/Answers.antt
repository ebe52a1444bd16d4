use Rattle.std.proofs.Common.{◌∙◌, ap}
use Rattle.indexmap.specs.IndexMap.{insert_entry}
use Rattle.pfl_language.specs.BranchWords.{same_name}
use Rattle.pfl_timeline.proofs.Places.{Entries, kept-first}
use Rattle.pfl_timeline.proofs.timeline.Timeline.new.Goals as goal

pub unwrap-requires : goal.unwrap-requires
unwrap-requires g c = c.insert.ensures.succeeds c.in_ok-branches.ensures.spare

pub invariant_of-result : goal.invariant_of-result
invariant_of-result g c =
    kept-first c.args.world c.in_ok-main.main _ _ c.known.ensures.world c.main-name.ensures
    c.in_ok-main.ensures.branch
    ((rw c.unwrap.ensures at c.insert.ensures.entries)
    ∙ ap (λ (es : Entries). insert_entry same_name es c.main-name.result c.in_ok-main.main) c.in_ok-branches.ensures.empty)
