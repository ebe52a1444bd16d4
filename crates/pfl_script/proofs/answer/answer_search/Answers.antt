use Rattle.std.proofs.lemmas.Result.{IfErr-weaker}
use Rattle.pfl_timeline.specs.Searches.{sought}
use Rattle.pfl_script.proofs.Wanting.{run-there}
use Rattle.pfl_script.proofs.answer.answer_search.Goals as goal

-- a run is found from a branch that is there
pub returns-clause-memory : goal.returns-clause-memory
returns-clause-memory g c =
    let s = c.args.search.now in
    IfErr-weaker c.write_finding.result _ _ (λ _ memory none. run-there c.args.timeline.now s.branch
    (sought s.goal s.depth c.as_slice-choices.result.now s.most) _ c.in-Ok.ensures.finding (memory none))
    c.write_finding.ensures.memory
