use Rattle.std.proofs.Common.{◌∙◌, ap, sym}
use Rattle.std.proofs.lemmas.Result.{IfErr-weaker, IfOk-weaker}
use Rattle.pfl_timeline.specs.Histories.{reached}
use Rattle.pfl_timeline.specs.Searches.{sought}
use Rattle.pfl_timeline.proofs.Runs.{reached-kept}
use Rattle.pfl_timeline.proofs.Searched.{gives_all}
use Rattle.pfl_timeline.proofs.history.History.search.Goals as goal

pub returns-clause-gives : goal.returns-clause-gives
returns-clause-gives g c =
    let e = c.search_shortest.ensures in
    IfOk-weaker c.search_shortest.result _ _
    (λ s gives. (c.self.inside.world, ap reached (sym c.self.view_is) ∙ reached-kept _ _ _ _ c.self.invariant, gives))
    (gives_all (λ s. s.found) (λ s. s.worlds) (λ s. s.asked) (λ s. s.ended)
    (λ run. run.items) (sought c.args.goal.now c.args.depth c.args.choices.now c.args.most) c.self.inside.world c.search_shortest.result
    e.first e.found e.shortest e.none e.ended e.never e.ends e.worlds e.asked e.within)

pub returns-clause-stopped : goal.returns-clause-stopped
returns-clause-stopped g c =
    IfErr-weaker c.search_shortest.result _ _
    (λ why stop. (c.self.inside.world, ap reached (sym c.self.view_is) ∙ reached-kept _ _ _ _ c.self.invariant, stop)) c.search_shortest.ensures.stopped
