use Rattle.std.proofs.Common.{◌∙◌, ap, subst, sym}
use Rattle.std.proofs.lemmas.Result.{IfOk-weaker}
use Rattle.std.specs.Option.{option_map}
use Rattle.pfl_timeline.specs.Histories.{reached}
use Rattle.pfl_timeline.specs.Rooted.{Rooted, shown}
use Rattle.pfl_timeline.specs.Searches.{Finding, IsAnswer, found_by, sought}
use Rattle.pfl_timeline.proofs.Results.{if_ok, as_ok}
use Rattle.pfl_timeline.proofs.Searched.{answered, meant, stopped_at}
use Rattle.pfl_timeline.proofs.branch.Branch.search.Goals as goal
use Rattle.pfl_timeline.proofs.branch.Branch.search.Goals.{in-Ok, in-Err}

pub returns-clause-finding : goal.returns-clause-finding
returns-clause-finding g c =
    let s = sought c.args.goal.now c.args.depth c.args.choices.now c.args.most in
    let b = c.args.self.now.branch in
    let seen = ap shown (sym c.self.view_is) ∙ ap reached (sym c.deref_mut.ensures.value) in
    elim c.match-search.branch [
      | in-Ok w ↦
          let e = w.in-Ok.ensures.gives in
          if_ok _ _ _ w.result-is (
            e.0,
            seen ∙ e.1,
            w.found.ensures
                ∙ ap (λ n. found_by n c.args.depth w.in-Ok.searched.worlds w.in-Ok.searched.asked w.in-Ok.searched.ended (option_map (λ run. run.items) w.in-Ok.searched.found))
                (ap (λ (r : Rooted). r.branch.name) c.self.view_is)
                ∙ answered (λ run. run.items) s b e.0 w.in-Ok.searched.found _ _ _ e.2,
          )
      | in-Err w ↦
          let e = w.in-Err.ensures.stopped in
          as_ok _ w.stopped.result _ w.result-is
          (IfOk-weaker w.stopped.result _ _ (λ f h. (e.0, seen ∙ e.1, h.1 ∙ stopped_at s b e.0 w.in-Err.why e.2 h.0)) w.stopped.ensures.gave_up)
    ]

pub returns-clause-means : goal.returns-clause-means
returns-clause-means g c =
    let s = sought c.args.goal.now c.args.depth c.args.choices.now c.args.most in
    let b = c.args.self.now.branch in
    let seen = ap shown (sym c.self.view_is) ∙ ap reached (sym c.deref_mut.ensures.value) in
    elim c.match-search.branch [
      | in-Ok w ↦
          let e = w.in-Ok.ensures.gives in
          let is = w.found.ensures
          ∙ ap (λ n. found_by n c.args.depth w.in-Ok.searched.worlds w.in-Ok.searched.asked w.in-Ok.searched.ended (option_map (λ run. run.items) w.in-Ok.searched.found))
          (ap (λ (r : Rooted). r.branch.name) c.self.view_is) in
          if_ok _ _ _ w.result-is (
            e.0,
            seen ∙ e.1,
            subst (λ (f : Finding). IsAnswer s e.0 f) (sym is) (meant (λ run. run.items) s b e.0 w.in-Ok.searched.found _ _ _ e.2),
          )
      | in-Err w ↦
          let e = w.in-Err.ensures.stopped in
          as_ok _ w.stopped.result _ w.result-is
          (IfOk-weaker w.stopped.result _ _ (λ f h. (e.0, seen ∙ e.1, subst (λ (x : Finding). IsAnswer s e.0 x) (sym h.1) tt)) w.stopped.ensures.gave_up)
    ]
