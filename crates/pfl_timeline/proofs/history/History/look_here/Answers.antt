use Rattle.std.specs.Prelude.{refl}
use Rattle.std.proofs.Common.{◌∙◌, arith}
use Rattle.pfl_timeline.proofs.Looking.{seen-here}
use Rattle.pfl_timeline.proofs.Runs.{kept_as, history_as}
use Rattle.pfl_timeline.proofs.history.History.look_here.Goals as goal

pub invariant_of-self : goal.invariant_of-self
invariant_of-self g c =
    let h = c.self.inside in
    kept_as h.world _ h.events h.events h.tape.list h.tape.list h.marks.items h.marks.items c.look.ensures.still refl refl refl c.self.invariant

pub returns-clause-unchanged : goal.returns-clause-unchanged
returns-clause-unchanged g c =
    let h = c.self.inside in
    history_as h.world _ h.events h.events h.tape.list h.tape.list h.marks.items h.marks.items c.look.ensures.still refl refl refl ∙ c.self.view_is

pub returns-clause-seen : goal.returns-clause-seen
returns-clause-seen g c =
    let h = c.self.inside in
    seen-here h.world h.events h.tape.list h.marks.items c.self.invariant c.args.self.now c.self.view_is _ _ _ _ _ _ _
    c.len.ensures.length (omega (arith, c.len-2.ensures, h.marks.ok.0)) c.look.ensures.sees
