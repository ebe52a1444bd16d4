use Rattle.std.proofs.Common.{◌∙◌, ap}
use Rattle.pfl_desk.specs.inner.Kept.{timeout_by}
use Rattle.pfl_desk.specs.Nodes.{Node}
use Rattle.pfl_desk.proofs.parts.Parts.states.Goals as goal

pub returns-clause-timeouts : goal.returns-clause-timeouts
returns-clause-timeouts g c = λ name row at. c.self.invariant.0.timeouts name row at ∙ ap (λ (n : Node). timeout_by n.rules row.state) c.self.view_is
