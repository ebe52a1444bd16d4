use Rattle.std.proofs.Common.{◌∙◌, ap}
use Rattle.pfl_table.specs.Tables.{states_of}
use Rattle.pfl_world.specs.desk.Nodes.{Node}
use Rattle.pfl_search.proofs.Compared.{differing-rows}
use Rattle.pfl_search.proofs.differing.are_differing.Goals as goal

pub returns : goal.returns
returns g c =
    c.any_differs.ensures
    ∙ differing-rows c.args.world.now (states_of c.states.result.now) (states_of c.states-2.result.now) c.iter-rows.result c.iter-rows.ensures.states
    (c.states.ensures.states ∙ ap (λ (n : Node). n.states) (c.parts.ensures.parts ∙ c.node.ensures.node))
    (c.states-2.ensures.states ∙ ap (λ (n : Node). n.states) (c.parts-2.ensures.parts ∙ c.node-2.ensures.node))
