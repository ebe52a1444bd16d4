use Rattle.std.proofs.Common.{◌≡◌, ◌∙◌, true, ap, arith, sym}
use Rattle.pfl_edits.specs.Maps as maps
use Rattle.pfl_world.specs.table.Tables.{States}
use Rattle.pfl_reasons.specs.Records.{is_named}
use Rattle.pfl_reasons.proofs.Clearing.{count-one, few-cleared}
use Rattle.pfl_reasons.proofs.cleared.count_cleared.Goals as goal

pub overflow_add-count : goal.overflow_add-count
overflow_add-count g c =
    let so = c.loop-row.invariant in
    let named : true ≡ is_named c.args.creator c.args.bound c.in-Some.row.now.state.name = sym c.if-is_cleared.true ∙ c.is_cleared.ensures in
    let one = count-one c.args.creator c.args.bound c.loop-row.row-iterator c.in-Some.row.now _ c.in-Some.ensures.steps true named in
    let few = few-cleared c.args.creator c.args.bound c.args.node.now.states in
    let all : c.len-all.result ≡ maps.len c.args.node.now.states = c.len-all.ensures.states ∙ ap (λ (m : States). maps.len m) c.states-states.ensures.states in
    let within = c.len-all.auto in
    omega arith
