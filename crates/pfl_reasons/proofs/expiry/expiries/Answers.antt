use Rattle.std.proofs.Common.{◌++◌, ◌∙◌, ap}
use Rattle.pfl_edits.specs.Maps as maps
use Rattle.pfl_table.specs.Tables.{States}
use Rattle.pfl_reasons.proofs.Expiring.{all-listed, listed-reckoned, rows_expiries}
use Rattle.pfl_reasons.proofs.expiry.expiries.Goals as goal

pub loop-row-init : goal.loop-row-init
loop-row-init g c =
    let n = c.args.node.now in
    let rows = c.iter-rows.result in
    record {
      listed = ap (λ es. es ++ rows_expiries c.len-states.result n rows) c.in_ok-list.ensures.items;
      reckoned = listed-reckoned n rows c.known.ensures.parts (c.iter-rows.ensures.states ∙ ap (λ (m : States). maps.values m) c.states-2.ensures.states);
    }

pub returns : goal.returns
returns g c =
    let n = c.args.node.now in
    let states = c.iter-rows.ensures.states ∙ ap (λ (m : States). maps.values m) c.states-2.ensures.states in
    let many = c.len-states.ensures.states ∙ ap (λ (m : States). maps.len m) c.states.ensures.states in
    all-listed n c.len-states.result c.loop-row.list.items c.iter-rows.result c.loop-row.rows many states c.in_default.ensures.steps.0
    c.loop-row.invariant.listed
