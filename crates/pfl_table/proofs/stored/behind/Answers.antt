use Rattle.std.proofs.Common.{◌∙◌}
use Rattle.pfl_containers.specs.Lists.{links_of}
use Rattle.pfl_table.proofs.Listed.{find-listed, some_row, no_row, next-at, last-gap}
use Rattle.pfl_table.proofs.stored.behind.Goals as goal

pub previous-requires : goal.previous-requires
previous-requires g c =
    let rows = c.args.rows.now in
    let found = c.after.ensures.next
    ∙ find-listed c.args.order.now.list (links_of rows 0) c.known.ensures.entries.sorted c.requires.order c.requires.rising c.args.name in
    let first = some_row _ _ _ found c.in-Some.is in
    record { stands = (next-at rows c.args.name c.requires.one c.requires.rising c.requires.new first.row c.in-Some.next first.is first.slot).at }

pub returns-in-Some : goal.returns-in-Some
returns-in-Some g c =
    let rows = c.args.rows.now in
    let found = c.after.ensures.next
    ∙ find-listed c.args.order.now.list (links_of rows 0) c.known.ensures.entries.sorted c.requires.order c.requires.rising c.args.name in
    let first = some_row _ _ _ found c.in-Some.is in
    let next = next-at rows c.args.name c.requires.one c.requires.rising c.requires.new first.row c.in-Some.next first.is first.slot in
    record { gap = next.gap c.previous.result (c.previous.ensures.previous next.at) }

pub returns-in-None : goal.returns-in-None
returns-in-None g c =
    let rows = c.args.rows.now in
    let found = c.after.ensures.next
    ∙ find-listed c.args.order.now.list (links_of rows 0) c.known.ensures.entries.sorted c.requires.order c.requires.rising c.args.name in
    record { gap = last-gap rows c.args.name c.requires.one c.requires.rising c.requires.new (no_row _ _ found c.in-None.is) c.last.result c.last.ensures.last }
