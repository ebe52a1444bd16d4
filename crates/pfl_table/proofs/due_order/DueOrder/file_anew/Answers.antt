use Rattle.std.proofs.Common.{◌++◌}
use Rattle.pfl_containers.specs.Lists.{link}
use Rattle.pfl_table.proofs.Dues.{dues-few, dues-gained, dues-lost, dues-room}
use Rattle.pfl_table.proofs.due_order.DueOrder.file_anew.Goals as goal

pub insert-requires-clause-room : goal.insert-requires-clause-room
insert-requires-clause-room g c =
    let may = c.requires.filed in
    let less = dues-lost may.limit may.front may.back c.args.slot c.args.was.now _ _ may.are c.remove.ensures.unfiles in
    dues-room may.limit (may.front ++ may.back) _ less
    (dues-few may.limit may.front may.back (link c.args.slot c.args.was.now) _ may.are c.known.ensures.entries)

pub returns-clause-moves : goal.returns-clause-moves
returns-clause-moves g c limit front back are below lacks same none =
    dues-gained limit front back c.args.slot c.args.row.now _ _
    (dues-lost limit front back c.args.slot c.args.was.now _ _ are c.remove.ensures.unfiles) lacks none c.insert.ensures.files
