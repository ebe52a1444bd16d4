use Rattle.std.proofs.Common.{◌≡◌, take}
use Rattle.pfl_link.proofs.Setting.{by_ticket}
use Rattle.pfl_link.proofs.link.Link.copy_all.Given as goal

abbrev pub invariant-loop-row : goal.invariant-loop-row
invariant-loop-row g l =
    record {
      map : by_ticket l.rows.list ≡ by_ticket (take l.row-index l.self-inside.rows.list);
      limit : l.rows.limit ≡ l.self-inside.limit;
    }
