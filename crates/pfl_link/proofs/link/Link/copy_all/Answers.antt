use Rattle.std.proofs.Common.{◌≡◌, ◌<◌, length, get_or, ◌∙◌, ap, arith}
use Rattle.std.proofs.lemmas.List.{take_all}
use Rattle.pfl_link.proofs.Setting.{by_ticket}
use Rattle.pfl_link.proofs.Copied.{row_more, room_more, same_link, same_kept}
use Rattle.pfl_link.proofs.link.Link.copy_all.Goals as goal

pub set-requires-clause-room : goal.set-requires-clause-room
set-requires-clause-room g c =
    let rows = c.self.inside.rows in
    let listed = c.as_slice-row-items.ensures.rows in
    let i = c.loop-row.row-index in
    let row = c.row-item.result in
    let within : i < length rows.list = omega (arith, ap length listed) in
    let is : row ≡ get_or rows.list i row = c.row-item.is ∙ ap (λ xs. get_or xs i row) listed in
    rw (c.loop-row.invariant.map, c.ticket.ensures.ticket, c.in_ok-copy.ensures.same, c.loop-row.invariant.limit, ← c.self.invariant.room)
    (room_more rows c.as_slice-row-items.ensures.ordered i within row is)

pub loop-row-preserved : goal.loop-row-preserved
loop-row-preserved g c =
    let rows = c.self.inside.rows in
    let listed = c.as_slice-row-items.ensures.rows in
    let i = c.loop-row.row-index in
    let row = c.row-item.result in
    let within : i < length rows.list = omega (arith, ap length listed) in
    let is : row ≡ get_or rows.list i row = c.row-item.is ∙ ap (λ xs. get_or xs i row) listed in
    record {
      map = rw (
        row_more rows c.as_slice-row-items.ensures.ordered i within row is,
        c.set.ensures.map,
        c.loop-row.invariant.map,
        c.ticket.ensures.ticket,
        c.in_ok-copy.ensures.same,
      );
      limit = c.set.ensures.limit ∙ c.loop-row.invariant.limit;
    }

pub invariant_of-result : goal.invariant_of-result
invariant_of-result g c =
    let rows = c.self.inside.rows in
    let all = take_all c.loop-row.row-index rows.list (omega (arith, ap length c.as_slice-row-items.ensures.rows)) in
    same_kept _ _ _ rows c.loop-row.rows (c.loop-row.invariant.map ∙ ap by_ticket all) c.loop-row.invariant.limit c.self.invariant

pub returns : goal.returns
returns g c =
    let rows = c.self.inside.rows in
    let all = take_all c.loop-row.row-index rows.list (omega (arith, ap length c.as_slice-row-items.ensures.rows)) in
    rw (← c.self.view_is) (record { same = same_link _ _ _ rows c.loop-row.rows (c.loop-row.invariant.map ∙ ap by_ticket all) })
