use Rattle.std.proofs.Common.{◌<◌, length, sym, subst, arith}
use Rattle.std.specs.List.{IsDistinct, insert}
use Rattle.pfl_base.specs.Names.{is_name}
use Rattle.pfl_queue.specs.inner.Asked.{Asked}
use Rattle.pfl_queue.proofs.Asking.{asked-len, asked-more}
use Rattle.pfl_queue.proofs.requests.Requests.insert.Goals as goal

pub insert-requires-2 : goal.insert-requires-2
insert-requires-2 g c =
    let room = subst (λ (r : Asked). length r.listed < r.limit) (sym c.self.view_is) c.requires.room in
    record { room = omega (arith, room, asked-len c.self.inside.listed.items _ c.self.invariant.index) }

pub invariant_of-self : goal.invariant_of-self
invariant_of-self g c =
    let once = subst (λ (r : Asked). IsDistinct is_name (insert r.listed c.args.position c.args.name)) (sym c.self.view_is) c.requires.once in
    let items = rw c.unwrap.ensures at c.insert.ensures.items in
    record {
      index = rw (items, c.insert-2.ensures.map) (asked-more c.self.inside.listed.items c.args.position c.args.name _ c.self.invariant.index once);
      room = omega (arith, c.self.invariant.room, c.insert-2.ensures.limit, c.insert.ensures.capacity);
    }
