use Rattle.std.proofs.Common.{refl}
use Rattle.pfl_containers.specs.declared.order.node.TheConstants.{NO_PLACE}
use Rattle.pfl_containers.proofs.Filling.{as_former, gains_new, gains_known}
use Rattle.pfl_containers.proofs.order.arena.Arena.insert.Goals as goal

pub returns-in-Some : goal.returns-in-Some
returns-in-Some g c =
    record {
      gains = gains_known g.met.K.Ordered.total c.args.self.now c.take_place-place.new.self c.take_place-place.result
          (record { key = c.args.key; value = c.args.value; left = NO_PLACE; right = NO_PLACE; height = 1 }) c.take_place-place.ensures.takes
          refl refl c.in-Some.value
          (record { key = c.args.key; value = c.args.value; left = NO_PLACE; right = c.take_place-place.new.self.free; height = 1 }) _
          (as_former c.in-Some.is (rw c.deref_mut.ensures.value at c.inserted-link.ensures.inserts))
          (rw (← c.deref_mut-in-Some.ensures.value) c.put.ensures.put) refl refl;
    }

pub returns-in-None : goal.returns-in-None
returns-in-None g c =
    record {
      gains = gains_new g.met.K.Ordered.total c.args.self.now c.take_place-place.new.self c.take_place-place.result
          (record { key = c.args.key; value = c.args.value; left = NO_PLACE; right = NO_PLACE; height = 1 }) c.take_place-place.ensures.takes
          refl refl (as_former c.in-None.is (rw c.deref_mut.ensures.value at c.inserted-link.ensures.inserts));
    }
