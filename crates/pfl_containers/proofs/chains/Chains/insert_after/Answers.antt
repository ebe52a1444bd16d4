use Rattle.std.proofs.Common.{◌∙◌, arith}
use Rattle.pfl_containers.proofs.RingNodes.{fits-node, fits-slot, fits-sized}
use Rattle.pfl_containers.proofs.Views.{list-within, has-room, gap-slot, gap-after, gap-next, gap-apart, gap-filled, taken-fresh}
use Rattle.pfl_containers.proofs.chains.Chains.insert_after.Goals as goal

pub take_slot-slot-requires : goal.take_slot-slot-requires
take_slot-slot-requires g c = record { room = (has-room _ _ _ _ _ c.self.invariant.0 _ c.self.view_is c.requires.room, c.self.invariant.1) }

pub overflow_add-head-2 : goal.overflow_add-head-2
overflow_add-head-2 g c =
    let kept = c.self.invariant.0 in
    omega (arith, kept.small, list-within _ _ _ _ _ kept _ c.self.view_is c.args.list c.requires.list)

pub overflow_cast-list : goal.overflow_cast-list
overflow_cast-list g c =
    let kept = c.self.invariant.0 in
    omega (arith, kept.small, list-within _ _ _ _ _ kept _ c.self.view_is c.args.list c.requires.list)

pub overflow_add-list : goal.overflow_add-list
overflow_add-list g c =
    let kept = c.self.invariant.0 in
    omega (arith, kept.small, list-within _ _ _ _ _ kept _ c.self.view_is c.args.list c.requires.list)

pub insert-requires : goal.insert-requires
insert-requires g c =
    let kept = c.self.invariant.0 in
    let is = c.self.view_is in
    let t = c.take_slot-slot.ensures.taken (has-room _ _ _ _ _ kept _ is c.requires.room) in
    let fits = c.take_slot-slot.ensures.fits _ c.self.invariant.1 in
    let limit = c.take_slot-slot.ensures.limit in
    let next = gap-next _ _ _ _ _ kept _ is _ _ _ _ t _ c.requires.list _ c.requires.gap _ c.unwrap_or-place.ensures in
    record {
      slot = fits-slot _ _ _ _ fits _
          (gap-slot _ _ _ _ _ kept _ is _ _ _ _ t _ c.requires.list _ c.requires.gap _ c.unwrap_or-place.ensures) (omega (arith, t.few));
      after = fits-node _ _ _ _ fits _ _ limit (gap-after _ _ _ _ _ kept _ is _ _ _ _ t _ c.requires.list _ c.requires.gap _ c.unwrap_or-place.ensures);
      next = fits-node _ _ _ _ fits _ _ limit next.0;
      apart = gap-apart _ _ _ _ _ kept _ is _ _ _ _ t _ c.requires.list _ c.requires.gap _ c.unwrap_or-place.ensures;
      loose = next.1;
      small = omega (arith, fits.heads, kept.small);
    }

pub invariant_of-self : goal.invariant_of-self
invariant_of-self g c =
    let kept = c.self.invariant.0 in
    let is = c.self.view_is in
    let t = c.take_slot-slot.ensures.taken (has-room _ _ _ _ _ kept _ is c.requires.room) in
    let limit = c.insert.ensures.sized.limit ∙ c.take_slot-slot.ensures.limit in (
      (gap-filled _ _ _ _ _ kept _ is _ _ _ _ t _ c.requires.list _ c.requires.gap _ c.unwrap_or-place.ensures _ c.insert.ensures.inserted _ limit).0,
      fits-sized _ _ _ _ (c.take_slot-slot.ensures.fits _ c.self.invariant.1) _ c.insert.ensures.sized,
    )

pub returns : goal.returns
returns g c =
    let kept = c.self.invariant.0 in
    let is = c.self.view_is in
    let t = c.take_slot-slot.ensures.taken (has-room _ _ _ _ _ kept _ is c.requires.room) in
    let limit = c.insert.ensures.sized.limit ∙ c.take_slot-slot.ensures.limit in
    record {
      inserted = λ gap. (gap-filled _ _ _ _ _ kept _ is _ _ _ _ t _ c.requires.list _ gap _ c.unwrap_or-place.ensures _ c.insert.ensures.inserted _ limit).1;
      fresh = taken-fresh _ _ _ _ _ kept _ is _ _ _ _ t;
    }
