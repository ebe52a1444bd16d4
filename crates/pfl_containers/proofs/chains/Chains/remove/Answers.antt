use Rattle.std.proofs.Common.{arith, ◌∙◌, refl}
use Rattle.std.proofs.lemmas.Option.{get_or_from_slice_get}
use Rattle.pfl_containers.proofs.RingNodes.{fits-node, fits-slot, fits-head, fits-sized}
use Rattle.pfl_containers.proofs.Views.{place-below, place-near, place-counted, place-loose, place-dropped, place-there, place-ring_of}
use Rattle.pfl_containers.proofs.chains.Chains.remove.Goals as goal

pub unlink-requires : goal.unlink-requires
unlink-requires g c =
    let kept = c.self.invariant.0 in
    let fits = c.self.invariant.1 in
    let near = place-near _ _ _ _ _ kept _ c.self.view_is _ c.requires.stands in
    record {
      slot = fits-slot _ _ _ _ fits _ near.slot kept.few;
      previous = fits-node _ _ _ _ fits _ _ refl near.previous;
      next = fits-node _ _ _ _ fits _ _ refl near.next;
    }

pub insert-requires : goal.insert-requires
insert-requires g c =
    let kept = c.self.invariant.0 in
    let sized = c.unlink.ensures.sized in
    let fits = fits-sized _ _ _ _ c.self.invariant.1 _ sized in
    let below = place-below _ _ _ _ _ kept _ c.self.view_is _ c.requires.stands in
    let loose = place-loose _ _ _ _ _ kept _ c.self.view_is _ c.requires.stands _ c.unlink.ensures.unlinked in
    record {
      slot = fits-slot _ _ _ _ fits _ below (omega (arith, kept.few, sized.limit));
      after = fits-head _ _ _ _ fits 0 _ (omega arith) (omega (arith, sized.limit));
      next = fits-node _ _ _ _ fits _ _ sized.limit loose.0;
      apart = λ e. absurd (omega (arith, kept.few, below));
      loose = loose.1;
      small = omega (arith, kept.small, fits.heads, sized.limit);
    }

pub overflow_sub-self : goal.overflow_sub-self
overflow_sub-self g c = place-counted _ _ _ _ _ c.self.invariant.0 _ c.self.view_is _ c.requires.stands

pub index-requires : goal.index-requires
index-requires g c =
    let below = place-below _ _ _ _ _ c.self.invariant.0 _ c.self.view_is _ c.requires.stands in
    omega arith

pub invariant_of-self : goal.invariant_of-self
invariant_of-self g c =
    let limit = c.insert.ensures.sized.limit ∙ c.unlink.ensures.sized.limit in (
      (place-dropped _ _ _ _ _ c.self.invariant.0 _ c.self.view_is _ c.requires.stands _ _ c.unlink.ensures.unlinked c.insert.ensures.inserted _ limit).0,
      fits-sized _ _ _ _ (fits-sized _ _ _ _ c.self.invariant.1 _ c.unlink.ensures.sized) _ c.insert.ensures.sized,
    )

pub returns : goal.returns
returns g c =
    let kept = c.self.invariant.0 in
    let is = c.self.view_is in
    let unlinked = c.unlink.ensures.unlinked in
    let inserted = c.insert.ensures.inserted in
    let limit = c.insert.ensures.sized.limit ∙ c.unlink.ensures.sized.limit in
    let less = place-dropped _ _ _ _ _ kept _ is _ c.requires.stands _ _ unlinked inserted _ limit in
    record {
      removed = λ at. (place-dropped _ _ _ _ _ kept _ is _ at _ _ unlinked inserted _ limit).1;
      value = λ at. c.index.ensures ∙ get_or_from_slice_get c.self.inside.values.items c.args.slot at.value c.index.result.now
          (place-there _ _ _ _ _ kept _ is _ at);
      freed = λ at. absurd (omega (arith, inserted.ring_here, place-ring_of _ _ _ _ _ less.0 _ refl _ at));
    }
