use Rattle.std.proofs.Common.{subst}
use Rattle.pfl_containers.specs.Slots.{Tags, HasTag}
use Rattle.pfl_containers.specs.inner.SlotWords.{StandsAt}
use Rattle.pfl_containers.proofs.SlotEntries.{has-tag, finds}
use Rattle.pfl_containers.proofs.slots.SlotIndex.find.Goals as goal

pub find_in-requires-clause-callable : goal.find_in-requires-clause-callable
find_in-requires-clause-callable g c = λ place slot stands.
    let here = subst (λ words. StandsAt words c.args.tag slot place) c.deref.ensures.value stands in
    c.requires.callable slot (subst (λ (t : Tags). HasTag t.tags c.args.tag slot) c.self.view_is
    (has-tag c.self.inside.words.items c.self.invariant.0.sound place slot c.args.tag here))

pub returns : goal.returns
returns g c =
    let gives = rw (c.deref.ensures.value, c.home_of.ensures.home) at c.find_in.ensures.found in
    rw (← c.self.view_is) (record {
      found = finds c.self.inside.words.items c.self.invariant.0.sound
          (goal.F-post g c.args.is_it) c.args.tag c.find_in.result gives;
    })
