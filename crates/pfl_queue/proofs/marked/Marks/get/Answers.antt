use Rattle.std.proofs.Common.{sym, ◌∙◌}
use Rattle.pfl_queue.proofs.Marking.{name-place, found-mark, no-name}
use Rattle.pfl_queue.proofs.marked.Marks.get.Goals as goal

pub value-requires : goal.value-requires
value-requires g c = record { stands = (name-place c.self.inside.queues c.args.name c.in-Some.slot (sym c.in-Some.is ∙ c.slot_of.ensures.slot)).at }

pub returns-in-Some : goal.returns-in-Some
returns-in-Some g c =
    let place = name-place c.self.inside.queues c.args.name c.in-Some.slot (sym c.in-Some.is ∙ c.slot_of.ensures.slot) in
    record { found = rw (← c.self.view_is) (found-mark c.self.inside.queues c.args.name c.in-Some.slot place _ (c.value.ensures.value place.at)) }

pub returns-in-None : goal.returns-in-None
returns-in-None g c = record { found = rw (← c.self.view_is) (sym (no-name c.self.inside.queues c.args.name (sym c.in-None.is ∙ c.slot_of.ensures.slot))) }
