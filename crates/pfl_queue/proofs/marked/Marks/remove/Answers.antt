use Rattle.std.proofs.Common.{rules, ◌∙◌, ap, sym}
use Rattle.pfl_containers.specs.Lists.{Lists}
use Rattle.pfl_queue.specs.declared.Mark.{Mark}
use Rattle.pfl_queue.specs.inner.Marked.{turn_of}
use Rattle.pfl_queue.proofs.Marking.{name-place, name-tagged, none-less, marked-less, marks-less}
use Rattle.pfl_queue.proofs.marked.Marks.remove.Goals as goal

pub remove-gone-requires : goal.remove-gone-requires
remove-gone-requires g c = record { stands = (name-place c.self.inside.queues c.args.name c.in-Some.slot (sym c.in-Some.is ∙ c.slot_of.ensures.slot)).at }

pub remove-requires : goal.remove-requires
remove-requires g c =
    let place = name-place c.self.inside.queues c.args.name c.in-Some.slot (sym c.in-Some.is ∙ c.slot_of.ensures.slot) in
    record {
      stands = name-tagged c.self.inside.queues c.self.inside.names c.self.inside.order c.self.invariant c.args.name c.in-Some.slot
          place c.tag.result c.tag.ensures.tag;
    }

pub invariant_of-self : goal.invariant_of-self
invariant_of-self g c =
    let place = name-place c.self.inside.queues c.args.name c.in-Some.slot (sym c.in-Some.is ∙ c.slot_of.ensures.slot) in
    marked-less c.self.inside.queues _ c.self.inside.names c.self.inside.order c.self.invariant c.args.name c.in-Some.slot place
    (c.remove-gone.ensures.removed place.at) _ c.remove.ensures.tags c.remove.ensures.limit
    _ c.of.result (c.of.ensures.turn ∙ ap turn_of (c.remove-gone.ensures.value place.at)) c.remove-in-Some.ensures.map c.remove-in-Some.ensures.limit

pub returns-in-Some : goal.returns-in-Some
returns-in-Some g c =
    let place = name-place c.self.inside.queues c.args.name c.in-Some.slot (sym c.in-Some.is ∙ c.slot_of.ensures.slot) in
    record {
      marks = rw (← c.self.view_is)
          (marks-less c.self.inside.queues _ c.self.inside.names c.self.inside.order c.self.invariant c.args.name c.in-Some.slot place
          (c.remove-gone.ensures.removed place.at));
      limit = rw (← c.self.view_is) (ap (λ (d : Lists Mark). d.limit) (c.remove-gone.ensures.removed place.at));
    }

pub returns-in-None : goal.returns-in-None
returns-in-None g c = record {
  marks = rw (← c.self.view_is) (none-less c.self.inside.queues c.args.name (sym c.in-None.is ∙ c.slot_of.ensures.slot));
  limit = search rules;
}
