use Rattle.std.proofs.Common.{◌≡◌, ◌<◌, None, length, ap, refl, sym, subst, arith}
use Rattle.pfl_edits.specs.Maps as maps
use Rattle.pfl_containers.specs.Lists.{Lists}
use Rattle.pfl_base.proofs.ForCallers.{names_total, names_exact}
use Rattle.pfl_containers.proofs.ForCallers.{index-room, tagged-room}
use Rattle.pfl_queue.specs.declared.Mark.{Mark}
use Rattle.pfl_queue.specs.inner.Marked.{marks_of, all_links, mark_name, name_tag, turn_of, turn_total, turn_exact, IsNew}
use Rattle.pfl_queue.specs.Taking.{kind_place}
use Rattle.pfl_queue.proofs.Joined.{count-all}
use Rattle.pfl_queue.proofs.Marking.{len-marks, new-number, fresh-untagged, marked-more, marks-more, kind-within}
use Rattle.pfl_queue.proofs.marked.Marks.insert.Goals as goal

pub put_in_order-slot-requires : goal.put_in_order-slot-requires
put_in_order-slot-requires g c =
    let inside = c.self.inside in
    let kept = c.self.invariant in
    let room = subst (λ (d : Lists Mark). maps.len (marks_of d.lists) < d.limit) (sym c.self.view_is) c.requires.room in
    let new = subst (λ (d : Lists Mark). IsNew (marks_of d.lists) c.args.mark.number) (sym c.self.view_is) c.requires.new in
    let here = kind-within inside.queues inside.order kept.ordered c.args.mark.kind (kind_place c.args.mark.kind) refl in
    record {
      ordered = kept.ordered;
      room = omega (arith, room, len-marks inside.queues inside.names inside.order kept);
      new = new-number inside.queues inside.names inside.order kept (kind_place c.args.mark.kind) c.args.mark.number here new;
    }

pub insert-requires : goal.insert-requires
insert-requires g c =
    let inside = c.self.inside in
    let room = subst (λ (d : Lists Mark). maps.len (marks_of d.lists) < d.limit) (sym c.self.view_is) c.requires.room in
    let links = all_links inside.queues.lists in
    let few : length links < inside.queues.limit =
    omega (arith, room, len-marks inside.queues inside.names inside.order c.self.invariant, count-all inside.queues.lists) in
    let put = c.put_in_order-slot.ensures in
    record {
      small = omega (arith, put.below, ap (λ (d : Lists Mark). d.limit) put.others, c.self.invariant.bound);
      new = fresh-untagged inside.queues inside.names inside.order c.self.invariant c.put_in_order-slot.result put.fresh;
      room = tagged-room names_total names_exact mark_name name_tag inside.queues.limit _ links _ c.self.invariant.tagged c.self.invariant.room few;
    }

pub insert-requires-2 : goal.insert-requires-2
insert-requires-2 g c =
    let inside = c.self.inside in
    let room = subst (λ (d : Lists Mark). maps.len (marks_of d.lists) < d.limit) (sym c.self.view_is) c.requires.room in
    let links = all_links inside.queues.lists in
    let few : length links < inside.queues.limit =
    omega (arith, room, len-marks inside.queues inside.names inside.order c.self.invariant, count-all inside.queues.lists) in
    record { room = index-room turn_total turn_exact turn_of inside.queues.limit _ links _ c.self.invariant.ordered.turns c.self.invariant.order_room few }

pub invariant_of-self : goal.invariant_of-self
invariant_of-self g c =
    let inside = c.self.inside in
    let off = subst (λ (d : Lists Mark). maps.get (marks_of d.lists) c.args.mark.name ≡ None) (sym c.self.view_is) c.requires.off in
    let new = subst (λ (d : Lists Mark). IsNew (marks_of d.lists) c.args.mark.number) (sym c.self.view_is) c.requires.new in
    let here = kind-within inside.queues inside.order c.self.invariant.ordered c.args.mark.kind (kind_place c.args.mark.kind) refl in
    let put = c.put_in_order-slot.ensures in
    marked-more inside.queues _ inside.names inside.order c.self.invariant c.args.mark
    (kind_place c.args.mark.kind) c.put_in_order-slot.result refl here put.inserted put.others off
    new put.fresh _ c.tag.result c.tag.ensures.tag c.insert.ensures.tags c.insert.ensures.limit _ c.of.result c.of.ensures.turn
    c.insert-2.ensures.map c.insert-2.ensures.limit

pub returns-clause-marks : goal.returns-clause-marks
returns-clause-marks g c =
    let inside = c.self.inside in
    let off = subst (λ (d : Lists Mark). maps.get (marks_of d.lists) c.args.mark.name ≡ None) (sym c.self.view_is) c.requires.off in
    let here = kind-within inside.queues inside.order c.self.invariant.ordered c.args.mark.kind (kind_place c.args.mark.kind) refl in
    let put = c.put_in_order-slot.ensures in
    rw (← c.self.view_is) (marks-more inside.queues _ inside.names inside.order c.self.invariant c.args.mark
    (kind_place c.args.mark.kind) c.put_in_order-slot.result refl here put.inserted put.others off)
