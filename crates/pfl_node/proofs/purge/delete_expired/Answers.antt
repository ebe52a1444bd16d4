use Rattle.pfl_node.specs.Purging.{expired_among}
use Rattle.std.specs.List.{slice_get}
use Rattle.pfl_receive.specs.desk.Nodes.{Node, AreParts}
use Rattle.std.proofs.Common.{false, ◌+◌, ◌||◌, ◌∙◌, sym, subst, arith, ap}
use Rattle.std.proofs.lemmas.Result.{err_from_is_err_and}
use Rattle.pfl_receive.specs.desk.Drafts.{Draft}
use Rattle.pfl_node.proofs.Purged.{IsPurged, found-is, purged-first, next-is, counted-few, fewer, purged-more, purged-full, purged-stops, purged-done}
use Rattle.pfl_node.proofs.purge.delete_expired.Goals as goal

pub loop-state-init : goal.loop-state-init
loop-state-init g c = subst (λ (d : Draft). IsPurged c.args.desk.now d 0 false) (sym c.order_expiries.ensures.same)
    (purged-first c.args.desk.now c.requires.parts c.requires.room)

pub delete-requires : goal.delete-requires
delete-requires g c =
    let so = c.loop-state.invariant in
    let first = sym (c.first_expired.ensures.first ∙ ap (λ (k : Node). slice_get (expired_among c.len-states.result k) 0) c.parts-in-loop-state.ensures.parts) ∙ c.in-Some.is in
    let same = found-is c.args.desk.now _ c.len-states.result c.len-states.ensures.states (c.states.ensures.states ∙ ap (λ (k : Node). k.states) c.parts.ensures.parts) in
    let next = next-is _ _ _ _ _ c.in-Some.state (subst AreParts c.parts-in-loop-state.ensures.parts c.first_expired.ensures.parts) so same first in
    record { room = next.room; stands = next.stands }

pub returns-in_err-delete-clause-went : goal.returns-in_err-delete-clause-went
returns-in_err-delete-clause-went g c =
    let p = err_from_is_err_and c.from_residual.result c.from_residual.ensures.1 in
    let so = c.loop-state.invariant in
    let first = sym (c.first_expired.ensures.first ∙ ap (λ (k : Node). slice_get (expired_among c.len-states.result k) 0) c.parts-in-loop-state.ensures.parts) ∙ c.in-Some.is in
    let same = found-is c.args.desk.now _ c.len-states.result c.len-states.ensures.states (c.states.ensures.states ∙ ap (λ (k : Node). k.states) c.parts.ensures.parts) in
    let next = next-is _ _ _ _ _ c.in-Some.state (subst AreParts c.parts-in-loop-state.ensures.parts c.first_expired.ensures.parts) so same first in
    rw p.1 (purged-full _ _ _ _ so c.in-Some.state next c.in_err-delete.ensures.full)

pub returns-in_err-delete-clause-writes : goal.returns-in_err-delete-clause-writes
returns-in_err-delete-clause-writes g c =
    let so = c.loop-state.invariant in
    let first = sym (c.first_expired.ensures.first ∙ ap (λ (k : Node). slice_get (expired_among c.len-states.result k) 0) c.parts-in-loop-state.ensures.parts) ∙ c.in-Some.is in
    let same = found-is c.args.desk.now _ c.len-states.result c.len-states.ensures.states (c.states.ensures.states ∙ ap (λ (k : Node). k.states) c.parts.ensures.parts) in
    let next = next-is _ _ _ _ _ c.in-Some.state (subst AreParts c.parts-in-loop-state.ensures.parts c.first_expired.ensures.parts) so same first in
    purged-stops _ _ _ _ so c.in-Some.state next _ c.delete.ensures.writes

pub overflow_add-count : goal.overflow_add-count
overflow_add-count g c =
    let so = c.loop-state.invariant in
    let first = sym (c.first_expired.ensures.first ∙ ap (λ (k : Node). slice_get (expired_among c.len-states.result k) 0) c.parts-in-loop-state.ensures.parts) ∙ c.in-Some.is in
    let same = found-is c.args.desk.now _ c.len-states.result c.len-states.ensures.states (c.states.ensures.states ∙ ap (λ (k : Node). k.states) c.parts.ensures.parts) in
    let next = next-is _ _ _ _ _ c.in-Some.state (subst AreParts c.parts-in-loop-state.ensures.parts c.first_expired.ensures.parts) so same first in
    let few = counted-few _ _ _ _ so c.in-Some.state next in
    omega (arith, few)

pub loop-state-preserved : goal.loop-state-preserved
loop-state-preserved g c =
    let so = c.loop-state.invariant in
    let first = sym (c.first_expired.ensures.first ∙ ap (λ (k : Node). slice_get (expired_among c.len-states.result k) 0) c.parts-in-loop-state.ensures.parts) ∙ c.in-Some.is in
    let same = found-is c.args.desk.now _ c.len-states.result c.len-states.ensures.states (c.states.ensures.states ∙ ap (λ (k : Node). k.states) c.parts.ensures.parts) in
    let next = next-is _ _ _ _ _ c.in-Some.state (subst AreParts c.parts-in-loop-state.ensures.parts c.first_expired.ensures.parts) so same first in
    subst (λ (d : Draft). IsPurged c.args.desk.now d (c.loop-state.count + 1) (c.loop-state.overcounted
    || c.is_overcounted-overcounted.result)) (sym c.order_expiries-in-Some.ensures.same)
    (purged-more _ _ _ _ so c.in-Some.state next _ _ c.in_ok-delete.ensures.node c.delete.ensures.writes
    c.is_overcounted-overcounted.ensures.room c.is_overcounted-overcounted.ensures.counted)

pub loop-state-smaller : goal.loop-state-smaller
loop-state-smaller g c =
    let so = c.loop-state.invariant in
    let first = sym (c.first_expired.ensures.first ∙ ap (λ (k : Node). slice_get (expired_among c.len-states.result k) 0) c.parts-in-loop-state.ensures.parts) ∙ c.in-Some.is in
    let same = found-is c.args.desk.now _ c.len-states.result c.len-states.ensures.states (c.states.ensures.states ∙ ap (λ (k : Node). k.states) c.parts.ensures.parts) in
    let next = next-is _ _ _ _ _ c.in-Some.state (subst AreParts c.parts-in-loop-state.ensures.parts c.first_expired.ensures.parts) so same first in
    rw c.order_expiries-in-Some.ensures.same (rw c.in_ok-delete.ensures.node (fewer _ _ _ _ so c.in-Some.state next))

pub returns : goal.returns
returns g c =
    let none = sym (c.first_expired.ensures.first ∙ ap (λ (k : Node). slice_get (expired_among c.len-states.result k) 0) c.parts-in-loop-state.ensures.parts) ∙ c.in_default.is in
    let same = found-is c.args.desk.now _ c.len-states.result c.len-states.ensures.states (c.states.ensures.states ∙ ap (λ (k : Node). k.states) c.parts.ensures.parts) in
    let done = purged-done _ _ _ _ _ c.loop-state.invariant same none in
    record { went = (done.full, done.counted); node = done.node; count = done.all; writes = done.writes }
