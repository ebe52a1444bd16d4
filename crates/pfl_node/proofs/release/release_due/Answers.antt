use Rattle.pfl_node.specs.Releasing.{due_names}
use Rattle.std.specs.List.{slice_get}
use Rattle.pfl_receive.specs.desk.Nodes.{Node, AreParts}
use Rattle.std.proofs.Common.{◌∙◌, sym, arith, ap, subst}
use Rattle.pfl_node.proofs.Released.{released-first, next-due, counted-few, fewer-due, released-more, released-done}
use Rattle.pfl_node.proofs.release.release_due.Goals as goal

pub loop-name-init : goal.loop-name-init
loop-name-init g c = released-first c.args.desk.now c.requires.parts c.requires.room

pub release-requires : goal.release-requires
release-requires g c =
    let so = c.loop-name.invariant in
    let first = sym (c.first_due.ensures.first ∙ ap (λ (k : Node). slice_get (due_names k) 0) c.parts.ensures.parts) ∙ c.in-Some.is in
    let next = next-due _ _ _ c.in-Some.name (subst AreParts c.parts.ensures.parts c.first_due.ensures.parts) so first in
    record { room = next.room }

pub overflow_add-count : goal.overflow_add-count
overflow_add-count g c =
    let so = c.loop-name.invariant in
    let first = sym (c.first_due.ensures.first ∙ ap (λ (k : Node). slice_get (due_names k) 0) c.parts.ensures.parts) ∙ c.in-Some.is in
    let next = next-due _ _ _ c.in-Some.name (subst AreParts c.parts.ensures.parts c.first_due.ensures.parts) so first in
    let few = counted-few _ _ _ so c.in-Some.name next in
    omega (arith, few)

pub loop-name-preserved : goal.loop-name-preserved
loop-name-preserved g c =
    let so = c.loop-name.invariant in
    let first = sym (c.first_due.ensures.first ∙ ap (λ (k : Node). slice_get (due_names k) 0) c.parts.ensures.parts) ∙ c.in-Some.is in
    let next = next-due _ _ _ c.in-Some.name (subst AreParts c.parts.ensures.parts c.first_due.ensures.parts) so first in
    released-more _ _ _ so c.in-Some.name next _ c.release.ensures.node c.release.ensures.writes

pub loop-name-smaller : goal.loop-name-smaller
loop-name-smaller g c =
    let so = c.loop-name.invariant in
    let first = sym (c.first_due.ensures.first ∙ ap (λ (k : Node). slice_get (due_names k) 0) c.parts.ensures.parts) ∙ c.in-Some.is in
    let next = next-due _ _ _ c.in-Some.name (subst AreParts c.parts.ensures.parts c.first_due.ensures.parts) so first in
    rw c.release.ensures.node (fewer-due _ _ _ so c.in-Some.name next)

pub returns : goal.returns
returns g c =
    let none = sym (c.first_due.ensures.first ∙ ap (λ (k : Node). slice_get (due_names k) 0) c.parts.ensures.parts) ∙ c.in_default.is in
    let done = released-done _ _ _ c.loop-name.invariant none in
    record { node = done.node; count = done.all; writes = done.writes }
