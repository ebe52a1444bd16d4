use Rattle.std.specs.List.{slice_get}
use Rattle.pfl_receive.specs.desk.Nodes.{Node}
use Rattle.pfl_edits.specs.Maps as maps
use Rattle.std.proofs.Common.{◌∙◌, sym, ap}
use Rattle.pfl_node.proofs.Cleared.{emptied-first, next-name, fewer-states, emptied-more, emptied-done}
use Rattle.pfl_node.proofs.clear.forget_all.Goals as goal

pub loop-name-init : goal.loop-name-init
loop-name-init g c = emptied-first c.args.desk.now c.requires.room

pub forget-requires : goal.forget-requires
forget-requires g c =
    let so = c.loop-name.invariant in
    let first = sym (c.first_name.ensures.first ∙ ap (λ (k : Node). slice_get (maps.keys k.states) 0) c.parts.ensures.parts) ∙ c.in-Some.is in
    let next = next-name _ _ c.in-Some.name so first in
    record { room = next.room }

pub loop-name-preserved : goal.loop-name-preserved
loop-name-preserved g c =
    let so = c.loop-name.invariant in
    let first = sym (c.first_name.ensures.first ∙ ap (λ (k : Node). slice_get (maps.keys k.states) 0) c.parts.ensures.parts) ∙ c.in-Some.is in
    let next = next-name _ _ c.in-Some.name so first in
    emptied-more _ _ so c.in-Some.name next _ c.forget.ensures.node c.forget.ensures.writes

pub loop-name-smaller : goal.loop-name-smaller
loop-name-smaller g c =
    let so = c.loop-name.invariant in
    let first = sym (c.first_name.ensures.first ∙ ap (λ (k : Node). slice_get (maps.keys k.states) 0) c.parts.ensures.parts) ∙ c.in-Some.is in
    let next = next-name _ _ c.in-Some.name so first in
    rw c.forget.ensures.node (fewer-states _ _ so c.in-Some.name next)

pub returns : goal.returns
returns g c =
    let none = sym (c.first_name.ensures.first ∙ ap (λ (k : Node). slice_get (maps.keys k.states) 0) c.parts.ensures.parts) ∙ c.in_default.is in
    let done = emptied-done _ _ c.loop-name.invariant none in
    record { node = done.node; writes = done.writes }
