use Rattle.std.proofs.Common.{◌∙◌, ap, sym}
use Rattle.std.specs.List.{slice_get}
use Rattle.pfl_desk.specs.Nodes.{Node}
use Rattle.pfl_receive.specs.Receiving.{cleared_names}
use Rattle.pfl_receive.proofs.Cleared.{cleared-first, cleared-room, cleared-more, cleared-fewer, cleared-none, next-is}
use Rattle.pfl_receive.proofs.clear.clear_states.Goals as goal

pub loop-name-init : goal.loop-name-init
loop-name-init g c = cleared-first c.args.desk.now c.args.creator c.args.bound

pub forget-requires : goal.forget-requires
forget-requires g c =
    let first = c.first_cleared.ensures.first ∙ ap (λ (m : Node). slice_get (cleared_names m c.args.creator c.args.bound) 0) c.parts.ensures.parts in
    let next = next-is _ c.args.creator c.args.bound c.in-Some.name _ first c.in-Some.is in
    record { room = cleared-room _ _ _ _ c.loop-name.invariant c.in-Some.name next c.requires.room }

pub loop-name-preserved : goal.loop-name-preserved
loop-name-preserved g c =
    let first = c.first_cleared.ensures.first ∙ ap (λ (m : Node). slice_get (cleared_names m c.args.creator c.args.bound) 0) c.parts.ensures.parts in
    let next = next-is _ c.args.creator c.args.bound c.in-Some.name _ first c.in-Some.is in
    cleared-more _ _ _ _ c.loop-name.invariant c.in-Some.name next _ c.forget.ensures.node c.forget.ensures.writes

pub loop-name-smaller : goal.loop-name-smaller
loop-name-smaller g c =
    let first = c.first_cleared.ensures.first ∙ ap (λ (m : Node). slice_get (cleared_names m c.args.creator c.args.bound) 0) c.parts.ensures.parts in
    let next = next-is _ c.args.creator c.args.bound c.in-Some.name _ first c.in-Some.is in
    cleared-fewer _ _ _ _ c.loop-name.invariant c.in-Some.name next c.forget.new.self c.forget.ensures.node

pub returns : goal.returns
returns g c =
    let so = c.loop-name.invariant in
    let first = c.first_cleared.ensures.first ∙ ap (λ (m : Node). slice_get (cleared_names m c.args.creator c.args.bound) 0) c.parts.ensures.parts in
    let none = cleared-none _ c.args.creator c.args.bound _ first c.in_default.is in
    record { node = sym none ∙ so.rest; paid = so.paid; writes = so.writes }
