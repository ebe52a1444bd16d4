use Rattle.std.proofs.Common.{◌∙◌, ap, sym, length, List}
use Rattle.std.specs.Prelude.{Option}
use Rattle.std.specs.Option.{option_map_or}
use Rattle.pfl_language.specs.declared.event.Event.{Event}
use Rattle.pfl_language.specs.BranchWords.{same_name}
use Rattle.pfl_timeline.specs.Rooted.{Rooted}
use Rattle.pfl_session.proofs.Telling.{found-here, found-later, found-never}
use Rattle.pfl_session.proofs.room.events_of.Goals as goal

pub loop-branch-preserved : goal.loop-branch-preserved
loop-branch-preserved g c =
    found-later (λ r. same_name r.branch.name c.args.name.now) _ _ _ c.branch-item.is c.loop-branch-test.true (sym c.is_named.ensures.named
    ∙ c.if-is_named.false) ∙ c.loop-branch.invariant

pub returns-then-is_named : goal.returns-then-is_named
returns-then-is_named g c =
    c.len.ensures.length
    ∙ ap (λ (es : List Event). length es) c.events.ensures.events
    ∙ ap (λ (o : Option Rooted). option_map_or (λ r. length r.branch.events) o 0)
    (sym (found-here (λ r. same_name r.branch.name c.args.name.now) _ _ _ c.branch-item.is c.loop-branch-test.true
    (sym c.is_named.ensures.named ∙ c.if-is_named.true)) ∙ c.loop-branch.invariant)

pub returns : goal.returns
returns g c =
    ap (λ (o : Option Rooted). option_map_or (λ r. length r.branch.events) o 0)
    (sym (found-never (λ r. same_name r.branch.name c.args.name.now) _ _ c.loop-branch-test.false) ∙ c.loop-branch.invariant)
