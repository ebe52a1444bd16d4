use Rattle.std.proofs.Common.{List, sym, ◌∙◌, ap, subst}
use Rattle.std.specs.Prelude.{Option, Some}
use Rattle.std.specs.List.{IsDistinct, insert}
use Rattle.pfl_base.specs.declared.state_name.StateName.{StateName}
use Rattle.pfl_base.specs.Names.{is_name}
use Rattle.pfl_edits.specs.Places.{StandsAt, with_position}
use Rattle.pfl_queue.proofs.Asking.{insert-removed}
use Rattle.pfl_queue.proofs.requests.Requests.set.Goals as goal

pub insert-requires-in-Some-Some-clause-once : goal.insert-requires-in-Some-Some-clause-once
insert-requires-in-Some-Some-clause-once g c =
    let listed = c.args.self.now.listed in
    let i = c.args.position in
    let stands = subst (StandsAt listed i) c.in-Some-Some.is-0 c.requires.stands in
    let same = ap (λ (xs : List StateName). insert xs i c.in-Some-Some.name) c.remove-in-Some-Some.ensures.listed
    ∙ insert-removed listed i c.in-Some-Some.field-0-0 c.in-Some-Some.name stands in
    let once = subst (λ (o : Option StateName). IsDistinct is_name (with_position listed i o c.args.after)) c.in-Some-Some.is-0 c.requires.once in
    subst (IsDistinct is_name) (sym same)
    (subst (λ (o : Option StateName). IsDistinct is_name (with_position listed i (Some c.in-Some-Some.field-0-0) o)) c.in-Some-Some.is-1 once)

pub returns-in-Some-Some-clause-listed : goal.returns-in-Some-Some-clause-listed
returns-in-Some-Some-clause-listed g c =
    let listed = c.args.self.now.listed in
    let i = c.args.position in
    let stands = subst (StandsAt listed i) c.in-Some-Some.is-0 c.requires.stands in
    c.insert-in-Some-Some.ensures.listed
    ∙ (ap (λ (xs : List StateName). insert xs i c.in-Some-Some.name) c.remove-in-Some-Some.ensures.listed
    ∙ (insert-removed listed i c.in-Some-Some.field-0-0 c.in-Some-Some.name stands
    ∙ (ap (λ (o : Option StateName). with_position listed i (Some c.in-Some-Some.field-0-0) o) (sym c.in-Some-Some.is-1)
    ∙ ap (λ (o : Option StateName). with_position listed i o c.args.after) (sym c.in-Some-Some.is-0))))
