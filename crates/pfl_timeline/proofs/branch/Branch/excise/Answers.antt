use Rattle.std.specs.Prelude.{◌≤◌, ◌<◌, length, box_value}
use Rattle.std.specs.Option.{option_map}
use Rattle.std.proofs.Common.{◌∙◌, ap, arith}
use Rattle.pfl_timeline.specs.Excisions.{fallen_places}
use Rattle.pfl_timeline.specs.Rooted.{Rooted}
use Rattle.pfl_timeline.proofs.Giving.{excise-accepts, gave-excised, gave-no_event, no_event-after, no_event-zero}
use Rattle.pfl_timeline.proofs.Results.{anyway}
use Rattle.pfl_timeline.proofs.Sieving.{rooted-excised, has-event}
use Rattle.pfl_timeline.proofs.branch.Branch.excise.Goals as goal
use Rattle.pfl_timeline.proofs.branch.Branch.excise.Goals.{then-place-eq0-via-then-place-eq0, then-place-eq0-via-else-place-eq0+then-len-place}

pub returns-then-place-eq0-clause-gave : goal.returns-then-place-eq0-clause-gave
returns-then-place-eq0-clause-gave g c =
    let r = c.args.self.now in
    gave-no_event r c.args.place (elim c.then-place-eq0.branch [
      | then-place-eq0-via-then-place-eq0 w ↦ no_event-zero c.args.place r.branch w.if-place-eq0.true
      | then-place-eq0-via-else-place-eq0+then-len-place w ↦
          no_event-after c.args.place r.branch (omega (arith, w.if-len-place.true, w.len.ensures.length, ap length w.events.ensures.events))
    ])

pub returns-in_err-rest-clause-memory : goal.returns-in_err-rest-clause-memory
returns-in_err-rest-clause-memory g c =
    let within : c.args.place ≤ length c.args.self.now.branch.events =
    omega (arith, c.if-len-place.false, c.len.ensures.length, ap length c.events.ensures.events) in
    anyway _ (excise-accepts c.args.self.now c.args.place (has-event c.args.place c.args.self.now.branch c.if-place-eq0.false within))

pub returns-in_err-history-clause-memory : goal.returns-in_err-history-clause-memory
returns-in_err-history-clause-memory g c =
    let within : c.args.place ≤ length c.args.self.now.branch.events =
    omega (arith, c.if-len-place.false, c.len.ensures.length, ap length c.events.ensures.events) in
    anyway _ (excise-accepts c.args.self.now c.args.place (has-event c.args.place c.args.self.now.branch c.if-place-eq0.false within))

pub returns-clause-gave : goal.returns-clause-gave
returns-clause-gave g c =
    let within : c.args.place ≤ length c.args.self.now.branch.events =
    omega (arith, c.if-len-place.false, c.len.ensures.length, ap length c.events.ensures.events) in
    gave-excised c.args.self.now _ c.args.place _ (has-event c.args.place c.args.self.now.branch c.if-place-eq0.false within)
    (rooted-excised c.self.inside.name c.self.inside.history.value c.replace.new.dest.value c.replace.result.value
    (option_map box_value c.self.inside.former) c.args.self.now c.args.place c.self.view_is
    (ap box_value c.replace.ensures.after ∙ c.in_ok-history.ensures.history ∙ (rw c.deref.ensures at c.in_ok-rest.ensures.history))
    (ap box_value c.replace.ensures.value))
    ((rw c.deref.ensures at c.in_ok-rest.ensures.fallen) ∙ ap (λ (x : Rooted). fallen_places x.opening c.args.place x.branch) c.self.view_is)
