use Rattle.std.specs.Prelude.{length, refl}
use Rattle.std.proofs.Common.{◌∙◌, ap, subst, sym}
use Rattle.std.proofs.lemmas.Result.{err_from_is_err_and}
use Rattle.pfl_timeline.specs.Commands.{in_place, past_command}
use Rattle.pfl_timeline.specs.Looks.{IsNotSeen}
use Rattle.pfl_timeline.specs.Memory.{is_refusal, IsAccepted}
use Rattle.pfl_timeline.specs.Replies.{Replied, Shown}
use Rattle.pfl_timeline.specs.Rooted.{Rooted}
use Rattle.pfl_timeline.specs.Timelines.{IsBranch}
use Rattle.pfl_timeline.specs.inner.Looking.{SeesAt}
use Rattle.pfl_timeline.proofs.Answering.{asked-none, looks-still, no_past-is, past-is}
use Rattle.pfl_timeline.proofs.Places.{asked-at, kept-at, none-at, same_there}
use Rattle.pfl_timeline.proofs.Results.{if_err, if_ok, no_ok, not_err, not_ok, ok_anyway}
use Rattle.pfl_timeline.proofs.Wants.{past_accepts}
use Rattle.pfl_timeline.proofs.timeline.Timeline.past.Goals as goal
use Rattle.pfl_timeline.proofs.timeline.Timeline.past.Goals.{in-Some-2, in-None}

pub returns-in_default-clause-refused : goal.returns-in_default-clause-refused
returns-in_default-clause-refused g c =
    asked-none _ c.args.name.now _ (none-at c.args.name.now _ _ c.self.view_is c.self.invariant c.in_default.ensures.value)

pub returns-in_default-clause-still : goal.returns-in_default-clause-still
returns-in_default-clause-still g c = looks-still _ _ _ refl

pub invariant_of-self-in_err-seen : goal.invariant_of-self-in_err-seen
invariant_of-self-in_err-seen g c =
    let w = c.get_mut.follows.holds c.look_at-seen.new.self in
    let same = c.look_at-seen.ensures.unchanged in
    kept-at c.args.name.now _ _ _ c.self.view_is c.self.invariant c.in-Some.ensures.value _ _ w.0 (ap (λ (r : Rooted). r.opening) same)
    (ap (λ (r : Rooted). r.branch.name) same) c.known.ensures.branch

pub returns-in_err-seen-clause-refused : goal.returns-in_err-seen-clause-refused
returns-in_err-seen-clause-refused g c =
    let p = err_from_is_err_and c.from_residual.result c.from_residual.ensures.1 in
    let is = subst (λ (r : Rooted). IsBranch r.opening r.branch) c.look_at-seen.ensures.unchanged c.known.ensures.branch in
    if_err _ p.0 (IsNotSeen c.args.self.now (past_command c.args.self.now c.args.name.now c.args.place)) p.1
    (subst (IsNotSeen c.args.self.now (past_command c.args.self.now c.args.name.now c.args.place)) (sym p.2)
    (ap (λ (done : Replied). is_refusal done.reply) (asked-at c.args.name.now _ _ _ c.self.view_is c.self.invariant c.in-Some.ensures.value _)
    ∙ past_accepts c.in-Some.branch.now c.args.place c.in_err-seen.ensures.memory is))

pub returns-in_err-seen-clause-still : goal.returns-in_err-seen-clause-still
returns-in_err-seen-clause-still g c = looks-still _ _ _ refl

pub returns-in_err-seen-clause-unchanged : goal.returns-in_err-seen-clause-unchanged
returns-in_err-seen-clause-unchanged g c =
    let w = c.get_mut.follows.holds c.look_at-seen.new.self in
    same_there c.args.name.now _ _ _ c.self.view_is c.self.invariant c.in-Some.ensures.value _ _ w.0 c.look_at-seen.ensures.unchanged

pub invariant_of-self-2 : goal.invariant_of-self-2
invariant_of-self-2 g c =
    let w = c.get_mut.follows.holds c.look_at-seen.new.self in
    let same = c.look_at-seen.ensures.unchanged in
    kept-at c.args.name.now _ _ _ c.self.view_is c.self.invariant c.in-Some.ensures.value _ _ w.0 (ap (λ (r : Rooted). r.opening) same)
    (ap (λ (r : Rooted). r.branch.name) same) c.known.ensures.branch

pub returns-clause-seen : goal.returns-clause-seen
returns-clause-seen g c =
    let old = c.in-Some.branch.now in
    elim c.match-branch-2.branch [
      | in-Some-2 w ↦
          let s = subst (λ o. SeesAt
          (g.L.Look.sees c.args.look.now) old.branch.name old.opening old.branch.events c.args.place c.args.writer.now
          c.look_at-seen.new.writer o) w.in-Some-2.is c.in_ok-seen.ensures.seen in
          if_ok _ _ _ w.result-is (
            Shown old.branch.name (length old.branch.events) c.args.place s.1.world,
            asked-at c.args.name.now _ _ _ c.self.view_is c.self.invariant c.in-Some.ensures.value _
                ∙ ap (in_place c.args.self.now) (past-is old.opening old.branch c.args.place s.1.world s.0 s.1.run_to),
            s.1.sees_it,
          )
      | in-None w ↦ not_ok _ _ _ w.result-is
    ]

pub returns-clause-accepted : goal.returns-clause-accepted
returns-clause-accepted g c =
    let old = c.in-Some.branch.now in
    elim c.match-branch-2.branch [
      | in-Some-2 w ↦
          let s = subst (λ o. SeesAt
          (g.L.Look.sees c.args.look.now) old.branch.name old.opening old.branch.events c.args.place c.args.writer.now
          c.look_at-seen.new.writer o) w.in-Some-2.is c.in_ok-seen.ensures.seen in
          ok_anyway _
          (ap (λ (done : Replied). is_refusal done.reply)
          (asked-at c.args.name.now _ _ _ c.self.view_is c.self.invariant c.in-Some.ensures.value _
          ∙ ap (in_place c.args.self.now) (past-is old.opening old.branch c.args.place s.1.world s.0 s.1.run_to)))
      | in-None w ↦ no_ok _ _ _ w.result-is
    ]

pub returns-clause-refused : goal.returns-clause-refused
returns-clause-refused g c =
    let old = c.in-Some.branch.now in
    elim c.match-branch-2.branch [
      | in-Some-2 w ↦ not_err _ _ _ w.result-is
      | in-None w ↦
          if_err _ _ _ w.result-is
          (asked-at c.args.name.now _ _ _ c.self.view_is c.self.invariant c.in-Some.ensures.value _
          ∙ ap (in_place c.args.self.now) (no_past-is old.opening old.branch c.args.place
          (subst (λ o. SeesAt (g.L.Look.sees c.args.look.now) old.branch.name old.opening old.branch.events c.args.place c.args.writer.now
          c.look_at-seen.new.writer o) w.in-None.is c.in_ok-seen.ensures.seen).0))
    ]

pub returns-clause-still : goal.returns-clause-still
returns-clause-still g c = looks-still _ _ _ refl

pub returns-clause-unchanged : goal.returns-clause-unchanged
returns-clause-unchanged g c =
    let w = c.get_mut.follows.holds c.look_at-seen.new.self in
    same_there c.args.name.now _ _ _ c.self.view_is c.self.invariant c.in-Some.ensures.value _ _ w.0 c.look_at-seen.ensures.unchanged
