use Rattle.pfl_timeline.proofs.Giving.{gave-no_past, gave-past, seen-accepts}
use Rattle.pfl_timeline.proofs.Results.{anyway}
use Rattle.pfl_timeline.proofs.Wants.{past_accepts}
use Rattle.pfl_timeline.proofs.branch.Branch.past.Goals as goal

pub returns-in_err-copied-clause-memory : goal.returns-in_err-copied-clause-memory
returns-in_err-copied-clause-memory g c = anyway _ (past_accepts c.args.self.now c.args.place c.in_err-copied.ensures.memory c.known.ensures.branch)

pub returns-in-Some-clause-gave : goal.returns-in-Some-clause-gave
returns-in-Some-clause-gave g c =
    gave-past c.args.self.now _ c.args.place _ _ _ c.look_at.ensures.unchanged c.in_ok-copied.ensures.seen c.in-Some.copied c.in-Some.is

pub returns-in-Some-clause-memory : goal.returns-in-Some-clause-memory
returns-in-Some-clause-memory g c =
    anyway _ (seen-accepts c.args.self.now _ c.args.place _ _ _ c.look_at.ensures.unchanged c.in_ok-copied.ensures.seen c.in-Some.copied c.in-Some.is)

pub returns-in-None-clause-gave : goal.returns-in-None-clause-gave
returns-in-None-clause-gave g c =
    gave-no_past c.args.self.now _ c.args.place _ _ _ c.look_at.ensures.unchanged c.in_ok-copied.ensures.seen c.in-None.is
