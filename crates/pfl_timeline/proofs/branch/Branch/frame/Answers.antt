use Rattle.std.proofs.Common.{sym}
use Rattle.pfl_timeline.proofs.Results.{anyway}
use Rattle.pfl_timeline.proofs.Traces.{no-frame, frame-there}
use Rattle.pfl_timeline.proofs.branch.Branch.frame.Goals as goal

pub returns-in-Some-clause-memory : goal.returns-in-Some-clause-memory
returns-in-Some-clause-memory g c =
    anyway _ (frame-there c.args.self.now c.args.ticket c.known.ensures.opening c.known.ensures.branch c.in-Some.place
    (sym c.in-Some.ensures.place) c.frames_are_counted.ensures.there)

pub returns-in-None-clause-answer : goal.returns-in-None-clause-answer
returns-in-None-clause-answer g c =
    no-frame c.args.self.now c.args.ticket c.known.ensures.opening c.known.ensures.branch c.frames_are_counted.ensures.traces c.in-None.ensures.place
