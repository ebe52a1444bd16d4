use Rattle.pfl_timeline.proofs.Results.{anyway}
use Rattle.pfl_timeline.proofs.Wants.{names-wants}
use Rattle.pfl_timeline.proofs.timeline.Timeline.command.Goals as goal

pub returns-in-Names-clause-memory : goal.returns-in-Names-clause-memory
returns-in-Names-clause-memory g c = anyway _ (names-wants c.args.self.now c.args.command c.in-Names.is)
