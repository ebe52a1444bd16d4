use Rattle.std.proofs.Common.{rules, [], ◌∷◌}
use Rattle.pfl_publish.proofs.publisher.Publisher.begin.Goals as goal

pub returns-clause-seen : goal.returns-clause-seen
returns-clause-seen g c = (search rules, search rules, (c.begin_try-viewer-inside.result ∷ [], search rules))
