use Rattle.pfl_publish.proofs.KeepsCount.{begins}
use Rattle.pfl_publish.proofs.count.tally.Tally.new.Goals as goal

pub of_words-requires : goal.of_words-requires
of_words-requires g c = begins
