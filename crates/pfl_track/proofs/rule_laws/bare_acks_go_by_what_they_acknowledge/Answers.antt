use Rattle.pfl_track.proofs.BareAcks.{bare-acks}
use Rattle.pfl_track.proofs.rule_laws.bare_acks_go_by_what_they_acknowledge.Goals as goal

pub returns : goal.returns
returns c = bare-acks
