use Rattle.pfl_reasons.proofs.Counting.{tickets-counted, tickets-numbers}
use Rattle.pfl_reasons.proofs.Tracing.{traces-counted, traces-there}
use Rattle.pfl_reasons.proofs.laws.frames_are_counted.Goals as goal

pub returns : goal.returns
returns c = record { tickets = tickets-counted; numbers = tickets-numbers; traces = traces-counted; there = traces-there }
