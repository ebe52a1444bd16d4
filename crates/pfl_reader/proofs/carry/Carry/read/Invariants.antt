use Rattle.std.proofs.Common.{◌≡◌, ◌<◌, ◌≤◌, ◌⊎◌}
use Rattle.pfl_reader.proofs.Scans.{Reads}
use Rattle.pfl_reader.specs.inner.Scans.{nothing}
use Rattle.pfl_reader.specs.inner.Feeds.{idle}
use Rattle.pfl_reader.specs.Readers.{room, CountsTurns}
use Rattle.pfl_reader.proofs.carry.Carry.read.Given as goal

abbrev pub invariant-loop-byte : goal.invariant-loop-byte
invariant-loop-byte g l = record {
  reads : Reads l.self l.fn.feed.left l.feed.left;
  within : room (idle l.feed) ≤ room (idle l.fn.feed);
  less : (l.self ≡ nothing) ⊎ (room (idle l.feed) < room (idle l.fn.feed));
  awaited : l.self ≡ nothing → l.feed.waiting ≡ l.fn.feed.waiting;
  turns : CountsTurns (idle l.fn.feed) (idle l.feed);
  few : l.fn.feed.turns ≤ 16777216 → l.feed.turns ≤ 16777216;
  stays : l.feed.failed ≡ l.fn.feed.failed;
}

abbrev pub decreases-loop-byte : goal.decreases-loop-byte
decreases-loop-byte g l = room (idle l.feed)
