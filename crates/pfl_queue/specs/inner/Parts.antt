-- The parts of what is pending, in the order of frames.
use Rattle.std.specs.Prelude.{List, ◌++◌, map, ℕ, take}
use Rattle.pfl_queue.specs.declared.Entry.{Entry}
use Rattle.pfl_queue.specs.declared.Entry.TheVariants.{Request, Status}
use Rattle.pfl_queue.specs.declared.Mark.{Mark}
use Rattle.pfl_queue.specs.Queues.{Queue}
use Rattle.pfl_queue.specs.Taking.{clear_of, entry_of}

-- these marks, and the first of the requests, statuses and clears: at most n of each
abbrev pub first_of_each : ℕ → List Mark → Queue → List Entry
first_of_each n ms q = map entry_of ms ++ map Request (take n q.requests) ++ map Status (take n q.statuses) ++ map clear_of (take n q.clears)
