use Rattle.std.proofs.Common.{◌≡◌, ℕ, ◌<◌, get_or, true}
use Rattle.pfl_doors.specs.Requests.{is_word_byte}
use Rattle.pfl_doors.proofs.request.word_length.Given as goal

-- the bytes so far are a word's
abbrev pub invariant-loop-index : goal.invariant-loop-index
invariant-loop-index l = (k : ℕ) → k < l.index → is_word_byte (get_or l.bytes k 0) ≡ true
