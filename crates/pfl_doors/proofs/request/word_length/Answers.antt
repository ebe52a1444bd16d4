use Rattle.std.proofs.Common.{length, arith, rules, sym}
use Rattle.std.proofs.lemmas.List.Sums.{prefix_len_is}
use Rattle.pfl_doors.specs.Requests.{is_word_byte}
use Rattle.pfl_doors.proofs.request.word_length.Goals as goal

-- the first byte that is none of a word ends it
pub returns-then-not-is_word_byte-clause-value : goal.returns-then-not-is_word_byte-clause-value
returns-then-not-is_word_byte-clause-value c =
    sym (prefix_len_is is_word_byte c.args.bytes.now c.loop-index.index 0 (omega arith) c.loop-index.invariant (λ _. search rules))

-- all bytes are a word's
pub returns-clause-value : goal.returns-clause-value
returns-clause-value c =
    sym (prefix_len_is is_word_byte c.args.bytes.now (length c.args.bytes.now) 0 (omega arith) (λ k h. c.loop-index.invariant k (omega (arith, h))) (λ h. absurd (omega (arith, h))))
