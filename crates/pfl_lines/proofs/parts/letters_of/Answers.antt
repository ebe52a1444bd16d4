use Rattle.std.proofs.Common.{refl, sym, ◌∙◌}
use Rattle.pfl_lines.specs.Parts.{flag_letters}
use Rattle.pfl_lines.proofs.Letters.{letter_more, letters_whole, none_left, some_left}
use Rattle.pfl_lines.proofs.parts.letters_of.Goals as goal

pub loop-letter-preserved : goal.loop-letter-preserved
loop-letter-preserved c = record {
  items = refl;
  read = c.loop-letter.invariant.read
      ∙ letter_more flag_letters c.loop-letter.letter-index _ (c.loop-letter.flags, c.loop-letter.rest.now)
      (c.with_letter.result.0, c.with_letter.result.1.now) c.loop-letter-test.true c.with_letter.ensures;
}

pub returns-then-is_empty : goal.returns-then-is_empty
returns-then-is_empty c =
    sym (letters_whole c.args.word.now c.loop-letter.rest.now c.loop-letter.flags c.loop-letter.letter-index c.loop-letter-test.false
    c.loop-letter.invariant.read
    ∙ none_left c.loop-letter.flags c.loop-letter.rest.now c.is_empty.result c.is_empty.ensures c.if-is_empty.true)

pub returns-else-is_empty : goal.returns-else-is_empty
returns-else-is_empty c =
    sym (letters_whole c.args.word.now c.loop-letter.rest.now c.loop-letter.flags c.loop-letter.letter-index c.loop-letter-test.false
    c.loop-letter.invariant.read
    ∙ some_left c.loop-letter.flags c.loop-letter.rest.now c.is_empty.result c.is_empty.ensures c.if-is_empty.false)
