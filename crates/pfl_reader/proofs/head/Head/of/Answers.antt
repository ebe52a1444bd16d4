use Rattle.pfl_reader.proofs.Heads.{head_of-comment, head_of-word}
use Rattle.pfl_reader.proofs.head.Head.of.Goals as goal

pub returns-in-Comment : goal.returns-in-Comment
returns-in-Comment c = head_of-comment c.args.line.now _ c.after.result c.loop-byte.invariant c.loop-byte-test.true c.after.ensures c.in-Comment.is

pub returns-in-Word : goal.returns-in-Word
returns-in-Word c = head_of-word c.args.line.now _ c.after.result c.loop-byte.invariant c.loop-byte-test.true c.after.ensures c.in-Word.is
