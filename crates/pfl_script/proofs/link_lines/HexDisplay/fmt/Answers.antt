use Rattle.std.proofs.Common.{refl}
use Rattle.std.proofs.Output.{has_written_append, has_written_of_eq}
use Rattle.pfl_base.specs.Texts.{hex_byte}
use Rattle.pfl_script.proofs.Lists.{text_more}
use Rattle.pfl_script.proofs.link_lines.HexDisplay.fmt.Goals as goal

pub loop-byte-preserved : goal.loop-byte-preserved
loop-byte-preserved g c plain =
    let so_far = c.loop-byte.invariant plain in
    has_written_of_eq _ _ _ _ _ (text_more hex_byte _ _ _ _ refl c.loop-byte-test.true)
    (has_written_append _ _ _ _ _ _ so_far (c.in_ok-write.ensures.writes so_far.plain refl))
