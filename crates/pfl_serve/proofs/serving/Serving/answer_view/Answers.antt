use Rattle.std.proofs.Common.{rules, ◌≡◌}
use Rattle.pfl_serve.proofs.Broken.{breaks-text}
use Rattle.pfl_serve.proofs.serving.Serving.answer_view.Goals as goal

-- the line was not written whole
pub returns-clause-breaks : goal.returns-clause-breaks
returns-clause-breaks g c =
    let same : c.as_bytes.result.now ≡ c.look-line.result.bytes = search rules in
    breaks-text c.write_text.result _ _ c.as_bytes.result.now _ _ (rw same c.look-line.ensures.viewed) c.write_text.ensures.fault c.write_text.ensures.part
