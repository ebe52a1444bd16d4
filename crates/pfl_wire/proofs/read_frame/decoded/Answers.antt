use Rattle.std.proofs.lemmas.Result.{err_from_is_err_and}
use Rattle.pfl_wire.specs.Frames.{Frame}
use Rattle.pfl_wire.specs.Reading.{reading}
use Rattle.pfl_wire.proofs.Laws.{fault_decodes}
use Rattle.pfl_wire.proofs.read_frame.decoded.Goals as goal

pub returns-in_err-frame : goal.returns-in_err-frame
returns-in_err-frame g c =
    let p = err_from_is_err_and c.from_residual.result c.from_residual.ensures.1 in
    rw (p.1, p.2) (fault_decodes {Y = Frame} (λ f. f) c.in_err-frame.field-0.0 (reading c.args.bytes.now) c.in_err-frame.ensures)
