use Rattle.std.proofs.Common.{◌≡◌, not, true, ◌∙◌, ap, sym}
use Rattle.pfl_table.specs.Tables.{states_of}
use Rattle.pfl_table.specs.inner.Translated.{is_free, translated_in_use}
use Rattle.pfl_table.proofs.Pooled.{passes_here}
use Rattle.pfl_table.proofs.table.StateTable.free_port.Goals as goal

pub returns-then-not-has_translated : goal.returns-then-not-has_translated
returns-then-not-has_translated g c =
    let m = states_of c.args.self.now in
    let r = c.args.rule.now in
    let free : is_free m r c.args.key c.loop-port.port ≡ true =
    ap not (ap (translated_in_use m r) (sym (c.set_port.ensures ∙ c.loop-port.invariant.key c.loop-port.port))
    ∙ (sym c.has_translated.ensures ∙ c.if-not-has_translated.true)) in
    passes_here (is_free m r c.args.key) c.args.ports.last c.loop-port.port free ∙ c.loop-port.invariant.rest
