use Rattle.pfl_node.specs.inner.Sending.{frame_with}
use Rattle.pfl_receive.specs.desk.Nodes.{Node}
use Rattle.std.proofs.Common.{◌∙◌, ap, arith}
use Rattle.pfl_wire.specs.Spelling.{spelling}
use Rattle.pfl_node.proofs.Sent.{frame-is, sent-told, sent-short, sent-fits}
use Rattle.pfl_node.proofs.flush.frame_taken.Goals as goal

pub bytes_of-requires-clause-told : goal.bytes_of-requires-clause-told
bytes_of-requires-clause-told g c =
    rw c.parts.ensures.parts (sent-told c.args.desk.now.node c.take_entries.new.self.node c.deref.result.now c.requires.parts c.in_ok-entries.ensures.node
    (c.deref.ensures.value ∙ c.in_ok-entries.ensures.entries))

pub bytes_of-requires-clause-short : goal.bytes_of-requires-clause-short
bytes_of-requires-clause-short g c =
    sent-short c.args.desk.now.node c.deref.result.now c.requires.parts (c.deref.ensures.value ∙ c.in_ok-entries.ensures.entries)

pub returns-clause-bytes : goal.returns-clause-bytes
returns-clause-bytes g c =
    c.in_ok-bytes.ensures.bytes ∙ ap (λ (k : Node). spelling (frame_with k c.deref.result.now)) c.parts.ensures.parts
    ∙ ap spelling (frame-is c.args.desk.now.node c.take_entries.new.self.node c.deref.result.now c.in_ok-entries.ensures.node
    (c.deref.ensures.value ∙ c.in_ok-entries.ensures.entries))

pub returns-clause-fits : goal.returns-clause-fits
returns-clause-fits g c =
    let fits = sent-fits c.args.desk.now.node c.deref.result.now c.requires.parts (c.deref.ensures.value ∙ c.in_ok-entries.ensures.entries) in
    let len = c.in_ok-bytes.ensures.len in
    omega (arith, len, fits)
