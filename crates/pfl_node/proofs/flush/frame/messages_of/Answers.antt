use Rattle.std.proofs.Common.{◌∙◌, ap}
use Rattle.std.specs.List.{flat_map}
use Rattle.std.proofs.lemmas.List.{take_all}
use Rattle.pfl_node.specs.Flushing.{messages_of}
use Rattle.pfl_node.specs.inner.Sending.{IsTold}
use Rattle.pfl_base.proofs.ForCallers.{each-get_or}
use Rattle.pfl_node.proofs.Grouped.{messages-more}
use Rattle.pfl_node.proofs.flush.frame.messages_of.Goals as goal

pub message_of-requires : goal.message_of-requires
message_of-requires g c = record {
  told = each-get_or
      (IsTold c.args.parts.now) c.args.entries.now c.loop-entry.entry-index _ c.requires.told c.loop-entry-test.true;
}

pub loop-entry-preserved : goal.loop-entry-preserved
loop-entry-preserved g c =
    messages-more c.args.parts.now c.args.entries.now c.loop-entry.entry-index _ c.loop-entry.messages.items _ c.message_of.result
    c.loop-entry-test.true c.loop-entry.invariant c.message_of.ensures.message c.in_ok-push.ensures.items

pub returns : goal.returns
returns g c = record {
  messages = c.loop-entry.invariant
      ∙ ap (flat_map (messages_of c.args.parts.now)) (take_all c.loop-entry.entry-index c.args.entries.now c.loop-entry-test.false);
}
