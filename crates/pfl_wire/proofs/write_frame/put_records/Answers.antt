use Rattle.pfl_wire.specs.Frames.{FitsMessage}
use Rattle.pfl_wire.specs.Spelling.{record_bytes}
use Rattle.pfl_wire.proofs.Laws.{bytes_more, all_more, record_more}
use Rattle.pfl_wire.proofs.write_frame.put_records.Goals as goal

pub loop-message-preserved : goal.loop-message-preserved
loop-message-preserved g c =
    let more = record_more c.args.messages.now c.loop-message.message-index c.message-item.result c.loop-message-test.true c.message-item.is in
    record {
      written = bytes_more record_bytes _ _ c.message-item.result c.args.out.now.items c.loop-message.out.items c.put_record.new.out.items
          more c.loop-message.invariant.written c.in_ok-put_record.ensures.written;
      fit = all_more FitsMessage _ _ c.message-item.result more c.loop-message.invariant.fit c.in_ok-put_record.ensures.fits;
    }
