use Rattle.std.proofs.Common.{◌≡◌, ◌++◌}
use Rattle.std.specs.List.{flat_map}
use Rattle.pfl_wire.specs.Frames.{records_of}
use Rattle.pfl_script.specs.Frames.{sent_record_line}
use Rattle.pfl_script.proofs.traced.push_sent_records.Given as goal

-- with the lines of the records that are left the text is whole
abbrev pub invariant-loop-message : goal.invariant-loop-message
invariant-loop-message g l = l.text.items ++ flat_map sent_record_line l.message-iterator ≡ l.initial.text.items
    ++ flat_map sent_record_line (records_of l.frame)
