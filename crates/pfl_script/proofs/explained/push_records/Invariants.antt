use Rattle.std.proofs.Common.{◌≡◌, ◌++◌, take}
use Rattle.std.specs.List.{flat_map}
use Rattle.pfl_script.specs.Reasons.{record_line}
use Rattle.pfl_script.proofs.explained.push_records.Given as goal

-- the lines of the records so far stand after the text
abbrev pub invariant-loop-record : goal.invariant-loop-record
invariant-loop-record g l = l.text.items ≡ l.initial.text.items ++ flat_map record_line (take l.record-index l.records)
