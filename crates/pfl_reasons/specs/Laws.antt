-- Explanations and events agree (this project's profile).
use Rattle.std.specs.Prelude.{Bool}
use Rattle.pfl_wire.specs.declared.message.Message.{Message}
use Rattle.pfl_world.specs.desk.Nodes.{Node}
use Rattle.pfl_world.specs.receive.Receiving.{taken}
use Rattle.pfl_reasons.specs.Records.{FatedSo, record_fate}

-- each record counts as its fate says
abbrev pub RecordsAreCountedSo : Type 0
RecordsAreCountedSo = (n : Node) (same_rules : Bool) (m : Message) → FatedSo n m (record_fate n same_rules m) (taken n same_rules m)
