-- Laws of nodes, in their own words (pf.c, if_pfsync.c).
use Rattle.std.specs.Prelude.{◌≡◌, Bool}
use Rattle.pfl_base.specs.declared.direction.Dir.{Dir}
use Rattle.pfl_base.specs.declared.packet.Packet.{Packet}
use Rattle.pfl_receive.specs.table.Tables.{AreStates}
use Rattle.pfl_wire.specs.declared.message.Message.{Message}
use Rattle.pfl_receive.specs.desk.Nodes.{Node}
use Rattle.pfl_node.specs.Packets.{handled}
use Rattle.pfl_receive.specs.Receiving.{taken}

-- whatever record is taken, no two states have one wire key or one stack key, if none had before
abbrev pub RecordsKeepKeysApart : Type 0
RecordsKeepKeysApart = (n : Node) (same_rules : Bool) (m : Message) → AreStates n.states → AreStates (taken n same_rules m).states

-- whatever packet comes, no two states have one wire key or one stack key, if none had before
abbrev pub PacketsKeepKeysApart : Type 0
PacketsKeepKeysApart = (n : Node) (dir : Dir) (p : Packet) → AreStates n.states → AreStates (handled n dir p).node.states

-- limits, rules, clock, creator and next id are those of before
pub record LeavesTheRest (old new : Node) : Type 0 where
  pub limits : new.limits ≡ old.limits
  pub rules : new.rules ≡ old.rules
  pub clock : new.clock ≡ old.clock
  pub creator : new.creator ≡ old.creator
  pub next_id : new.next_id ≡ old.next_id

-- no record changes them
abbrev pub RecordsLeaveTheRest : Type 0
RecordsLeaveTheRest = (n : Node) (same_rules : Bool) (m : Message) → LeavesTheRest n (taken n same_rules m)
