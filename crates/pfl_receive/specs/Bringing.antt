-- What a record says, whatever it comes to.
use Rattle.std.specs.Prelude.{Option, Some, None}
use Rattle.pfl_base.specs.declared.state_name.StateName.{StateName}
use Rattle.pfl_wire.specs.declared.message.StateRecord.{StateRecord}
use Rattle.pfl_wire.specs.declared.message.Message.{Message}
use Rattle.pfl_wire.specs.declared.message.Message.TheVariants as message
use Rattle.pfl_merge.specs.declared.received.Received.{Received}
use Rattle.pfl_desk.specs.bulk.Bulk.{no_name}
use Rattle.pfl_receive.specs.Receiving.{of_state, of_update}

-- the name that a record is about; a clear and a bulk status are about none
abbrev pub name_in : Message → StateName
name_in (message.Clear creator bound) = no_name
name_in (message.Insert r) = r.name
name_in (message.InsertAck name) = name
name_in (message.Update r) = r.name
name_in (message.UpdateShort u) = u.name
name_in (message.UpdateRequest name) = name
name_in (message.Delete r) = r.name
name_in (message.DeleteShort name) = name
name_in (message.Bulk creator status) = no_name

-- the state that a record brings whole; another brings none
abbrev pub whole_in : Message → Option StateRecord
whole_in (message.Insert r) = Some r
whole_in (message.Update r) = Some r
whole_in other = None

-- what a record brings of a state that may be known; another brings nothing
abbrev pub received_in : Message → Option Received
received_in (message.Update r) = Some (of_state r)
received_in (message.UpdateShort u) = Some (of_update u)
received_in other = None
