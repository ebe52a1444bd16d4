use Rattle.pfl_node.proofs.flush.frame.marked_message.Goals as goal

pub state_record-requires : goal.state_record-requires
state_record-requires g c = record { left = (c.standing.ensures.parts.each c.args.name _ c.standing.ensures.state).ahead }

pub state_record-requires-in-Update : goal.state_record-requires-in-Update
state_record-requires-in-Update g c = record { left = (c.standing-in-Update.ensures.parts.each c.args.name _ c.standing-in-Update.ensures.state).ahead }

pub update_record-requires : goal.update_record-requires
update_record-requires g c = record { left = (c.standing-in-UpdateShort.ensures.parts.each c.args.name _ c.standing-in-UpdateShort.ensures.state).ahead }
