use Rattle.pfl_receive.proofs.ForCallers.desk.{writes-then}
use Rattle.pfl_node.proofs.Beginning.{started-node, started-may}
use Rattle.pfl_node.proofs.packet.start.put_new.Goals as goal

pub add_state-requires-clause-parts : goal.add_state-requires-clause-parts
add_state-requires-clause-parts g c = rw c.use_id.ensures.node (started-node c.args.desk.now.node c.args.state c.requires.parts c.requires.known)

pub add_state-requires-clause-may : goal.add_state-requires-clause-may
add_state-requires-clause-may g c = rw c.use_id.ensures.node (started-may c.args.desk.now.node c.args.state c.requires.parts c.requires.known)

pub returns-clause-writes : goal.returns-clause-writes
returns-clause-writes g c = writes-then 1 1 _ _ _ c.use_id.ensures.writes c.add_state.ensures.writes
