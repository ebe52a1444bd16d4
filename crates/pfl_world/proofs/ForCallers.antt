-- What proofs of other crates may cite of this crate's proofs; the rest of proofs/ is its own.
pub use Rattle.pfl_world.proofs.Lab.{limits, name, opening, u1, u2, u3}
unfoldable pub use Rattle.pfl_world.proofs.Lab.{computing}
pub use Rattle.pfl_world.proofs.Leads.{where_err}
pub use Rattle.pfl_world.proofs.LimitFaults.{no_fault, too_large, too_small}
pub use Rattle.pfl_world.proofs.OnTapes.{no_shorter, split}
pub use Rattle.pfl_world.proofs.Stepping.{event_wants}
pub use Rattle.pfl_rules.proofs.ForCallers as rules
pub use Rattle.pfl_node.proofs.ForCallers.track as track
pub use Rattle.pfl_node.proofs.ForCallers.table as table
pub use Rattle.pfl_wire.proofs.ForCallers as wire
pub use Rattle.pfl_node.proofs.ForCallers.desk as desk
pub use Rattle.pfl_node.proofs.ForCallers.receive as receive
pub use Rattle.pfl_node.proofs.ForCallers as node
