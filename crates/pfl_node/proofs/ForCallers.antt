-- What proofs of other crates may cite of this crate's proofs; the rest of proofs/ is its own.
pub use Rattle.pfl_node.proofs.Light.{events-light}
pub use Rattle.pfl_node.proofs.OneState.{handled-apart, taken-apart}
pub use Rattle.pfl_node.proofs.Ruled.{judged-by}
pub use Rattle.pfl_track.proofs.ForCallers as track
pub use Rattle.pfl_receive.proofs.ForCallers.table as table
pub use Rattle.pfl_receive.proofs.ForCallers.desk as desk
pub use Rattle.pfl_receive.proofs.ForCallers as receive
