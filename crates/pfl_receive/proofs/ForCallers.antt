-- What proofs of other crates may cite of this crate's proofs; the rest of proofs/ is its own.
pub use Rattle.pfl_receive.proofs.Importing.{may-import}
pub use Rattle.pfl_receive.proofs.Resting.{IsImported, IsMergedFrom, deletes, rests}
unfoldable pub use Rattle.pfl_receive.proofs.Resting.{RestsOn}
pub use Rattle.pfl_desk.proofs.ForCallers.table as table
pub use Rattle.pfl_desk.proofs.ForCallers.queue as queue
pub use Rattle.pfl_desk.proofs.ForCallers.defer as defer
pub use Rattle.pfl_desk.proofs.ForCallers as desk
