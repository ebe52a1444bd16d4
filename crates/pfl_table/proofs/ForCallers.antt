-- What proofs of other crates may cite of this crate's proofs; the rest of proofs/ is its own.
pub use Rattle.pfl_table.proofs.Apart.{AreStates-with, AreStates-without, OwnsKeys, OwnsKeys-known, OwnsKeys-unused, SameKeys, SameKeys-itself, found-stands}
pub use Rattle.pfl_table.proofs.Expiries.{TimedBy, first_expiring-states, row_of, state_before}
pub use Rattle.pfl_table.proofs.Expiring.{IsInOrder, IsInOrder-in_order, NoneBefore, in_order-filter, rest_in_order, state_before-asymmetric}
pub use Rattle.pfl_table.proofs.Expiring.{state_before-passed_on}
pub use Rattle.pfl_table.proofs.Tables.{get-states_of, len-states_of, states_of-empty, states_of-with_row}
