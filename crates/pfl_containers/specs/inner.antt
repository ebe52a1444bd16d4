-- What only contracts of private functions and what a type keeps cite, and the proofs that an impl names: no public call says any of
-- it. First what indexes of slots have of it, then maps in order, then lists, and then names as keys.
pub mod Entries
pub mod SlotWords
pub mod Arenas
pub mod Balances
pub mod Changes
pub mod Searches
pub mod Trees
pub mod Views
pub mod Rings
pub mod NameOrder
