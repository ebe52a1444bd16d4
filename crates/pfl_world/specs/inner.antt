-- What only contracts of private functions and of parts cite, and the proofs that an impl names: no public call of a node, of the
-- pair or of a timeline says any of it.
pub mod Delivering
pub mod Lending
pub mod WorldEdits
pub mod Recording
pub mod BothWays
pub mod SmallEdits
