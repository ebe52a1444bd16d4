-- What only contracts of private functions and of parts cite, and the proofs that an impl names: no public call of a node, of the
-- pair or of a timeline says any of it.
pub mod Deciding
pub mod Delivering
