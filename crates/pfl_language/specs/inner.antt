-- The proofs that an impl names: no public call says any of it.
pub mod BranchWords
