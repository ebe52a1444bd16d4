-- What only contracts of private functions cite.
pub mod Fitting
pub mod Kept
