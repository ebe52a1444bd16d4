-- What the models of this crate cite of its insides.
pub mod Kept
