-- What the models of this crate cite of its insides.
pub mod Bytes
pub mod Packed
pub mod Packets
