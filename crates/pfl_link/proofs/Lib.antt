pub mod Setting
pub mod Kept
pub mod Copied
pub mod Framed
pub mod Leading
