pub mod Screening
mod Worked
pub mod Requested
pub mod Refusing
