pub mod Faults
pub mod Printing
pub mod Serving
pub mod Sitting
