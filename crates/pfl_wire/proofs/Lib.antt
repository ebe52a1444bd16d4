mod Worked
pub mod Fields
pub mod Values
pub mod RecordBytes
pub mod Groups
pub mod Loop
pub mod Laws
pub mod Left
pub mod Reading
pub mod ForCallers
