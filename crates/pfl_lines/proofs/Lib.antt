pub mod Commanded
pub mod Values
pub mod Before
pub mod Dotted
pub mod Fronts
pub mod Timeouts
pub mod Letters
pub mod Searched
pub mod KernelWords
pub mod Plain
mod Worked
pub mod WrittenNumbers
pub mod WrittenWords
pub mod WrittenAddresses
pub mod WrittenPackets
pub mod WrittenEvents
pub mod WrittenLines
