pub mod Words
pub mod Readings
pub mod Faults
pub mod Numbers
pub mod Addresses
pub mod Parts
pub mod Packets
pub mod EventWords
pub mod AskWords
pub mod Commands
pub mod Rules
pub mod Setup
pub mod Session
pub mod Search
pub mod Written
pub mod Laws
pub mod inner
pub use Rattle.pfl_base.specs as base
pub use Rattle.pfl_rules.specs as rules
pub use Rattle.pfl_language.specs as language
