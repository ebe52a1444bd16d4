pub mod Requests
pub mod Screens
pub mod Laws
pub mod Visits
pub mod Networks
pub use Rattle.pfl_base.specs as base
