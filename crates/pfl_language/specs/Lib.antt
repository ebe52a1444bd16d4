pub mod BranchWords
pub mod Limits
pub mod inner
pub use Rattle.pfl_base.specs as base
pub use Rattle.pfl_rules.specs as rules
