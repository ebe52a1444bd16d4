pub mod inner
pub use Rattle.pfl_base.specs as base
pub use Rattle.pfl_language.specs as language
