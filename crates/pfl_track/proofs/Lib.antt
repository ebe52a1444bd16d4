pub mod Names
pub mod Rising
pub mod Moving
pub mod Keeping
pub mod Along
pub mod Families
mod Worked
mod WorkedLevels
mod WorkedRules
mod WorkedScales
pub mod ForCallers
pub mod Testing
pub mod RuleMoving
pub mod RuleRising
pub mod RuleTesting
pub mod RuleAlong
pub mod BareAcks
pub mod Offers
