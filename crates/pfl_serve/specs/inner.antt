-- What only contracts of private functions cite.
pub mod Answers
pub mod Promises
