-- How the events of a list are kept: no contract of a public call says any of it.
pub mod KeptEvents
