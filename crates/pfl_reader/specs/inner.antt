-- What only contracts of private functions cite.
pub mod Scans
pub mod Feeds
