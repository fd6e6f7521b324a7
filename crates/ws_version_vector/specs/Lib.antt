pub mod Counts
pub mod Keyed
pub mod Taken
