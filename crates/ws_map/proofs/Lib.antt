pub mod Gathered
pub mod Greater
pub mod Itself
pub mod Kept
pub mod Keyed
mod Undone
