pub mod Greater
pub mod Kept
pub mod Keyed
pub mod Laws
pub mod Undone
