pub mod Actions
pub mod Clash
pub mod Imported
