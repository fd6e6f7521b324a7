pub mod Finds
pub mod Locals
pub mod Packages
pub mod Sliced
pub mod TypedStatements
pub mod Whole
