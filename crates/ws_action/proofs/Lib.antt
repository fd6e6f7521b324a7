mod Naming
pub mod Imports
pub mod Members
pub mod OneAction
pub mod Order
mod Ascending
mod Hashed
mod Imported
mod ImportPaths
mod Mapped
mod Walks
pub mod Crossing
mod Editions
