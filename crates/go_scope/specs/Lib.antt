pub mod Blocks
pub mod Index
pub mod Names
pub mod Order
pub mod Placing
pub mod Scopes
pub mod Specifications
