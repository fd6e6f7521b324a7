mod Both
pub mod Crossing
pub mod Joined
pub mod Laws
pub mod Outcomes
pub mod SomeResult
mod Sunk
