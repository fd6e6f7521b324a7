pub mod Claims
pub mod Compiles
pub mod Count
pub mod Held
pub mod Joined
pub mod Laws
pub mod Levels
