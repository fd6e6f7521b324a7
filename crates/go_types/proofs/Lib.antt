pub mod OneText
mod Spelled
pub mod Crossing
mod Dropped
