pub mod Crossing
mod HandFacts
mod Keeping
