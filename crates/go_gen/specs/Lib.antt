pub mod Loops
pub mod Translation
pub mod Views
