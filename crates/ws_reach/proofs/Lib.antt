pub mod Closure
pub mod Components
pub mod Marks
pub mod Reached
pub mod Rows
pub mod Turned
