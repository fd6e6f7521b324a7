pub mod Due
pub mod Reading
pub mod Statements
pub mod Turns
