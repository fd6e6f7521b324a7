pub mod Files
pub mod Printing
pub mod Steps
