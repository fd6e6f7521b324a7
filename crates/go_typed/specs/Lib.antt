pub mod Terminating
pub mod Trees
pub mod Views
