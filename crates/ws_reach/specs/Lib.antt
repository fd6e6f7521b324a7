pub mod Components
pub mod Reach
pub mod Worklist
