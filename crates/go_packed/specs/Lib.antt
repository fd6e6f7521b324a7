pub mod Cuts
pub mod Reading
pub mod Spelling
pub mod Tokens
pub mod Whole
