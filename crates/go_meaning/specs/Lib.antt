pub mod Choices
pub mod Meaning
pub mod Programs
pub mod Values
