pub mod Codes
pub mod Depths
pub mod Names
pub mod Relations
pub mod Sizes
pub mod Texts
pub mod Types
pub mod Views
