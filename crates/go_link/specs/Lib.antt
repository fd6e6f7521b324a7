pub mod Found
pub mod Links
pub mod Named
