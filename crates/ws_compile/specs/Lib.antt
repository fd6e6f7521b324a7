pub mod Ordered
pub mod Unshown
