pub mod Changing
mod Forever
mod Growing
mod Likeness
mod Many
pub mod Parting
pub mod Replaying
