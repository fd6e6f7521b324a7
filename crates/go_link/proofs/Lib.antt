mod Firsts
pub mod Found
mod Linked
mod Numbered
mod Placed
