mod Agreement
pub mod Filling
pub mod Firsts
pub mod Groundedness
pub mod Lookups
pub mod Needs
pub mod Pairs
pub mod Signatures
pub mod Silence
pub mod Standing
mod Written
