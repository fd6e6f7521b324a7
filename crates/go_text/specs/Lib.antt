pub mod Editions
pub mod Faults
pub mod Named
pub mod Places
pub mod Texts
