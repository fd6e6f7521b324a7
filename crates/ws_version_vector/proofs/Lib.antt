pub mod Kept
pub mod Logged
mod Reading
pub mod Told
mod Tops
