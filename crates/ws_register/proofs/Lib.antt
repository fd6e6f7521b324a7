mod Contents
pub mod Counters
mod Edited
mod Ends
pub mod Exists
pub mod Filed
mod Files
pub mod Greatest
mod Joined
pub mod Laws
mod Listed
mod Order
mod Parts
mod Places
mod Searching
mod Shared
mod TakenAt
mod Walks
