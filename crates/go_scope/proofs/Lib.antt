pub mod Indexes
pub mod Laws
mod Lookups
mod Orders
mod Uses
