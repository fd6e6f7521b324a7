mod Behind
pub mod Crossing
mod Computed
pub mod Found
pub mod OneSummary
mod Ordered
mod Parts
mod Values
mod Shown
pub mod Fields
