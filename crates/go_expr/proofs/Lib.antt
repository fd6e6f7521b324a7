mod ComputedSlices
mod Digits
mod Elements
pub mod Fineness
pub mod Gathering
pub mod Lists
pub mod Lookups
mod Named
pub mod Nodes
mod Numbers
mod SliceFunctions
