mod Computed
pub mod ComputedSlices
mod ComputedStarts
