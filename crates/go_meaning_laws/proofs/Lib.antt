mod Arrays
mod Binary
mod Computed
mod ComputedStarts
mod Exprs
mod Flows
mod Operators
mod Parts
pub mod Programs
mod Shelf
mod Slices
mod Statements
mod Switches
mod Targets
mod Ticks
pub mod Values
mod Worlds
