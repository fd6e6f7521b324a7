mod Accessed
mod Addresses
mod Assignments
mod Calls
mod Computed
mod ComputedPackages
mod ComputedSetups
mod ComputedSlices
mod Counters
mod Cuts
mod Defines
pub mod Editions
mod Elements
mod Expressions
mod Exprs
mod FirstVariables
mod Flows
mod Following
mod Frames
mod Images
mod Lefts
pub mod LinkedNames
mod Linking
mod Literals
mod Loops
mod Named
mod NamedBodies
mod Operands
mod Programs
mod Ranges
mod Referred
mod ReferredBodies
pub mod Refusals
mod RowLemmas
mod RowReads
mod RowSteps
mod Rows
mod Runs
mod Setups
mod Shapes
mod Sources
mod Statements
mod Steps
mod Switches
mod Tests
mod Variables
pub mod WellTyped
mod Zeros
