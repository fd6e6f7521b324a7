mod Blocks
mod Clauses
mod Declaring
mod Failing
mod Functions
mod Defining
mod Leading
mod Lefts
mod Locals
mod Lookups
mod Meaning
pub mod Repeats
mod Sequences
mod Shown
mod Tests
mod Naming
mod Several
mod Unknown
