mod ByPath
mod Contexts
mod Dotted
pub mod Faultless
mod Groups
mod Marks
pub mod OneFault
pub mod OneTyped
mod Own
mod Parts
mod Repeated
mod Several
mod Single
pub mod SomeFacts
mod SomeMarks
mod SomeTable
mod Sources
mod Walks
pub mod Whole
pub mod Within
