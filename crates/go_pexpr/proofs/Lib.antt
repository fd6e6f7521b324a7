mod Begins
mod Built
mod ElementTurns
pub mod ListTurns
mod OperatorTurns
mod OptionalTurns
pub mod Pushed
pub mod Reading
pub mod Stands
pub mod Steps
mod SuffixTurns
mod TreeStates
mod Turns
