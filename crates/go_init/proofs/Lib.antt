mod Ascends
mod Bearers
mod Behind
mod Circles
mod Computed
mod ComputedVariables
mod Condensed
mod Depends
mod First
mod FunctionsFirst
mod Graphs
mod InTurn
mod Keys
mod Marked
pub mod Members
mod Named
mod Names
mod Ordered
pub mod Orders
mod Queued
mod Related
mod Results
mod Rooted
mod Steps
pub mod Turns
mod VariableOrders
mod VariablesAmong
mod Waiters
mod Waiting
mod WaysOut
