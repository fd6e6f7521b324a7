-- Lemmas of declarations and statements.
mod Choices
mod Clauses
mod Items
mod Lefts
mod ListReads
pub mod Lists
pub mod Reading
pub mod Steps
