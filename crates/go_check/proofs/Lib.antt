mod Answered
pub mod BySummaries
mod Found
mod Importables
pub mod One
mod SameImportable
pub mod Some
mod Trees
