pub mod Codes
pub mod Exports
pub mod Summaries
pub mod Views
pub mod Writable
pub mod Fields
