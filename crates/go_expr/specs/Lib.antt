pub mod Fields
pub mod Known
pub mod Rules
pub mod Verdicts
pub mod Views
