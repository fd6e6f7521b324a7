pub mod Functions
pub mod Rules
pub mod Scopes
pub mod Statements
pub mod Views
